-- Two chassis that agree on all the ports that there are: a packet goes the same way through both.
use Prim.Native.Nat.{ℕ, zero, suc, ◌<◌}
use mathlib.Core.Bool.{Bool, ◌&&◌}
use mathlib.Core.List.{List}
use mathlib.Core.Logic.{◌⊎◌, inl, inr}
use mathlib.Core.Path.{◌≡◌, refl, sym, ◌∙◌, ap, ap₂}
use native.Mathlib.Omega.{arith}
use Rattle.ids.specs.declared.PortNo.{PortNo}
use Rattle.ids.specs.declared.Target.{Target}
use Rattle.ids.specs.declared.Target.TheVariants.{Id, Addr}
use Rattle.chassis.specs.declared.End.{End}
use Rattle.chassis.specs.declared.End.TheVariants.{Function}
use Rattle.chassis.specs.declared.Holders.{Holders}
use Rattle.chassis.specs.declared.Holders.TheVariants.{Nobody, Only, Both}
use Rattle.chassis.specs.declared.Packet.{Packet}
use Rattle.chassis.specs.declared.Packet.TheVariants.{Plain, Config}
use Rattle.chassis.specs.declared.Step.{Step}
use Rattle.chassis.specs.declared.Step.TheVariants.{Stop}
use Rattle.chassis.specs.declared.Whereabouts.{Whereabouts}
use Rattle.chassis.specs.declared.Whereabouts.TheVariants.{Root, Into, From, Redirected, Type0, Type1}
use Rattle.chassis.specs.Chassis.{Chassis, is_own, holds, with_port, lowest_two, passes_at, lowest_at}
use Rattle.chassis.specs.Tree.{root}
use Rattle.chassis.specs.Walk.{target_of, function_number, decided, decides, downward, by_holders, sole_holder, at_place, device_or, upward, from_below, come_to, towards_root, is_redirected, starts_at, under_type0, under_type1, next, Walk, ends, goes}
use Rattle.chassis.proofs.Alike.{Alike, own_alike, holds_alike}
use Rattle.chassis.proofs.AlikeTrees.{Agree, stands_alike, device_alike}
use Rattle.chassis.proofs.Ports.{Says, lowest_two_says}
use Rattle.chassis.proofs.Starts.{come_to_root}
use Rattle.chassis.proofs.Steps.{IsPort, Within, crossing_goes}
use Rattle.chassis.proofs.Tree.{Sane}

lowest_two_agree : (f g : ℕ → Bool) (n : ℕ) → Agree n f g → lowest_two f n ≡ lowest_two g n
unfolding lowest_two
lowest_two_agree f g zero same = refl
lowest_two_agree f g (suc n) same =
    ap₂ (λ (found : Holders) (b : Bool). with_port found n b) (lowest_two_agree f g n (λ i l. same i (omega arith))) (same n (omega arith))

-- steps that agree on the ports there are, behind what a search found
by_holders_agree : (test : ℕ → Bool) (n : ℕ) (found : Holders) (sole sole' : PortNo → Step) {none none' : Step} → Says test n found
    → ((p : PortNo) → p.0 < n → sole p ≡ sole' p) → none ≡ none' → by_holders found sole none ≡ by_holders found sole' none'
unfolding by_holders
by_holders_agree test n Nobody sole sole' says one nobody = nobody
by_holders_agree test n (Only p) sole sole' says one nobody = one p says.below
by_holders_agree test n (Both p q) sole sole' says one nobody = refl

module _ (c d : Chassis) (alike : Alike c d) where
  -- the same ports are found at a place
  lowest_alike : (place : ℕ) (f g : ℕ → Bool) → Agree c.tree.count f g → lowest_at c place f ≡ lowest_at d place g
  unfolding passes_at
  lowest_alike place f g same =
      lowest_two_agree (passes_at c place f) (passes_at d place g) c.tree.count
      (λ i l. ap₂ ◌&&◌ (stands_alike c.tree d.tree alike.trees place i l) (same i l))
      ∙ ap (lowest_two (passes_at d place g)) alike.trees.count

  -- and they lead to the same step
  place_alike : (place : ℕ) (f g : ℕ → Bool) (sole sole' : PortNo → Step) {none none' : Step} → Agree c.tree.count f g
      → ((p : PortNo) → IsPort c p → sole p ≡ sole' p) → none ≡ none'
      → by_holders (lowest_at c place f) sole none ≡ by_holders (lowest_at d place g) sole' none'
  place_alike place f g sole sole' {none} {none'} same one nobody =
      by_holders_agree (passes_at c place f) c.tree.count (lowest_at c place f) sole sole'
      (lowest_two_says (passes_at c place f) c.tree.count) one nobody
      ∙ ap (λ (found : Holders). by_holders found sole' none') (lowest_alike place f g same)

  decides_alike : (t : Target) (p : PortNo) → IsPort c p → decides c t p ≡ decides d t p
  decides_alike t p l = ap (decided p) (alike.conversion p.0 l t)

  downward_alike : (packet : Packet) (p : PortNo) → IsPort c p → downward c packet p ≡ downward d packet p
  unfolding downward
  downward_alike (Plain t) p l = refl
  downward_alike (Config rid) p l = decides_alike (Id rid) p l

  sole_alike : (packet : Packet) (p : PortNo) → IsPort c p → sole_holder c packet p ≡ sole_holder d packet p
  unfolding sole_holder
  sole_alike packet p l = rw (own_alike c d alike (target_of packet) p.0 l, downward_alike packet p l)

  at_place_alike : (packet : Packet) (place : ℕ) {none none' : Step} → none ≡ none'
      → at_place c packet place none ≡ at_place d packet place none'
  at_place_alike packet place nobody =
      place_alike place (holds c (target_of packet)) (holds d (target_of packet)) (sole_holder c packet) (sole_holder d packet)
      (holds_alike c d alike (target_of packet)) (sole_alike packet) nobody

  device_or_alike : (q : PortNo) (function : ℕ) → device_or c q function ≡ device_or d q function
  unfolding device_or
  device_or_alike q function = rw (device_alike c.tree d.tree alike.trees q.0)

  function_alike : (q : PortNo) (t : Target) → IsPort c q → function_number c q.0 t ≡ function_number d q.0 t
  unfolding function_number
  function_alike q (Id rid) l = rw (alike.ari q.0 l)
  function_alike q (Addr a) l = refl

  upward_alike : (t : Target) (q : PortNo) → IsPort c q → upward c t q ≡ upward d t q
  unfolding upward
  upward_alike t q l = rw (alike.claims q.0 l t, alike.trees.parent q.0 l)

  from_below_alike : (packet : Packet) (q : PortNo) → IsPort c q → from_below c packet q ≡ from_below d packet q
  unfolding from_below
  from_below_alike (Plain t) q l = at_place_alike (Plain t) q.0 (upward_alike t q l)
  from_below_alike (Config rid) q l = refl

  towards_root_alike : (q : PortNo) → IsPort c q → towards_root c q ≡ towards_root d q
  unfolding towards_root
  towards_root_alike q l = rw (alike.trees.parent q.0 l)

  redirected_alike : (packet : Packet) (p : ℕ) → p < c.tree.count → c.redirect p ≡ d.redirect p
      → is_redirected c packet p ≡ is_redirected d packet p
  unfolding is_redirected
  redirected_alike (Plain (Addr a)) p l same = rw (same, alike.claims p l (Addr a))
  redirected_alike (Plain (Id rid)) p l same = refl
  redirected_alike (Config rid) p l same = refl

  -- a packet starts alike in both, where ports that redirect are the same
  pub starts_alike : Agree c.tree.count c.redirect d.redirect → (packet : Packet) (p : ℕ)
      → (p ≡ root) ⊎ (p < c.tree.count) → starts_at c packet p ≡ starts_at d packet p
  starts_alike same packet p (inl top) =
      rw (top, come_to_root (is_redirected c packet root), come_to_root (is_redirected d packet root))
  starts_alike same packet p (inr l) = ap (λ (b : Bool). come_to b p) (redirected_alike packet p l (same p l))

  -- the rules give the same step in both
  pub next_alike : (packet : Packet) (w : Whereabouts) → Within c w → next c packet w ≡ next d packet w
  unfolding next under_type0 under_type1
  next_alike packet Root l = at_place_alike packet root refl
  next_alike packet (Into q) l = at_place_alike packet q.0 (device_or_alike q 0)
  next_alike packet (From q) l = from_below_alike packet q l
  next_alike packet (Redirected q) l = towards_root_alike q l
  next_alike packet (Type0 q) l =
      place_alike q.0 (is_own c (target_of packet)) (is_own d (target_of packet)) (λ p. Stop (Function p)) (λ p. Stop (Function p))
      (own_alike c d alike (target_of packet)) (λ p m. refl)
      (rw (function_alike q (target_of packet) l) (device_or_alike q (function_number d q.0 (target_of packet))))
  next_alike packet (Type1 q) l =
      place_alike q.0 (λ p. c.claims p (target_of packet)) (λ p. d.claims p (target_of packet)) (decides c (target_of packet))
      (decides d (target_of packet)) (λ p m. alike.claims p m (target_of packet)) (decides_alike (target_of packet)) refl

  -- a walk through one is a walk through the other
  pub walk_alike : Sane c.tree → (packet : Packet) (w : Whereabouts) (path : List PortNo) (e : End) → Within c w
      → Walk c packet w path e → Walk d packet w path e
  walk_alike sane packet w path e l (ends s) = ends (sym (next_alike packet w l) ∙ s)
  walk_alike sane packet w path e l (goes {v = v} {p = p} {path = rest} s k) =
      goes (sym (next_alike packet w l) ∙ s) (walk_alike sane packet v rest e (crossing_goes c sane packet w v p l s).within k)
