-- Where a packet for a clean target comes to from below, it comes to from the host.
use Prim.Native.Nat.{ℕ, ◌<◌}
use mathlib.Core.Bool.{Bool, true, false, not, cond, ◌&&◌, and-false}
use mathlib.Core.List.{List, [], ◌∷◌}
use mathlib.Core.Path.{◌≡◌, refl, ◌∙◌, subst}
use native.Mathlib.Omega.{arith}
use lib.Dec.{eqb, ltb}
use borrow.Author.Tests.{eqb-false, eq-eqb, ne_eqb, ltb-true, not-true}
use Rattle.ids.specs.declared.PortNo.{PortNo}
use Rattle.ids.specs.declared.Target.{Target}
use Rattle.chassis.specs.declared.End.{End}
use Rattle.chassis.specs.declared.End.TheVariants.{Host, Unsupported}
use Rattle.chassis.specs.declared.Holders.TheVariants.{Nobody}
use Rattle.chassis.specs.declared.Packet.TheVariants.{Plain}
use Rattle.chassis.specs.declared.Step.{Step}
use Rattle.chassis.specs.declared.Step.TheVariants.{Stop, Cross}
use Rattle.chassis.specs.declared.Whereabouts.{Whereabouts}
use Rattle.chassis.specs.declared.Whereabouts.TheVariants.{Root, Into, From}
use Rattle.ids.specs.Ids.{port_no}
use Rattle.chassis.specs.Chassis.{Chassis, holds, lowest_at}
use Rattle.chassis.specs.Tree.{root, root_port, upstream, stands_at, is_device_port}
use Rattle.chassis.specs.Walk.{by_holders, sole_holder, downward, at_place, device_or, come_to, upward, from_below, next, Walk, ends, goes}
use Rattle.chassis.proofs.Bools.{never_both_values, and_true_parts}
use Rattle.chassis.proofs.Ports.{NoneBelow, any_below_at, any_below_false, nobody_at}
use Rattle.chassis.proofs.Tree.{Sane, root_port_parent, other_parent, by_parents}
use Rattle.chassis.proofs.Walks.{walk_rest}
use Rattle.chassis.proofs.Clean.{Clean, claimed_held, sole_where_it_stands, claimed_not_own, held_claimed_above}

-- a port with a child is no device port
pub parent_no_device : (c : Chassis) (p : ℕ) → p < c.tree.count → is_device_port c.tree (c.tree.parent p) ≡ false
unfolding is_device_port
parent_no_device c p l =
    let here : stands_at c.tree (c.tree.parent p) p ≡ true = eq-eqb (c.tree.parent p) (c.tree.parent p) refl in
    rw (any_below_at (stands_at c.tree (c.tree.parent p)) c.tree.count p l here, and-false)

-- a device port is a port, and has no child
device_port : (c : Chassis) (p : ℕ) → is_device_port c.tree p ≡ true
    → (p < c.tree.count) × NoneBelow (stands_at c.tree p) c.tree.count
unfolding is_device_port
device_port c p e =
    let childless = and_true_parts (ltb p c.tree.count && not (eqb (c.tree.kind p) upstream)) _ e in
    let there = and_true_parts (ltb p c.tree.count) (not (eqb (c.tree.kind p) upstream)) childless.0 in (
      ltb-true _ _ there.0,
      (any_below_false (stands_at c.tree p) c.tree.count).0 (not-true _ childless.1),
    )

pub device_port_below : (c : Chassis) (p : ℕ) → is_device_port c.tree p ≡ true → p < c.tree.count
device_port_below c p e = (device_port c p e).0

-- so nobody is found below it
device_alone : (c : Chassis) (p : ℕ) (test : ℕ → Bool) → is_device_port c.tree p ≡ true → lowest_at c p test ≡ Nobody
device_alone c p test e = nobody_at c p test (λ i l stands passes. eqb-false _ _ ((device_port c p e).1 i l) stands)

-- a device port that itself claims the target refuses its own device
pub own_device_refused : (c : Chassis) (t : Target) (d : PortNo) → is_device_port c.tree d.0 ≡ true
    → c.claims d.0 t ≡ true → Walk c (Plain t) (From d) [] (Unsupported d)
unfolding next from_below upward by_holders
own_device_refused c t d device claimed =
    let stops : next c (Plain t) (From d) ≡ Stop (Unsupported d) = rw (device_alone c d.0 (holds c t) device) (rw claimed) in
    ends stops

-- what goes on alike ends alike
same_walk : {c : Chassis} {t : Target} {w v : Whereabouts} {path : List PortNo} {e : End}
    → next c (Plain t) v ≡ next c (Plain t) w → Walk c (Plain t) w path e → Walk c (Plain t) v path e
same_walk same (ends s) = ends (same ∙ s)
same_walk same (goes s k) = goes (same ∙ s) k

-- below a port with a child that claims the target it does not matter from where the packet came
turns_alike : (c : Chassis) (t : Target) (q : PortNo) → is_device_port c.tree q.0 ≡ false → c.claims q.0 t ≡ true
    → next c (Plain t) (Into q) ≡ next c (Plain t) (From q)
unfolding next from_below device_or upward
turns_alike c t q no-device claims = rw (no-device, claims)

-- the host's packet comes to this end
pub record FromHost (c : Chassis) (t : Target) (e : End) : Type 0 where
  pub path : List PortNo
  pub walk : Walk c (Plain t) Root path e

module _ (c : Chassis) (t : Target) (sane : Sane c.tree) (clean : Clean c t) where
  -- where a port stands that claims the target, the packet crosses it downward
  crosses_claimer : (q : ℕ) (none : Step) → q < c.tree.count → c.claims q t ≡ true
      → at_place c (Plain t) (c.tree.parent q) none ≡ Cross (port_no q) (Into (port_no q))
  unfolding by_holders sole_holder downward
  crosses_claimer q none l e =
      rw (sole_where_it_stands c t clean q l (claimed_held c t q e)) (rw (claimed_not_own c t clean q l e))

  -- where a port claims the target, a walk on from below it is the end of a walk from the host
  abbrev ClaimedFromHost : ℕ → Type 0
  ClaimedFromHost q = c.claims q t ≡ true → (path : List PortNo) (e : End) → Walk c (Plain t) (Into (port_no q)) path e → FromHost c t e

  claimed_at_root : (q : ℕ) → q < c.tree.count → c.tree.kind q ≡ root_port → ClaimedFromHost q
  unfolding next
  claimed_at_root q l top claims path e k =
      let crossing = rw (root_port_parent c.tree sane q l top) at (crosses_claimer q (Stop Host) l claims) in
      record { path = port_no q ∷ path; walk = goes crossing k }

  claimed_below : (q : ℕ) → q < c.tree.count → (c.tree.kind q ≡ root_port → ⊥) → ClaimedFromHost (c.tree.parent q)
      → ClaimedFromHost q
  unfolding next
  claimed_below q l lower up claims path e k =
      up (held_claimed_above c t clean q l lower (claimed_held c t q claims)) _ e
      (goes (crosses_claimer q (device_or c (port_no (c.tree.parent q)) 0) l claims) k)

  claimed_from_host : (q : ℕ) → q < c.tree.count → ClaimedFromHost q
  claimed_from_host = by_parents c.tree sane ClaimedFromHost claimed_at_root claimed_below

  -- below a port that does not claim the target nobody holds it
  nobody_below : (q : PortNo) → q.0 < c.tree.count → c.claims q.0 t ≡ false → lowest_at c q.0 (holds c t) ≡ Nobody
  nobody_below q l unclaimed = nobody_at c q.0 (holds c t) none
    where
      none : (p : ℕ) → p < c.tree.count → c.tree.parent p ≡ q.0 → holds c t p ≡ true → ⊥
      none p m stands held =
          let lower : c.tree.kind p ≡ root_port → ⊥ = λ k. omega (arith, root_port_parent c.tree sane p m k, sane.few) in
          let claims = held_claimed_above c t clean p m lower held in
          never_both_values (c.claims q.0 t) (rw stands at claims) unclaimed

  -- so it crosses that port upward
  goes_up : (q : PortNo) → q.0 < c.tree.count → c.claims q.0 t ≡ false
      → next c (Plain t) (From q) ≡ Cross q (come_to false (c.tree.parent q.0))
  unfolding next from_below upward by_holders
  goes_up q l unclaimed = rw (nobody_below q l unclaimed) (rw unclaimed)

  -- unless a device port claims the target, a walk from below it is the end of a walk from the host
  abbrev BelowFromHost : ℕ → Type 0
  BelowFromHost q =
      (c.claims q t ≡ true → is_device_port c.tree q ≡ false) → (path : List PortNo) (e : End)
      → Walk c (Plain t) (From (port_no q)) path e → FromHost c t e

  -- where it claims the target, the walk turns downward; else it goes on above
  turned_or_above : (q : ℕ) → q < c.tree.count
      → ((path : List PortNo) (e : End) → Walk c (Plain t) (come_to false (c.tree.parent q)) path e → FromHost c t e)
      → BelowFromHost q
  turned_or_above q l above no-device path e k = go (c.claims q t) refl
    where
      go : (b : Bool) → c.claims q t ≡ b → FromHost c t e
      go true claims = claimed_from_host q l claims path e (same_walk (turns_alike c t (port_no q) (no-device claims) claims) k)
      go false claims =
          let rest = walk_rest (goes_up (port_no q) l claims) k in
          above rest.0 e rest.1

  below_at_root : (q : ℕ) → q < c.tree.count → c.tree.kind q ≡ root_port → BelowFromHost q
  unfolding come_to
  below_at_root q l top = turned_or_above q l above
    where
      above : (path : List PortNo) (e : End) → Walk c (Plain t) (come_to false (c.tree.parent q)) path e → FromHost c t e
      above path e k =
          let at-root = root_port_parent c.tree sane q l top in
          record { path = path; walk = subst (λ (place : ℕ). Walk c (Plain t) (come_to false place) path e) at-root k }

  below_below : (q : ℕ) → q < c.tree.count → (c.tree.kind q ≡ root_port → ⊥) → BelowFromHost (c.tree.parent q)
      → BelowFromHost q
  unfolding come_to
  below_below q l lower up = turned_or_above q l above
    where
      above : (path : List PortNo) (e : End) → Walk c (Plain t) (come_to false (c.tree.parent q)) path e → FromHost c t e
      above path e k =
          let less = other_parent c.tree sane q l lower in
          let port = ne_eqb (c.tree.parent q) root (λ at-root. omega (arith, sane.few)) in
          up (λ claimed. parent_no_device c q l) path e
          (subst (λ (b : Bool). Walk c (Plain t) (cond b Root (From (port_no (c.tree.parent q)))) path e) port k)

  -- the end of a packet that started below a device port which does not claim the target is the end of the host's packet
  pub same_end : (d : PortNo) {path : List PortNo} {e : End} → is_device_port c.tree d.0 ≡ true → c.claims d.0 t ≡ false
      → Walk c (Plain t) (From d) path e → FromHost c t e
  same_end d {path} {e} device unclaimed k =
      by_parents c.tree sane BelowFromHost below_at_root below_below d.0 (device_port_below c d.0 device)
      (λ claimed. never_both_values (c.claims d.0 t) claimed unclaimed) path e k
