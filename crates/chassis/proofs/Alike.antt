-- Two chassis that agree on all the ports that there are: the check gives the same verdict on both.
use Prim.Native.Nat.{ℕ, ◌<◌}
use mathlib.Core.Bool.{Bool, ◌||◌}
use mathlib.Core.Path.{◌≡◌, refl, sym, ◌∙◌, ap, ap₂}
use native.Mathlib.Decide.{ℕ_discrete}
use native.Mathlib.Omega.{arith}
use lib.Dec.{eqb}
use borrow.Author.Tests.{eq-eqb}
use Rattle.ids.specs.declared.PortNo.{PortNo}
use Rattle.ids.specs.declared.Target.{Target}
use Rattle.ids.specs.declared.Target.TheVariants.{Id, Addr}
use Rattle.chassis.specs.declared.Fault.{Fault}
use Rattle.chassis.specs.declared.Fault.TheVariants.{Shared, Stray, Taken}
use Rattle.chassis.specs.declared.Hold.{Hold}
use Rattle.chassis.specs.declared.Verdict.{Verdict}
use Rattle.chassis.specs.declared.Verdict.TheVariants.{Clear, Shared as Found-as-Shared, Stray as Found-as-Stray, Lost, Taken as Found-as-Taken}
use Rattle.chassis.specs.Chassis.{Chassis, is_own, holds}
use Rattle.chassis.specs.Check.{clash, clashes_with, strays_at, own_id_lost, takes, takes_at, taken_at, at_fault, faulty, verdict_of}
use Rattle.chassis.specs.Findings.{Lowest, LeastAt, NoneWith, NoneLost, ItsHold, Says}
use Rattle.chassis.specs.Tree.{root_port, any_below}
use Rattle.chassis.proofs.AlikeTrees.{AlikeTrees, Agree, any_agree}
use Rattle.chassis.proofs.Tree.{Sane, other_parent}
use Rattle.chassis.proofs.Verdicts.{verdict_says, verdict_exactly}

-- two chassis whose ports are alike; whether they redirect is asked only where a packet starts
pub record Alike (c d : Chassis) : Type 0 where
  pub trees : AlikeTrees c.tree d.tree
  pub own_id : (p : ℕ) → p < c.tree.count → c.own_id p ≡ d.own_id p
  pub ari : (p : ℕ) → p < c.tree.count → c.ari p ≡ d.ari p
  pub decoders : (p : ℕ) → p < c.tree.count → (t : Target) → c.decoders p t ≡ d.decoders p t
  pub claims : (p : ℕ) → p < c.tree.count → (t : Target) → c.claims p t ≡ d.claims p t
  pub conversion : (p : ℕ) → p < c.tree.count → (t : Target) → c.conversion p t ≡ d.conversion p t

lowest_agree : {f g : ℕ → Bool} {n m : ℕ} {p : PortNo} → n ≡ m → Agree n f g → Lowest f n p → Lowest g m p
lowest_agree {p = p} count same x =
    record {
      below = omega (arith, x.below);
      passes = sym (same p.0 x.below) ∙ x.passes;
      first = λ q l. sym (same q (omega (arith, x.below))) ∙ x.first q l;
    }

module _ (c d : Chassis) (alike : Alike c d) where
  -- the same IDs are a port's own
  pub own_alike : (t : Target) → Agree c.tree.count (is_own c t) (is_own d t)
  own_alike (Id rid) p l = ap (λ (n : ℕ). eqb n rid.0) (alike.own_id p l)
  own_alike (Addr a) p l = refl

  -- a port holds the same targets
  pub holds_alike : (t : Target) → Agree c.tree.count (holds c t) (holds d t)
  unfolding holds
  holds_alike t p l = ap₂ ◌||◌ (own_alike t p l) (alike.claims p l t)

  -- by the same decoders
  hold_alike : (t : Target) (h : Hold) → h.port.0 < c.tree.count → ItsHold c t h → ItsHold d t h
  hold_alike t h l its =
      its ∙ (λ i. record { port = h.port; own = own_alike t h.port.0 l i; decoders = alike.decoders h.port.0 l t i })

  clash_alike : (t : Target) (p : ℕ) → p < c.tree.count → Agree c.tree.count (clash c t p) (clash d t p)
  unfolding clash
  clash_alike t p l q m =
      rw (own_alike t p l, alike.claims p l t, alike.trees.parent p l, alike.trees.parent q m, holds_alike t p l, holds_alike t q m)

  takes_alike : (t : Target) → Agree c.tree.count (takes_at c t) (takes_at d t)
  takes_alike (Id rid) q l = ap takes (alike.conversion q l (Id rid))
  takes_alike (Addr a) q l = refl

  any_alike : (f g : ℕ → Bool) → Agree c.tree.count f g → any_below f c.tree.count ≡ any_below g d.tree.count
  any_alike f g same = any_agree f g c.tree.count same ∙ ap (any_below g) alike.trees.count

module _ (c d : Chassis) (alike : Alike c d) (sane : Sane c.tree) where
  -- the parent of a port that is no root port is a port, so what it claims is alike too
  stray_alike : (t : Target) → Agree c.tree.count (strays_at c t) (strays_at d t)
  unfolding strays_at
  stray_alike t p l = go (ℕ_discrete (c.tree.kind p) root_port)
    where
      go : Dec (c.tree.kind p ≡ root_port) → strays_at c t p ≡ strays_at d t p
      go (yes top) = rw (← alike.trees.kind p l, eq-eqb (c.tree.kind p) root_port top)
      go (no other) =
          let lower = other_parent c.tree sane p l other in
          let claimed = alike.claims (c.tree.parent p) (omega arith) t in
          rw (alike.trees.kind p l, holds_alike c d alike t p l, ← alike.trees.parent p l, claimed)

  lost_alike : Agree c.tree.count (own_id_lost c) (own_id_lost d)
  unfolding own_id_lost
  lost_alike p l = go (ℕ_discrete (c.tree.kind p) root_port)
    where
      go : Dec (c.tree.kind p ≡ root_port) → own_id_lost c p ≡ own_id_lost d p
      go (yes top) = rw (← alike.trees.kind p l, eq-eqb (c.tree.kind p) root_port top)
      go (no other) =
          let lower = other_parent c.tree sane p l other in
          let claimed = alike.claims (c.tree.parent p) (omega arith) (Id (record { 0 = d.own_id p })) in
          let converted = alike.conversion (c.tree.parent p) (omega arith) (Id (record { 0 = d.own_id p })) in
          rw (alike.trees.kind p l, alike.own_id p l, ← alike.trees.parent p l, claimed, converted)

  taken_alike : (t : Target) → Agree c.tree.count (taken_at c t) (taken_at d t)
  unfolding taken_at
  taken_alike t p l = go (ℕ_discrete (c.tree.kind p) root_port)
    where
      go : Dec (c.tree.kind p ≡ root_port) → taken_at c t p ≡ taken_at d t p
      go (yes top) = rw (← alike.trees.kind p l, eq-eqb (c.tree.kind p) root_port top)
      go (no other) =
          let lower = other_parent c.tree sane p l other in
          rw (alike.trees.kind p l, alike.claims p l t, ← alike.trees.parent p l, takes_alike c d alike t (c.tree.parent p) (omega arith))

  at_fault_alike : (fault : Fault) (t : Target) → Agree c.tree.count (at_fault fault c t) (at_fault fault d t)
  unfolding clashes_with
  at_fault_alike Shared t p l = any_alike c d alike (clash c t p) (clash d t p) (clash_alike c d alike t p l)
  at_fault_alike Stray t p l = stray_alike t p l
  at_fault_alike Taken t p l = taken_alike t p l

  faulty_alike : (fault : Fault) (t : Target) → faulty fault c t ≡ faulty fault d t
  unfolding faulty
  faulty_alike fault t = any_alike c d alike (at_fault fault c t) (at_fault fault d t) (at_fault_alike fault t)

  least_alike : {fault : Fault} {t : Target} {p : PortNo} → LeastAt fault c t p → LeastAt fault d t p
  least_alike {fault} {t} x =
      record {
        in_range = x.in_range;
        passes = sym (faulty_alike fault t) ∙ x.passes;
        first = λ u l. sym (faulty_alike fault u) ∙ x.first u l;
        port = lowest_agree alike.trees.count (at_fault_alike fault t) x.port;
      }

  none_alike : (fault : Fault) → NoneWith fault c → NoneWith fault d
  none_alike fault none t l = sym (faulty_alike fault t) ∙ none t l

  none_lost_alike : NoneLost c → NoneLost d
  none_lost_alike kept p l = sym (lost_alike p (rw alike.trees.count l)) ∙ kept p (rw alike.trees.count l)

  says_alike : (v : Verdict) → Says c v → Says d v
  says_alike (Found-as-Shared t h k) (least, second, first-hold, second-hold) = (
    least_alike least,
    lowest_agree alike.trees.count (clash_alike c d alike t h.port.0 least.port.below) second,
    hold_alike c d alike t h least.port.below first-hold,
    hold_alike c d alike t k second.below second-hold,
  )
  says_alike (Found-as-Stray t h) (none, least, hold) =
      (none_alike Shared none, least_alike least, hold_alike c d alike t h least.port.below hold)
  says_alike (Lost p) (unshared, unstrayed, lowest) =
      (none_alike Shared unshared, none_alike Stray unstrayed, lowest_agree alike.trees.count lost_alike lowest)
  says_alike (Found-as-Taken t h) (unshared, unstrayed, kept, least, hold) = (
    none_alike Shared unshared,
    none_alike Stray unstrayed,
    none_lost_alike kept,
    least_alike least,
    hold_alike c d alike t h least.port.below hold,
  )
  says_alike Clear (none, kept) = (λ fault. none_alike fault (none fault), none_lost_alike kept)

  -- the check gives both the same verdict
  pub verdict_alike : verdict_of c ≡ verdict_of d
  verdict_alike = sym ((verdict_exactly d (verdict_of c)).1 (says_alike (verdict_of c) (verdict_says c)))
