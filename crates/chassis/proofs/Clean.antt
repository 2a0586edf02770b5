-- A target that is neither shared nor astray: who holds it at a place, and who claims it above.
use Prim.Native.Nat.{ℕ, ◌<◌}
use mathlib.Core.Bool.{Bool, true, false, or-true}
use mathlib.Core.Path.{◌≡◌, refl, sym, ◌∙◌}
use native.Mathlib.Decide.{ℕ_discrete}
use native.Mathlib.Omega.{arith}
use Rattle.ids.specs.declared.PortNo.{PortNo}
use Rattle.ids.specs.declared.Target.{Target}
use Rattle.chassis.specs.declared.Holders.TheVariants.{Only, Both}
use Rattle.ids.specs.Ids.{port_no}
use Rattle.chassis.specs.Chassis.{Chassis, is_own, holds, passes_at, lowest_at}
use Rattle.chassis.specs.declared.Fault.TheVariants.{Shared, Stray}
use Rattle.chassis.specs.Check.{faulty}
use Rattle.chassis.specs.Tree.{root_port}
use Rattle.chassis.proofs.Bools.{never_both_values}
use Rattle.chassis.proofs.Ports.{passes_at_true, lowest_at_is}
use Rattle.chassis.specs.Findings.{Clash, between_two, with_itself}
use Rattle.chassis.proofs.CheckLaws.{shared_true, stray_shown}

pub record Clean (c : Chassis) (t : Target) : Type 0 where
  pub unshared : faulty Shared c t ≡ false
  pub unstrayed : faulty Stray c t ≡ false

pub claimed_held : (c : Chassis) (t : Target) (p : ℕ) → c.claims p t ≡ true → holds c t p ≡ true
unfolding holds
claimed_held c t p e = rw (e, or-true)

pub own_held : (c : Chassis) (t : Target) (p : ℕ) → is_own c t p ≡ true → holds c t p ≡ true
unfolding holds
own_held c t p e = rw e

module _ (c : Chassis) (t : Target) (clean : Clean c t) where
  no_clash : (p q : ℕ) → p < c.tree.count → q < c.tree.count → Clash c t p q → ⊥
  no_clash p q l m k =
      never_both_values (faulty Shared c t)
      ((shared_true c t).1 (record { first = p; second = q; first_below = l; second_below = m; clashing = k }))
      clean.unshared

  -- of the ports at one place at most one holds it
  pub one_holder : (p q : ℕ) → p < c.tree.count → q < c.tree.count → c.tree.parent p ≡ c.tree.parent q
      → holds c t p ≡ true → holds c t q ≡ true → p ≡ q
  one_holder p q l m place h k = go (ℕ_discrete p q)
    where
      go : Dec (p ≡ q) → p ≡ q
      go (yes same) = same
      go (no other) =
          absurd (no_clash p q l m (between_two (record { distinct = other; one_place = place; first_holds = h; second_holds = k })))

  -- a port that passes a test which only its holders pass is found alone where it stands
  pub sole_that_passes : (test : ℕ → Bool) → ((i : ℕ) → test i ≡ true → holds c t i ≡ true) → (p : ℕ) → p < c.tree.count
      → test p ≡ true → lowest_at c (c.tree.parent p) test ≡ Only (port_no p)
  sole_that_passes test held p l e =
      (lowest_at_is c (c.tree.parent p) test (Only (port_no p))).1
      (record { below = l; passes = (passes_at_true c (c.tree.parent p) test p).1 (refl, e); only = only })
    where
      only : (i : ℕ) → i < c.tree.count → passes_at c (c.tree.parent p) test i ≡ true → i ≡ p
      only i m passes =
          let parts = (passes_at_true c (c.tree.parent p) test i).0 passes in
          one_holder i p m l parts.0 (held i parts.1) (held p e)

  pub sole_where_it_stands : (p : ℕ) → p < c.tree.count → holds c t p ≡ true
      → lowest_at c (c.tree.parent p) (holds c t) ≡ Only (port_no p)
  sole_where_it_stands = sole_that_passes (holds c t) (λ i e. e)

  -- no place has two holders
  pub never_two : (place : ℕ) (p q : PortNo) → lowest_at c place (holds c t) ≡ Both p q → ⊥
  never_two place p q e =
      let two = (lowest_at_is c place (holds c t) (Both p q)).0 e in
      let first = (passes_at_true c place (holds c t) p.0).0 two.first_passes in
      let second = (passes_at_true c place (holds c t) q.0).0 two.second_passes in
      let same = one_holder p.0 q.0 (omega arith) two.below (first.0 ∙ sym second.0) first.1 second.1 in
      omega (arith, two.ordered)

  -- a port that claims it does so for others: it is not its own
  pub claimed_not_own : (p : ℕ) → p < c.tree.count → c.claims p t ≡ true → is_own c t p ≡ false
  claimed_not_own p l e = go (is_own c t p) refl
    where
      go : (own : Bool) → is_own c t p ≡ own → is_own c t p ≡ false
      go false is = is
      go true is = absurd (no_clash p p l l (with_itself refl (record { own = is; claimed = e })))

  -- what a port below another holds, that other claims
  pub held_claimed_above : (p : ℕ) → p < c.tree.count → (c.tree.kind p ≡ root_port → ⊥) → holds c t p ≡ true
      → c.claims (c.tree.parent p) t ≡ true
  held_claimed_above p l k h = go (c.claims (c.tree.parent p) t) refl
    where
      go : (b : Bool) → c.claims (c.tree.parent p) t ≡ b → c.claims (c.tree.parent p) t ≡ true
      go true e = e
      go false e =
          never_both_values (faulty Stray c t) (stray_shown c t p l k h e) clean.unstrayed
