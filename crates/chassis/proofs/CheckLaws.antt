-- What the checks of 11 to 14 and 18 say of the ports.
use Prim.Native.Nat.{ℕ, ◌<◌}
use mathlib.Core.Bool.{Bool, true, false, not, cond, ◌&&◌, and-false}
use mathlib.Core.Logic.{◌↔◌}
use mathlib.Core.Path.{◌≡◌, refl}
use lib.Dec.{eqb}
use borrow.Author.Tests.{eqb-true, eqb-false, eq-eqb, ne_eqb}
use Rattle.ids.specs.declared.Rid.{Rid}
use Rattle.ids.specs.declared.Target.{Target}
use Rattle.ids.specs.declared.Target.TheVariants.{Id, Addr}
use Rattle.chassis.specs.Chassis.{Chassis, is_own, holds}
use Rattle.chassis.specs.declared.Fault.TheVariants.{Shared, Stray, Taken}
use Rattle.chassis.specs.Check.{clash, clashes_with, strays_at, takes, taken_at, faulty}
use Rattle.chassis.specs.Findings.{Clash, between_two, with_itself, Clashing}
use Rattle.chassis.specs.Tree.{root_port, stands_at}
use Rattle.chassis.proofs.Bools.{and_true_parts}
use Rattle.chassis.proofs.Ports.{any_below_true, any_below_at, any_below_false}

module _ (c : Chassis) (t : Target) where
  clash_told : (p q : ℕ) → clash c t p q ≡ true → Clash c t p q
  unfolding clash
  clash_told p q e = go (eqb p q) refl e
    where
      go : (same : Bool) → eqb p q ≡ same
          → cond same (is_own c t p && c.claims p t) (stands_at c.tree (c.tree.parent q) p && (holds c t p && holds c t q)) ≡ true
          → Clash c t p q
      go true same told =
          let parts = and_true_parts (is_own c t p) (c.claims p t) told in
          with_itself (eqb-true _ _ same) (record { own = parts.0; claimed = parts.1 })
      go false other told =
          let parts = and_true_parts (stands_at c.tree (c.tree.parent q) p) (holds c t p && holds c t q) told in
          let both = and_true_parts (holds c t p) (holds c t q) parts.1 in
          between_two
          (record { distinct = eqb-false _ _ other; one_place = eqb-true _ _ parts.0; first_holds = both.0; second_holds = both.1 })

  clash_shown : (p q : ℕ) → Clash c t p q → clash c t p q ≡ true
  unfolding clash
  clash_shown p q (between_two two) =
      simp (ne_eqb p q two.distinct, eq-eqb _ _ two.one_place, two.first_holds, two.second_holds)
  clash_shown p q (with_itself same own) = simp (eq-eqb p q same, own.own, own.claimed)

  -- two ports are found to clash exactly if they do
  pub clash_true : (p q : ℕ) → (clash c t p q ≡ true) ↔ Clash c t p q
  clash_true p q = (clash_told p q, clash_shown p q)

  shared_told : faulty Shared c t ≡ true → Clashing c t
  unfolding faulty clashes_with
  shared_told e =
      let p = (any_below_true (clashes_with c t) c.tree.count).0 e in
      let q = (any_below_true (clash c t p.number) c.tree.count).0 p.passes in
      record {
        first = p.number;
        second = q.number;
        first_below = p.below;
        second_below = q.below;
        clashing = clash_told p.number q.number q.passes;
      }

  shared_shown : Clashing c t → faulty Shared c t ≡ true
  unfolding faulty clashes_with
  shared_shown k =
      any_below_at (clashes_with c t) c.tree.count k.first k.first_below
      (any_below_at (clash c t k.first) c.tree.count k.second k.second_below
      (clash_shown k.first k.second k.clashing))

  -- a target is shared exactly if two ports at one place hold it, or a port claims its own ID
  pub shared_true : (faulty Shared c t ≡ true) ↔ Clashing c t
  shared_true = (shared_told, shared_shown)

  -- a target strays where a port that is no root port holds it and its parent does not claim it
  pub stray_shown : (p : ℕ) → p < c.tree.count → (c.tree.kind p ≡ root_port → ⊥) → holds c t p ≡ true
      → c.claims (c.tree.parent p) t ≡ false → faulty Stray c t ≡ true
  unfolding faulty strays_at
  stray_shown p l other held unclaimed =
      any_below_at (strays_at c t) c.tree.count p l (simp (ne_eqb _ _ other, held, unclaimed))

module _ (c : Chassis) where
  -- an ID is taken where a port that is no root port claims it and its parent takes requests for it
  pub taken_shown : (rid : Rid) (p : ℕ) → p < c.tree.count → (c.tree.kind p ≡ root_port → ⊥) → c.claims p (Id rid) ≡ true
      → takes (c.conversion (c.tree.parent p) (Id rid)) ≡ true → faulty Taken c (Id rid) ≡ true
  unfolding faulty taken_at
  taken_shown rid p l other claimed taken =
      any_below_at (taken_at c (Id rid)) c.tree.count p l (simp (ne_eqb _ _ other, claimed, taken))

  -- no address is
  pub no_address_taken : (a : ℕ) → faulty Taken c (Addr a) ≡ false
  unfolding faulty taken_at
  no_address_taken a =
      (any_below_false (taken_at c (Addr a)) c.tree.count).1
      (λ p l. and-false (not (eqb (c.tree.kind p) root_port) && c.claims p (Addr a)))
