-- What the search for the first pair has passed, and what it has found. Assumes nothing.
use Prim.Native.Nat.{ℕ, zero-le, ◌<◌}
use mathlib.Core.Bool.{true, false}
use mathlib.Core.Path.{◌≡◌}
use Rattle.std.specs.Prelude.{Some}
use Rattle.ids.specs.declared.Target.{Target}
use Rattle.least.specs.Least.{first_in}
use Rattle.least.proofs.Laws.{NoneIn, at_is, none_is}
use Rattle.ids.specs.Ids.{port_no, no_port}
use Rattle.chassis.specs.Chassis.{Chassis}
use Rattle.chassis.specs.Check.{clash, clashes_with, found}
use Rattle.chassis.proofs.Ports.{any_below_at, any_below_false}
use Rattle.culprits.specs.Culprits.{pair_at}

module _ (c : Chassis) (t : Target) (p : ℕ) where
  -- port p was tried with all
  pub tried : NoneIn (clash c t p) 0 c.tree.count → clashes_with c t p ≡ false
  unfolding clashes_with
  tried none = (any_below_false (clash c t p) c.tree.count).1 (λ i k. none.none i zero-le k)

  -- and clashes with q
  pub clashing_with : {q : ℕ} → q < c.tree.count → clash c t p q ≡ true → clashes_with c t p ≡ true
  unfolding clashes_with
  clashing_with {q} below clashing = any_below_at (clash c t p) c.tree.count q below clashing

module _ (c : Chassis) (t : Target) where
  -- port p is the first that clashes with any, and q the first with which it does
  pub pair_here : {p q : ℕ} → NoneIn (clashes_with c t) 0 p → NoneIn (clash c t p) 0 q → p < c.tree.count → q < c.tree.count
      → clash c t p q ≡ true → record { first = port_no p; second = port_no q } ≡ pair_at c t
  unfolding pair_at
  pair_here {p} {q} passed none l below clashing = rw (← first_is, ← second_is)
    where
      first_is : Some p ≡ first_in (clashes_with c t) 0 c.tree.count
      first_is = at_is (record { from = zero-le; below = l; holds = clashing_with c t p below clashing; first = passed })

      second_is : Some q ≡ first_in (clash c t p) 0 c.tree.count
      second_is = at_is (record { from = zero-le; below = below; holds = clashing; first = none })

  -- no port clashes with any
  pub no_pair_is : NoneIn (clashes_with c t) 0 c.tree.count
      → record { first = no_port; second = found (first_in (clash c t 255) 0 c.tree.count) } ≡ pair_at c t
  unfolding pair_at
  no_pair_is none = rw (← none_is none)
