-- What the search for the least target of a space has found.
use Prim.Native.Nat.{ℕ}
use mathlib.Core.Bool.{Bool}
use mathlib.Core.Logic.{◌↔◌}
use mathlib.Core.Path.{◌≡◌, sym}
use Rattle.ids.specs.declared.Target.{Target}
use Rattle.ids.specs.declared.Space.{Space}
use Rattle.least.proofs.Laws.{Least, least_is, is_least}
use Rattle.chassis.specs.Chassis.{target_in, space_size}
use Rattle.chassis.specs.Check.{test_in, least_target}
use Rattle.std.specs.Prelude.{Option}

-- the least target of a space is found exactly if it is one of the space's, passes, and none lower does; none is found exactly
-- if none of the space's passes
pub least_target_is : (test : Target → Bool) (space : Space) (found : Option ℕ)
    → (least_target test space ≡ found) ↔ Least (λ (n : ℕ). test (target_in space n)) 0 (space_size space) found
unfolding test_in
least_target_is test space found = (
  λ e. is_least (test_in test space) 0 (space_size space) (sym e),
  λ least. sym (least_is (test_in test space) 0 (space_size space) found least),
)
