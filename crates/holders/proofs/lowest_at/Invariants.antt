use Rattle.claims.specs.Over.{chassis_over}
use Rattle.chassis.specs.Chassis.{lowest_two, passes_at}
use Rattle.chassis.specs.Looking.{Tells}
use Rattle.std.proofs.Common.{ℕ, Bool, List, ◌≡◌}
use Rattle.holders.proofs.lowest_at.Given as goal

abbrev pub invariant-loop-i : goal.invariant-loop-i
invariant-loop-i g l =
    (patch : List ℕ) (test : ℕ → Bool) → Tells (goal.F-post g l.passes) l.picture.count test
    → l.found ≡ lowest_two (passes_at (chassis_over l.picture.bytes.now patch) l.place.0 test) l.i
