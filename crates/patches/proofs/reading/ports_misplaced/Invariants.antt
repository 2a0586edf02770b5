use Rattle.chassis.specs.Tree.{any_below}
use Rattle.std.proofs.Common.{false, ◌≡◌}
use Rattle.patches.specs.Patch.{port_misplaced}
use Rattle.patches.proofs.reading.ports_misplaced.Given as goal

abbrev pub invariant-loop-i : goal.invariant-loop-i
invariant-loop-i l = (any_below (port_misplaced l.n l.patch) l.i ≡ false)
