use Rattle.claims.specs.Beside.{beside_in}
use Rattle.overlaps.specs.Overlaps.{faulty_to}
use Rattle.chassis.specs.Check.{least_target}
use Rattle.std.proofs.Common.{◌≡◌}
use Rattle.overlaps.proofs.faults.least_beside.Given as goal

abbrev pub invariant-loop-p : goal.invariant-loop-p
invariant-loop-p l = l.best ≡ least_target (faulty_to l.fault (beside_in l.over) l.p) l.space
