use Rattle.std.proofs.Common.{ℕ, ◌<◌, false}
use Rattle.ids.specs.Ids.{port_no}
use Rattle.chassis.proofs.looking.lowest.Given as goal

abbrev pub invariant-loop-p : goal.invariant-loop-p
invariant-loop-p g l = (k : ℕ) → k < l.p → goal.F-post g l.passes (port_no k) false
