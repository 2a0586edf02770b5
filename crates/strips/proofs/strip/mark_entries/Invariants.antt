use Rattle.strips.specs.Strips.{Marks, grid_from}
use Rattle.std.proofs.Common.{◌-◌, ◌≤◌}
use Rattle.strips.proofs.OfGrids.{sized}
use Rattle.strips.proofs.strip.mark_entries.Given as goal

abbrev pub invariant-loop-e : goal.invariant-loop-e
invariant-loop-e l = (l.i ≤ l.g.size) × Marks l.initial.strip l.strip (grid_from l.base l.v (sized l.g l.i))

abbrev pub decreases-loop-e : goal.decreases-loop-e
decreases-loop-e l = l.end - l.i
