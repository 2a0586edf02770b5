-- The loop has found no entry as wanted from `from` on and below `i`.
use Rattle.least.proofs.Laws.{NoneIn}
use Rattle.vectors.specs.Vectors.{entry_is}
use Rattle.std.proofs.Common.{◌-◌, ◌≤◌}
use Rattle.vectors.proofs.next_entry.Given as goal

abbrev pub invariant-loop-seen : goal.invariant-loop-seen
invariant-loop-seen l = (l.from ≤ l.i) × NoneIn (entry_is l.v l.want) l.from l.i

abbrev pub decreases-loop-seen : goal.decreases-loop-seen
decreases-loop-seen l = l.size - l.i
