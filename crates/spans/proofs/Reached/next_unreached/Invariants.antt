-- The loop has passed nothing but what is reached, from `from` on and below `i`.
use Rattle.least.proofs.Laws.{NoneIn}
use Rattle.spans.specs.Reaches.{misses}
use Rattle.std.proofs.Common.{◌-◌, ◌^◌, ◌≤◌}
use Rattle.spans.proofs.Reached.next_unreached.Given as goal

abbrev pub invariant-loop-k : goal.invariant-loop-k
invariant-loop-k l = (l.from ≤ l.i) × NoneIn (misses l.self.reach.now l.self.one.now l.self.other.now) l.from l.i

abbrev pub decreases-loop-k : goal.decreases-loop-k
decreases-loop-k l = 2 ^ 64 - l.i
