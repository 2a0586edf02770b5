-- The loop has passed no target that both have as wanted, below `i`.
use Rattle.least.proofs.Laws.{NoneIn}
use Rattle.search.specs.Search.{meets}
use Rattle.std.proofs.Common.{◌-◌, ◌^◌}
use Rattle.search.proofs.least_both.Given as goal

abbrev pub invariant-loop-j : goal.invariant-loop-j
invariant-loop-j l = NoneIn (meets l.a.reach.now l.a.one.now l.a.other.now l.b.reach.now l.b.one.now l.b.other.now l.want) 0 l.i

abbrev pub decreases-loop-j : goal.decreases-loop-j
decreases-loop-j l = 2 ^ 64 - l.i
