use Rattle.least.proofs.Laws.{NoneIn}
use Rattle.strips.specs.Strips.{marked_both}
use Rattle.std.proofs.Common.{◌*◌}
use Rattle.strips.proofs.finds.first_of_both.Given as goal

abbrev pub invariant-loop-k : goal.invariant-loop-k
invariant-loop-k l = NoneIn (marked_both l.a l.b l.want) 0 (64 * l.k)
