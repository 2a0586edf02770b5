use Rattle.strips.specs.Strips.{Marks, words_of}
use Rattle.std.proofs.Common.{length, ◌≡◌}
use Rattle.strips.proofs.finds.join.Given as goal

abbrev pub invariant-loop-k : goal.invariant-loop-k
invariant-loop-k l = (length l.a ≡ length l.initial.a) × Marks l.initial.a l.a (words_of l.k l.b)
