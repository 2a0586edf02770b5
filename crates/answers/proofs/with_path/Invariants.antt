use Rattle.answers.proofs.Laws.{Filled}
use Rattle.answers.proofs.with_path.Given as goal

abbrev pub invariant-loop-i : goal.invariant-loop-i
invariant-loop-i l = Filled l.initial.out l.out l.fn.places l.i
