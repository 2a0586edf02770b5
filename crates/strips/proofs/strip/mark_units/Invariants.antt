use Rattle.strips.specs.Strips.{Marks}
use Rattle.strips.proofs.OfMarks.{units_to}
use Rattle.strips.proofs.strip.mark_units.Given as goal

abbrev pub invariant-loop-k : goal.invariant-loop-k
invariant-loop-k l = Marks l.initial.strip l.strip (units_to l.a l.b l.k)
