use Rattle.strips.specs.Strips.{Marks, grid_from}
use Rattle.std.proofs.Common.{◌*◌}
use Rattle.strips.proofs.OfGrids.{sized}
use Rattle.strips.proofs.strip.mark_words.Given as goal

abbrev pub invariant-loop-j : goal.invariant-loop-j
invariant-loop-j l = Marks l.initial.strip l.strip (grid_from l.base l.v (sized l.g (64 * l.j)))
