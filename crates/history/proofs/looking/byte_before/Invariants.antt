-- No change from `i` on names the byte.
use Rattle.std.proofs.Common.{◌≡◌}
use Rattle.changes.specs.Looking.{held_up_to}
use Rattle.history.proofs.looking.byte_before.Given as goal

abbrev pub invariant-loop-i : goal.invariant-loop-i
invariant-loop-i l = held_up_to l.changes l.c l.held l.i ≡ held_up_to l.changes l.c l.held l.k
