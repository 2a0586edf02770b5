use Rattle.std.proofs.Common.{◌≡◌, false}
use Rattle.chassis.specs.Tree.{any_below}
use Rattle.changes.specs.Adding.{names_none}
use Rattle.history.proofs.adding.a_byte_is_missing.Given as goal

abbrev pub invariant-loop-i : goal.invariant-loop-i
invariant-loop-i l = any_below (names_none l.first.bytes.now l.run) l.i ≡ false
