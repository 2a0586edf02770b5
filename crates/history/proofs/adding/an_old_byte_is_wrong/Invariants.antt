use Rattle.std.proofs.Common.{◌≡◌, false}
use Rattle.chassis.specs.Tree.{any_below}
use Rattle.changes.specs.Versions.{version}
use Rattle.changes.specs.Adding.{old_wrong}
use Rattle.history.proofs.adding.an_old_byte_is_wrong.Given as goal

abbrev pub invariant-loop-i : goal.invariant-loop-i
invariant-loop-i l = any_below (old_wrong l.first.bytes.now (version l.first.bytes.now l.room l.kept) l.run) l.i ≡ false
