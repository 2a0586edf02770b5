use Rattle.std.proofs.Common.{sym, ◌∙◌}
use Rattle.changes.specs.Adding.{old_wrong}
use Rattle.changes.specs.Versions.{version}
use Rattle.history.proofs.Turns.{one_passes}
use Rattle.history.proofs.adding.an_old_byte_is_wrong.Goals as goal

pub returns-then-old_wrong : goal.returns-then-old_wrong
returns-then-old_wrong c =
    one_passes (old_wrong c.args.first.now.bytes.now (version c.args.first.now.bytes.now c.args.room.now c.args.kept) c.args.run.now) _ c.loop-i.i
    c.loop-i-test.true (sym c.if-old_wrong.true ∙ c.old_wrong.ensures)
