use Rattle.changes.specs.Adding.{names_none}
use Rattle.history.proofs.Turns.{one_passes, not_named}
use Rattle.history.proofs.adding.a_byte_is_missing.Goals as goal

pub returns-then-is_none : goal.returns-then-is_none
unfolding names_none
returns-then-is_none c =
    one_passes (names_none c.args.first.now.bytes.now c.args.run.now) _ c.loop-i.i c.loop-i-test.true
    (rw (← c.record_at.ensures, ← c.byte_named.ensures) (not_named _ c.if-is_none.ensures))
