use Rattle.std.proofs.Common.{◌≡◌, ◌++◌, length, drop, sym, ap, ◌∙◌, arith}
use Rattle.changes.specs.Versions.{made, made_up_to}
use Rattle.changes.specs.ReadingBack.{version_number}
use Rattle.changes.proofs.BackRead.{back_zero}
use Rattle.changes.proofs.Turns.{one_more}
use Rattle.fiswalend.proofs.HistoryCalls.{before_any, after_all}
use Rattle.fiswalend.proofs.version_call.fpb_history_version.Goals as goal

pub loop-i-init : goal.loop-i-init
loop-i-init c = before_any _ _ _ _ (ap (λ l. l ++ drop (length c.args.first.now) c.args.out.now) c.copy_from_slice.ensures.after)

pub loop-i-preserved : goal.loop-i-preserved
loop-i-preserved c =
    c.make_change.ensures
    ∙ ap (λ first. made first c.record_at.result c.loop-i.out) c.in-Ok.ensures.picture.0
    ∙ one_more _ _ _ _ _ _ c.record_at.ensures c.loop-i.invariant

pub returns : goal.returns
returns c =
    let number : 0 ≡ version_number c.args.first.now (length c.args.room.now) (length c.args.out.now) c.args.kept c.args.k = c.in-Ok.ensures.number in
    let all : c.loop-i.i ≡ c.args.k = omega (arith, c.loop-i-test.false, c.loop-i.auto.i-end) in
    record {
      number_is = number;
      buffer_is =
          c.loop-i.invariant
          ∙ ap (made_up_to c.args.first.now c.args.room.now (c.args.first.now ++ drop (length c.args.first.now) c.args.out.now)) all
          ∙ after_all c.args.first.now c.args.room.now c.args.out.now c.args.k (back_zero _ _ _ _ _ (sym number)).read;
    }
