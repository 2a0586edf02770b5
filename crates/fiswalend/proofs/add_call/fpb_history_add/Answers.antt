use Rattle.std.proofs.Common.{sym, ap, ◌∙◌, arith}
use Rattle.changes.specs.Refusals.{answer_number}
use Rattle.fiswalend.proofs.HistoryCalls.{stands_behind}
use Rattle.fiswalend.proofs.add_call.fpb_history_add.Goals as goal

pub returns-in-Ok : goal.returns-in-Ok
returns-in-Ok c = record {
  number_is = ap answer_number (sym c.in-Ok.is) ∙ c.accept.ensures.number;
  room_is = stands_behind _ _ _ _ _ c.copy_from_slice.ensures.after (omega arith);
  kept_is = c.in-Ok.ensures.kept.0;
}
