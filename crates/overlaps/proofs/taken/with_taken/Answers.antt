use Rattle.std.proofs.Common.{sym, ◌∙◌}
use Rattle.std.proofs.lemmas.Bool.{eqb-false}
use Rattle.claims.specs.Beside.{beside_in}
use Rattle.overlaps.proofs.Folds.{with_taken}
use Rattle.overlaps.proofs.taken.with_taken.Goals as goal

pub returns : goal.returns
returns c =
    c.least_meeting.ensures
    ∙ rw c.parent_at.ensures
    (with_taken (beside_in c.args.over.now) c.args.space c.args.p.0 c.requires
    (eqb-false _ _ (sym c.is_root_port.ensures ∙ c.if-is_root_port.false)))
