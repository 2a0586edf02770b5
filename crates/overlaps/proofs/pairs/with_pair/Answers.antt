use Rattle.std.proofs.Common.{sym, ◌∙◌, ap}
use Rattle.std.proofs.lemmas.Bool.{eqb-true}
use Rattle.claims.specs.Beside.{beside_in}
use Rattle.least.specs.Least.{soonest}
use Rattle.overlaps.proofs.Folds.{pair_first}
use Rattle.overlaps.proofs.pairs.with_pair.Goals as goal

pub returns-then-eq : goal.returns-then-eq
returns-then-eq c =
    c.least_meeting.ensures
    ∙ rw c.ne-apart.ensures
    (ap (soonest c.args.best)
    (pair_first (beside_in c.args.over.now) c.args.space c.args.p.0 c.args.q.0
    (let same = eqb-true _ _ (sym c.eq.ensures ∙ c.if-eq.true) in sym c.parent_at.ensures ∙ same ∙ c.parent_at-2.ensures)))
