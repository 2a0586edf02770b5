use Rattle.std.proofs.Common.{◌≡◌, subst, arith, rules}
use Rattle.answers.proofs.Laws.{Filled, filled_none, filled_more, filled_all}
use Rattle.answers.proofs.with_path.Goals as goal

pub loop-i-init : goal.loop-i-init
loop-i-init c = filled_none _ _ (search rules)

pub loop-i-preserved : goal.loop-i-preserved
loop-i-preserved c = filled_more _ _ _ (search rules) c.loop-i.i _ (omega arith) c.loop-i.invariant

pub returns : goal.returns
returns c =
    let last : c.loop-i.i ≡ 32 = omega arith in
    filled_all _ _ _ (search rules) _ c.without_places-out.ensures (subst (Filled _ _ _) last c.loop-i.invariant)
