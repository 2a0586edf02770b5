use Rattle.std.proofs.Common.{sym, ◌∙◌}
use Rattle.routes.proofs.Laws.{sets_out, arrives, room, nearer}
use Rattle.routes.proofs.walk_from.Goals as goal

pub loop-end-init : goal.loop-end-init
loop-end-init c = sets_out _ _ _ _ c.new-path.ensures

pub returns-in-Stop : goal.returns-in-Stop
returns-in-Stop c = arrives c.loop-end.invariant (sym c.step.ensures ∙ c.in-Stop.is)

pub crossed-path-requires : goal.crossed-path-requires
crossed-path-requires c = room _ _ c.requires.sane c.requires.within c.loop-end.invariant (sym c.step.ensures ∙ c.in-Cross.is)

pub loop-end-smaller : goal.loop-end-smaller
loop-end-smaller c = nearer _ _ c.requires.sane c.requires.within c.loop-end.invariant (sym c.step.ensures ∙ c.in-Cross.is)
