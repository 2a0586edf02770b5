use Rattle.routes.proofs.Laws.{Underway}
use Rattle.claims.specs.Over.{chassis_in}
use Rattle.chassis.proofs.Steps.{left}
use Rattle.routes.proofs.walk_from.Given as goal

abbrev pub invariant-loop-end : goal.invariant-loop-end
invariant-loop-end l = Underway (chassis_in l.over) l.packet l.initial.whereabouts l.path l.whereabouts

abbrev pub decreases-loop-end : goal.decreases-loop-end
decreases-loop-end l = left (chassis_in l.over) l.whereabouts
