use Rattle.std.proofs.Common.{[], refl, ap, ◌∙◌}
use Rattle.chassis.specs.Chassis.{Chassis, hold_of}
use Rattle.claims.proofs.Over.{unpatched}
use Rattle.judge.specs.Claiming.{claim_of}
use Rattle.judge.proofs.claiming.claim.Goals as goal
use Rattle.std.specs.Prelude.{Ok}

pub returns : goal.returns
unfolding claim_of
returns c =
    rw (← c.in_ok-h.ensures, ← c.claim_asked_wrongly.ensures, c.if-claim_asked_wrongly.false, ← c.target_asked-target.ensures)
    (ap Ok
    (c.hold_of.ensures
    ∙ ap (λ (x : Chassis). hold_of x c.target_asked-target.result c.args.port) (unpatched c.args.s.now [] refl)))
