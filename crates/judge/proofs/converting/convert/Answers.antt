use Rattle.std.proofs.Common.{[], refl, ap, ◌∙◌}
use Rattle.ids.specs.declared.Target.TheVariants.{Id}
use Rattle.chassis.specs.Chassis.{Chassis}
use Rattle.claims.proofs.Over.{unpatched}
use Rattle.judge.specs.Converting.{convert_of}
use Rattle.judge.proofs.converting.convert.Goals as goal
use Rattle.std.specs.Prelude.{Ok}

pub returns : goal.returns
unfolding convert_of
returns c =
    rw (← c.in_ok-h.ensures, ← c.convert_asked_wrongly.ensures, c.if-convert_asked_wrongly.false)
    (ap Ok
    (c.conversion.ensures
    ∙ ap (λ (x : Chassis). x.conversion c.args.port (Id (record { 0 = c.args.target })))
    (unpatched c.args.s.now [] refl)))
