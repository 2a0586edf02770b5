use Rattle.std.proofs.Common.{◌∙◌}
use Rattle.chassis.proofs.Through.{any_is}
use Rattle.chassis.proofs.looking.any.Goals as goal

pub returns : goal.returns
returns g c = λ test tells. c.is_some.ensures ∙ any_is test c.args.n c.lowest.result (c.lowest.ensures test tells)
