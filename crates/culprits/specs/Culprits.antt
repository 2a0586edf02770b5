-- The ports that a number of the check names.
use Rattle.ids.specs.declared.Target.{Target}
use Rattle.chassis.specs.Chassis.{Chassis}
use Rattle.chassis.specs.Check.{clash, lowest_port, first_of_pair}
use Rattle.culprits.specs.declared.pairs.Pair.{Pair}

unfoldable pub pair_at : Chassis → Target → Pair
pair_at c t = record { first = first_of_pair c t; second = lowest_port c (clash c t (first_of_pair c t).0) }
