use Rattle.claims.specs.Beside.{beside_in}
use Rattle.chassis.specs.Check.{least_target}
use Rattle.overlaps.proofs.Folds.{seen}
use Rattle.std.proofs.Common.{◌≡◌}
use Rattle.overlaps.proofs.pairs.with_pairs.Given as goal

abbrev pub invariant-loop-q : goal.invariant-loop-q
invariant-loop-q l = l.found ≡ least_target (seen (beside_in l.over) l.p.0 l.q) l.space
