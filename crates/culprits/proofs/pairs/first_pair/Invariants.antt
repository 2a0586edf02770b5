-- No pair has been found with a first port below `p`, nor with `p` and a second below `q`.
use Rattle.least.proofs.Laws.{NoneIn}
use Rattle.claims.specs.Over.{chassis_in}
use Rattle.chassis.specs.Check.{clash, clashes_with}
use Rattle.culprits.proofs.pairs.first_pair.Given as goal

abbrev pub invariant-loop-q : goal.invariant-loop-q
invariant-loop-q l = NoneIn (clash (chassis_in l.over) l.t l.p) 0 l.q

abbrev pub invariant-loop-p : goal.invariant-loop-p
invariant-loop-p l = NoneIn (clashes_with (chassis_in l.over) l.t) 0 l.p
