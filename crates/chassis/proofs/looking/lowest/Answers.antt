use Rattle.std.proofs.Common.{arith}
use Rattle.chassis.proofs.Through.{found_is, none_found}
use Rattle.chassis.proofs.looking.lowest.Goals as goal

pub returns-then-passes : goal.returns-then-passes
returns-then-passes g c = λ test tells. found_is tells c.loop-p.p c.loop-p-test.true c.if-passes.ensures c.loop-p.invariant

pub returns : goal.returns
returns g c = λ test tells. none_found tells (λ k l. c.loop-p.invariant k (omega arith))
