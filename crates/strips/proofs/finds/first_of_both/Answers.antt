use Rattle.std.proofs.Common.{arith}
use Rattle.least.proofs.Laws.{none_join, none_part, at_is}
use Rattle.vectors.proofs.Digits.{digits_least, digits_none}
use Rattle.strips.proofs.OfMarks.{both_digits}
use Rattle.strips.proofs.finds.first_of_both.Goals as goal

pub returns-then-both-ne0 : goal.returns-then-both-ne0
returns-then-both-ne0 c =
    let digits = both_digits c.args.a.now c.args.b.now c.args.want c.loop-k.k c.wanted.result (omega (arith, c.type_inv.a c.loop-k.k)) c.wanted.ensures in
    let found = digits_least (omega arith) (omega arith) digits in
    at_is (record { from = omega arith; below = omega (arith, found.below); holds = found.holds; first = none_join c.loop-k.invariant found.first })

pub loop-k-preserved : goal.loop-k-preserved
loop-k-preserved c =
    let digits = both_digits c.args.a.now c.args.b.now c.args.want c.loop-k.k c.wanted.result (omega (arith, c.type_inv.a c.loop-k.k)) c.wanted.ensures in
    none_part (omega arith) (omega arith) (none_join c.loop-k.invariant (digits_none c.if-both-ne0.false digits))
