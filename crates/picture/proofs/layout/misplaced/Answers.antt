use Rattle.std.proofs.Common.{arith}
use Rattle.picture.proofs.Laws.{misplaced_here, place_wrong_lem}
use Rattle.picture.proofs.layout.misplaced.Goals as goal

pub returns-then-vectors_start-offset : goal.returns-then-vectors_start-offset
returns-then-vectors_start-offset c =
    misplaced_here _ _ (omega arith)
    (place_wrong_lem _ _ _ _ c.vectors_start.ensures c.loop-p.invariant.0 c.if-vectors_start-offset.true) c.loop-p.invariant.2
