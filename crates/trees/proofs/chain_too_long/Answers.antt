use Rattle.std.proofs.Common.{◌∙◌, arith}
use Rattle.trees.proofs.Laws.{climbed_all}
use Rattle.trees.proofs.chain_too_long.Goals as goal

pub returns : goal.returns
returns c = c.ne.ensures ∙ climbed_all _ _ _ _ c.loop-steps.invariant (omega arith) (omega arith)
