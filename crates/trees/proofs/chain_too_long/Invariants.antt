use Rattle.chassis.specs.Tree.{above}
use Rattle.trees.specs.Trees.{tree_of}
use Rattle.std.proofs.Common.{◌≡◌}
use Rattle.trees.proofs.chain_too_long.Given as goal

abbrev pub invariant-loop-steps : goal.invariant-loop-steps
invariant-loop-steps l = l.q.0 ≡ above (tree_of l.s) l._steps l.initial.q.0
