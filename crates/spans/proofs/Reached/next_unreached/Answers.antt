use Rattle.std.proofs.Common.{sym, ◌∙◌, arith}
use Rattle.spans.proofs.OfReaches.{skip_at, skip_more}
use Rattle.spans.proofs.Reached.next_unreached.Goals as goal

pub loop-k-smaller : goal.loop-k-smaller
loop-k-smaller c = omega (arith, skip_at _ _ _ _ (sym c.in_ok-k.was ∙ c.skip.ensures))

pub loop-k-preserved : goal.loop-k-preserved
loop-k-preserved c = skip_more _ _ _ _ c.loop-k.invariant (sym c.in_ok-k.was ∙ c.skip.ensures)
