use Rattle.patches.specs.Halves.{halved_to}
use Rattle.std.proofs.Common.{◌≡◌}
use Rattle.patches.proofs.rows.halve_all.Given as goal

abbrev pub invariant-loop-halvings : goal.invariant-loop-halvings
invariant-loop-halvings l = l.rows ≡ halved_to l.patch l.p.0 l._halvings
