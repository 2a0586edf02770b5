use Rattle.std.proofs.Common.{◌∙◌}
use Rattle.patches.proofs.PatchedReads.{vector_told}
use Rattle.patches.proofs.Sought.{own_vector}
use Rattle.patches.proofs.parts.vector.Goals as goal

pub returns-then-patch-eq0-clause-where_it_reads : goal.returns-then-patch-eq0-clause-where_it_reads
returns-then-patch-eq0-clause-where_it_reads c =
    λ h read. (c.vector.ensures ∙ own_vector _ _ _ _ c.if-patch-eq0.true) ∙ vector_told _ _ h read _ _
