use Rattle.patches.proofs.PatchedReads.{place_both}
use Rattle.picture.proofs.Laws.{offset_same}
use Rattle.patches.specs.Halves.{place_over}
use Rattle.patches.proofs.parts.lies_at.Goals as goal

pub returns-in-Some-clause-where_it_reads : goal.returns-in-Some-clause-where_it_reads
unfolding place_over
returns-in-Some-clause-where_it_reads c =
    (place_both _ _ _ _ _ (rw (← c.row_of.ensures, c.in-Some.is, c.vector_bytes.ensures.value, c.offset_in.ensures.value, c.offset_at.ensures, offset_same _ _ c.sizes_of-f.ensures c.args.m, c.sizes_of-f.ensures c.args.m))).1

pub returns-in-None-clause-where_it_reads : goal.returns-in-None-clause-where_it_reads
unfolding place_over
returns-in-None-clause-where_it_reads c =
    (place_both _ _ _ _ _ (rw (← c.row_of.ensures, c.in-None.is, c.vector_bytes-in-None.ensures.value, c.offset_in-in-None.ensures.value, c.vectors_start.ensures, offset_same _ _ c.sizes_of-f.ensures c.args.m, c.sizes_of-f.ensures c.args.m))).1
