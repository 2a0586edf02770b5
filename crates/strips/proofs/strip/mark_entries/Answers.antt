use Rattle.std.proofs.Common.{sym, ◌∙◌, arith}
use Rattle.least.proofs.Laws.{is_at}
use Rattle.strips.proofs.Laws.{marks_also}
use Rattle.strips.proofs.OfGrids.{grid_more}
use Rattle.strips.proofs.strip.mark_entries.Goals as goal

pub units_of-requires : goal.units_of-requires
units_of-requires c =
    let a = is_at _ _ _ (sym c.in-Some.is ∙ c.next_entry.ensures) in
    omega (arith, c.end_entry-end.ensures, a.below)

pub overflow_add-i : goal.overflow_add-i
overflow_add-i c = let a = is_at _ _ _ (sym c.in-Some.is ∙ c.next_entry.ensures) in omega (arith, a.below)

pub loop-e-smaller : goal.loop-e-smaller
loop-e-smaller c = let a = is_at _ _ _ (sym c.in-Some.is ∙ c.next_entry.ensures) in omega (arith, a.from, a.below)

pub loop-e-preserved : goal.loop-e-preserved
loop-e-preserved c =
    let a = is_at _ _ _ (sym c.in-Some.is ∙ c.next_entry.ensures) in (
      omega (arith, c.end_entry-end.ensures, a.below),
      marks_also c.loop-e.invariant.1 (rw c.units_of.ensures at c.mark_range.ensures)
          (λ u l. grid_more c.args.base c.args.v.now c.args.g _ _ u a),
    )
