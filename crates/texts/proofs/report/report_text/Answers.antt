use Rattle.std.proofs.Common.{eq-eqb}
use Rattle.texts.specs.Texts.{ascii}
use Rattle.texts.specs.Lines.{report_lines}
use Rattle.texts.proofs.Laws.{begun}
use Rattle.texts.proofs.report.report_text.Goals as goal

pub returns-then-f-eq0 : goal.returns-then-f-eq0
unfolding ascii report_lines
returns-then-f-eq0 c =
    rw (eq-eqb _ _ c.if-f-eq0.true)
    (begun _ _
    (begun _ _ (begun _ _ (begun _ _ c.new.ensures c.with.ensures) c.with_number-text.ensures) c.with_byte.ensures)
    c.with-then-f-eq0.ensures)
