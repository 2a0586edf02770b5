use Rattle.texts.specs.Texts.{ascii}
use Rattle.texts.specs.Lines.{refused_line}
use Rattle.texts.proofs.Laws.{begun}
use Rattle.texts.proofs.report.refused_text.Goals as goal

pub returns : goal.returns
unfolding ascii refused_line
returns c =
    begun _ _
    (begun _ _ (begun _ _ (begun _ _ c.new.ensures c.with.ensures) c.with_number-text.ensures) c.with_target.ensures)
    c.with_ports.ensures
