use Rattle.texts.specs.Texts.{ascii}
use Rattle.texts.specs.Lines.{holder_line}
use Rattle.texts.proofs.Laws.{begun}
use Rattle.texts.proofs.holds.holder_text.Goals as goal

pub returns : goal.returns
unfolding ascii holder_line
returns c = begun _ _ (begun _ _ c.new.ensures c.with.ensures) c.with_hold.ensures
