use Rattle.texts.specs.Texts.{ascii}
use Rattle.texts.specs.Lines.{spaced}
use Rattle.texts.proofs.Laws.{behind}
use Rattle.texts.proofs.Text.with_number.Goals as goal

pub returns : goal.returns
unfolding ascii spaced
returns c = behind _ _ _ c.with.ensures c.with_decimal.ensures
