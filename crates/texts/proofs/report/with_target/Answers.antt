use Rattle.texts.specs.Texts.{ascii}
use Rattle.texts.specs.Lines.{target_words}
use Rattle.texts.proofs.Laws.{behind}
use Rattle.texts.proofs.report.with_target.Goals as goal

pub returns-in-Addr : goal.returns-in-Addr
unfolding ascii target_words
returns-in-Addr c = rw (c.in-Some.is, c.in-Addr.is) (behind _ _ _ c.with-in-Addr.ensures c.with_hex-in-Addr.ensures)
