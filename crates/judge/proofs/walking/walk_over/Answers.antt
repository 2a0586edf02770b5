use Rattle.std.proofs.Common.{sym, ◌∙◌}
use Rattle.claims.specs.Over.{chassis_in}
use Rattle.judge.proofs.Walks.{small_start}
use Rattle.judge.proofs.walking.walk_over.Goals as goal

pub overflow_cast-start : goal.overflow_cast-start
overflow_cast-start c =
    record {
      fits = small_start (chassis_in c.args.over.now) c.requires.sane _ _ _ (sym c.asked_wrongly.ensures ∙ c.if-asked_wrongly.false);
    }
