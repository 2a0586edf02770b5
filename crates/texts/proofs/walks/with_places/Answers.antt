use Rattle.std.proofs.Common.{◌∙◌, rules}
use Rattle.std.proofs.lemmas.Iterator.{YieldsList-from_slice, YieldsList-from_take}
use Rattle.std.proofs.lemmas.Iterator.Consumers.{fold_from_yields_List}
use Rattle.ids.specs.declared.PortNo.{PortNo}
use Rattle.texts.specs.declared.Text.{Text}
use Rattle.texts.specs.Texts.{appended}
use Rattle.texts.specs.Lines.{spaced}
use Rattle.texts.proofs.Laws.{ports_folded}
use Rattle.texts.proofs.walks.with_places.Goals as goal

pub returns : goal.returns
returns c =
    fold_from_yields_List _ (λ (t : Text) (p : PortNo). appended t (spaced p.0)) _ _ c.fold.ensures.ran (YieldsList-from_take _ (YieldsList-from_slice c.args.places cc) cc) (λ t p r f k. search rules)
    ∙ ports_folded _ _
