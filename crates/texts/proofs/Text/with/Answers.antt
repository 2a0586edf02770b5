use Rattle.std.proofs.Common.{ℕ, ◌∙◌, [], ◌∷◌, rules}
use Rattle.std.proofs.lemmas.Iterator.{YieldsList-from_slice}
use Rattle.std.proofs.lemmas.Iterator.Consumers.{fold_from_yields_List}
use Rattle.texts.specs.declared.Text.{Text}
use Rattle.texts.specs.Texts.{appended}
use Rattle.texts.proofs.Laws.{bytes_folded}
use Rattle.texts.proofs.Text.with.Goals as goal

pub returns : goal.returns
returns c =
    fold_from_yields_List _ (λ (t : Text) (b : ℕ). appended t (b ∷ [])) _ _ c.fold.ensures.ran (YieldsList-from_slice c.args.more.now cc) (λ t b r f k. search rules)
    ∙ bytes_folded _ _
