use Rattle.std.proofs.Common.{ℕ, ap, ◌∙◌}
use Rattle.io.specs.Digits.{last_digits}
use Rattle.texts.specs.Texts.{appended}
use Rattle.texts.proofs.Laws.{hex_is}
use Rattle.texts.proofs.Text.with_hex.Goals as goal

pub returns : goal.returns
returns c =
    let got = c.hex-k.ensures in
    c.with.ensures
    ∙ ap (appended _) got.digits
    ∙ ap (λ (k : ℕ). appended c.args.self (last_digits 16 k c.args.n))
    (hex_is _ _ _ got.len c.requires.width_nonzero c.requires.width_bound c.requires.n_bound)
