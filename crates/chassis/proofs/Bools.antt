-- What the value of a test made of two tests says of the two.
use mathlib.Core.Bool.{Bool, true, false, ◌&&◌, ◌||◌, true≢false}
use mathlib.Core.Path.{◌≡◌, refl, sym, ◌∙◌}

-- a test cannot have both values
pub never_both_values {ℓ} : {A : Type ℓ} (b : Bool) → b ≡ true → b ≡ false → A
never_both_values b t f = absurd (true≢false (sym t ∙ f))

pub and_true_parts : (a b : Bool) → (a && b) ≡ true → (a ≡ true) × (b ≡ true)
and_true_parts true b e = (refl, e)
and_true_parts false b e = never_both_values false e refl

pub or_false_parts : (a b : Bool) → (a || b) ≡ false → (a ≡ false) × (b ≡ false)
or_false_parts true b e = never_both_values true refl e
or_false_parts false b e = (refl, e)
