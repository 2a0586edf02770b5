-- What the check call returns and leaves is as its definition says. Assumes nothing.
use Prim.Native.Nat.{ℕ, ◌<◌, ◌≤◌}
use mathlib.Core.List.{List, ◌++◌}
use mathlib.Core.Path.{◌≡◌, refl, ap, ◌∙◌}
use lib.ListN.{length, drop, get_or}
use Rattle.answers.specs.Answers.{head_bytes, answer_bytes}
use Rattle.chassis.specs.declared.Finding.{Finding}
use Rattle.chassis.specs.declared.Named.{Named}
use Rattle.chassis.specs.declared.Named.TheVariants.{NoPort, Port, Holder, Pair}
use Rattle.fiswalend.specs.Found.{naming_head, finding_bytes}
use Rattle.fiswalend.specs.Calls.{returned, written}
use Rattle.fiswalend.proofs.Forty.{under_40, has_40}

-- the first byte is the number
pub first_byte : (f : Finding) → get_or (finding_bytes f) 0 0 ≡ f.number
unfolding finding_bytes answer_bytes head_bytes
first_byte f = go f.ports
  where
    go : (ports : Named) → (naming_head f.number ports).number ≡ f.number
    go NoPort = refl
    go (Port p) = refl
    go (Holder h) = refl
    go (Pair h k) = refl

module _ (before : List ℕ) (f : Finding) where
  pub left_17 : length before < 40 → (17 ≡ returned before f.number) × (before ≡ written before (finding_bytes f))
  unfolding returned written
  left_17 l = rw (under_40 before l) (refl, refl)

  pub left_40 : {number : ℕ} {after forty : List ℕ} → 40 ≤ length before → forty ≡ finding_bytes f → number ≡ get_or forty 0 0
      → after ≡ forty ++ drop 40 before → (number ≡ returned before f.number) × (after ≡ written before (finding_bytes f))
  unfolding returned written
  left_40 l is first rest =
      rw (has_40 before l)
      (first ∙ ap (λ (bytes : List ℕ). get_or bytes 0 0) is ∙ first_byte f, rest ∙ ap (λ (bytes : List ℕ). bytes ++ drop 40 before) is)
