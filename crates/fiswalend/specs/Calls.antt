-- 01, "Numbers given back": what the controller's calls return, and the answer buffer after them. "For 17 the buffer is untouched. Else
-- 40 bytes are written and the rest kept".
use Rattle.std.specs.Prelude.{ℕ, Bool, true, false, cond, List, ◌++◌, ◌≡◌, ltb, length, drop, Result}
use Rattle.judge.specs.Checking.{check_finding, check_number}
use Rattle.judge.specs.Claiming.{claim_number}
use Rattle.judge.specs.Converting.{convert_number}
use Rattle.judge.specs.Ends.{outcome_number}
use Rattle.judge.specs.Trying.{TrialGives}
use Rattle.judge.specs.Walking.{WalkGives}
use Rattle.fiswalend.specs.Codes.{claim_writes, convert_writes}
use Rattle.fiswalend.specs.Found.{finding_bytes}
use Rattle.fiswalend.specs.Walked.{walk_bytes}
use Rattle.chassis.specs.declared.Verdict.{Verdict}
use Rattle.picture.specs.declared.refusals.Refusal.{Refusal}
use Rattle.chassis.specs.declared.Hold.{Hold}
use Rattle.chassis.specs.declared.Conversion.{Conversion}
use Rattle.routes.specs.declared.Walked.{Walked}

-- 17: "answer buffer under 40 bytes"
unfoldable pub too_short : List ℕ → Bool
too_short buffer = ltb (length buffer) 40

-- the number that a call returns, and the buffer after it, where it has a number and 40 bytes to give
unfoldable pub returned : List ℕ → ℕ → ℕ
returned before number = cond (too_short before) 17 number

unfoldable pub written : List ℕ → List ℕ → List ℕ
written before forty = cond (too_short before) before (forty ++ drop 40 before)

-- a check's number, and the buffer after it, for the buffer before it and the answer that it gives
abbrev pub CheckCall : Result Verdict Refusal → List ℕ → ℕ → List ℕ → Type 0
CheckCall a before number after = (number ≡ returned before (check_number a)) × (after ≡ written before (finding_bytes (check_finding a)))

-- the number of a claim or a conversion, and what its u32 holds after it, for what it held before
abbrev pub ClaimCall : Result Hold Refusal → ℕ → ℕ → ℕ → Type 0
ClaimCall a before number after = (number ≡ claim_number a) × (after ≡ claim_writes a before)

abbrev pub ConvertCall : Result Conversion Refusal → ℕ → ℕ → ℕ → Type 0
ConvertCall a before number after = (number ≡ convert_number a) × (after ≡ convert_writes a before)

-- a walk's number, and the buffer after it, for the buffer before it, where `Gives` says which answer is given
abbrev pub WalkLeaves : Bool → (Result Walked Refusal → Type 0) → List ℕ → ℕ → List ℕ → Type 0
WalkLeaves true Gives before number after = (number ≡ 17) × (after ≡ before)
WalkLeaves false Gives before number after =
    (a : Result Walked Refusal) × Gives a × (number ≡ outcome_number a) × (after ≡ walk_bytes a ++ drop 40 before)

abbrev pub WalkCall : List ℕ → ℕ → ℕ → ℕ → List ℕ → ℕ → List ℕ → Type 0
WalkCall s kind start target before number after = WalkLeaves (too_short before) (WalkGives s kind start target) before number after

abbrev pub TrialWalkCall : List ℕ → List ℕ → ℕ → ℕ → ℕ → List ℕ → ℕ → List ℕ → Type 0
TrialWalkCall s patch kind start target before number after =
    WalkLeaves (too_short before) (TrialGives s patch kind start target) before number after
