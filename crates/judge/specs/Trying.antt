-- 02, Item 2: the trial calls: numbers 1 to 10, then 30 to 32; then "Check and walk over the two must answer as over the picture with
-- those vectors put in".
use Rattle.std.specs.Prelude.{ℕ, cond, List, ◌≡◌, ltb, Result, Ok, Err}
use Rattle.registers.specs.declared.Mechanism.{Mechanism}
use Rattle.patches.specs.Parts.{place_of}
use Rattle.patches.specs.Patched.{patched}
use Rattle.patches.specs.Reading.{reading_with}
use Rattle.judge.specs.Checking.{check_answer}
use Rattle.picture.specs.declared.refusals.Refusal.TheVariants.{AskedWrongly}
use Rattle.judge.specs.Walking.{WalkGives}
use Rattle.picture.specs.declared.Header.{Header}
use Rattle.picture.specs.declared.refusals.Refusal.{Refusal}
use Rattle.chassis.specs.declared.Verdict.{Verdict}
use Rattle.patches.specs.declared.Place.{Place}
use Rattle.routes.specs.declared.Walked.{Walked}
use Rattle.picture.specs.Refusals.{refusal_number}

-- the check of a picture with the vectors put in, where picture and patch read
unfoldable pub tried_check : Result Header Refusal → List ℕ → Result Verdict Refusal
tried_check (Err r) s = Err r
tried_check (Ok h) s = check_answer s

abbrev pub trial_check : List ℕ → List ℕ → Result Verdict Refusal
trial_check s patch = tried_check (reading_with s patch) (patched s patch)

-- the walk in it
abbrev pub TriedGives : Result Header Refusal → List ℕ → ℕ → ℕ → ℕ → Result Walked Refusal → Type 0
TriedGives (Err r) s kind start target answer = answer ≡ Err r
TriedGives (Ok h) s kind start target answer = WalkGives s kind start target answer

abbrev pub TrialGives : List ℕ → List ℕ → ℕ → ℕ → ℕ → Result Walked Refusal → Type 0
TrialGives s patch kind start target answer = TriedGives (reading_with s patch) (patched s patch) kind start target answer

-- where a vector lies, "in the picture or in the patch"; 16 for a port beyond the count
unfoldable pub tried_part : Result Header Refusal → List ℕ → List ℕ → ℕ → Mechanism → Result Place Refusal
tried_part (Err r) s patch port m = Err r
tried_part (Ok h) s patch port m = cond (ltb port h.count) (Ok (place_of s patch port m)) (Err AskedWrongly)

abbrev pub trial_part : List ℕ → List ℕ → ℕ → Mechanism → Result Place Refusal
trial_part s patch port m = tried_part (reading_with s patch) s patch port m

-- the paper's number of an answer
abbrev pub part_number : Result Place Refusal → ℕ
part_number (Err r) = refusal_number r
part_number (Ok place) = 0
