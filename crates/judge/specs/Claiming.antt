-- The claim call: numbers 1 to 10, then 16, then 01, "What a port claims". 02, Item 3: "The claim answer must name all decoders that
-- claim the target".
use Rattle.std.specs.Prelude.{ℕ, Bool, cond, ◌||◌, List, leb, ltb, Result, Ok, Err}
use Rattle.chassis.specs.Chassis.{hold_of}
use Rattle.picture.specs.Reading.{reading}
use Rattle.claims.specs.Claims.{chassis_of}
use Rattle.judge.specs.Asking.{target_asked, id_too_large}
use Rattle.picture.specs.declared.refusals.Refusal.TheVariants.{AskedWrongly}
use Rattle.picture.specs.declared.Header.{Header}
use Rattle.picture.specs.declared.refusals.Refusal.{Refusal}
use Rattle.chassis.specs.declared.Hold.{Hold}
use Rattle.picture.specs.Refusals.{refusal_number}

-- 16: "a port beyond the count"; by docs/DECISIONS.md also a kind over 1 and an ID over FFFFh
unfoldable pub claim_asked_wrongly : ℕ → ℕ → ℕ → ℕ → Bool
claim_asked_wrongly count port kind target = leb count port || ltb 1 kind || id_too_large kind target

unfoldable pub claim_of : Result Header Refusal → List ℕ → ℕ → ℕ → ℕ → Result Hold Refusal
claim_of (Err r) s port kind target = Err r
claim_of (Ok h) s port kind target =
    cond (claim_asked_wrongly h.count port kind target) (Err AskedWrongly) (Ok (hold_of (chassis_of s) (target_asked kind target) port))

abbrev pub claim_answer : List ℕ → ℕ → ℕ → ℕ → Result Hold Refusal
claim_answer s port kind target = claim_of (reading s) s port kind target

-- the paper's number of an answer
abbrev pub claim_number : Result Hold Refusal → ℕ
claim_number (Err r) = refusal_number r
claim_number (Ok answer) = 0
