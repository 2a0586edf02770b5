-- The check call: numbers 1 to 10, then 11 to 15 and 18, else 0.
use Rattle.std.specs.Prelude.{ℕ, List, Result, Ok, Err}
use Rattle.chassis.specs.declared.Finding.{Finding}
use Rattle.chassis.specs.Check.{verdict_of}
use Rattle.chassis.specs.Table.{finding_of}
use Rattle.picture.specs.Reading.{reading}
use Rattle.claims.specs.Claims.{chassis_of}
use Rattle.judge.specs.Refusals.{refusal_finding}
use Rattle.picture.specs.declared.Header.{Header}
use Rattle.picture.specs.declared.refusals.Refusal.{Refusal}
use Rattle.chassis.specs.declared.Verdict.{Verdict}

unfoldable pub check_of : Result Header Refusal → List ℕ → Result Verdict Refusal
check_of (Err r) s = Err r
check_of (Ok h) s = Ok (verdict_of (chassis_of s))

abbrev pub check_answer : List ℕ → Result Verdict Refusal
check_answer s = check_of (reading s) s

-- the paper's number of an answer, with what it shows and names
unfoldable pub check_finding : Result Verdict Refusal → Finding
check_finding (Err r) = refusal_finding r
check_finding (Ok verdict) = finding_of verdict

abbrev pub check_number : Result Verdict Refusal → ℕ
check_number a = (check_finding a).number
