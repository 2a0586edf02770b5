-- The conversion call: numbers 1 to 10, then 16, then 01, "A port about to be crossed decides". The paper's words for what it
-- decides are the names of Conversion's cases: not claimed, Type 0, Type 1 passes, Unsupported Request.
use Rattle.std.specs.Prelude.{ℕ, Bool, cond, ◌||◌, List, leb, Result, Ok, Err}
use Rattle.ids.specs.declared.Target.TheVariants.{Id}
use Rattle.picture.specs.Reading.{reading}
use Rattle.claims.specs.Claims.{chassis_of}
use Rattle.judge.specs.Asking.{id_too_large}
use Rattle.picture.specs.declared.refusals.Refusal.TheVariants.{AskedWrongly}
use Rattle.picture.specs.declared.Header.{Header}
use Rattle.picture.specs.declared.refusals.Refusal.{Refusal}
use Rattle.chassis.specs.declared.Conversion.{Conversion}
use Rattle.picture.specs.Refusals.{refusal_number}

-- 16: "a port beyond the count"; by docs/DECISIONS.md also an ID over FFFFh, kind 0 being an ID
unfoldable pub convert_asked_wrongly : ℕ → ℕ → ℕ → Bool
convert_asked_wrongly count port target = leb count port || id_too_large 0 target

unfoldable pub convert_of : Result Header Refusal → List ℕ → ℕ → ℕ → Result Conversion Refusal
convert_of (Err r) s port target = Err r
convert_of (Ok h) s port target =
    cond (convert_asked_wrongly h.count port target) (Err AskedWrongly) (Ok ((chassis_of s).conversion port (Id (record { 0 = target }))))

abbrev pub convert_answer : List ℕ → ℕ → ℕ → Result Conversion Refusal
convert_answer s port target = convert_of (reading s) s port target

-- the paper's number of an answer
abbrev pub convert_number : Result Conversion Refusal → ℕ
convert_number (Err r) = refusal_number r
convert_number (Ok decided) = 0
