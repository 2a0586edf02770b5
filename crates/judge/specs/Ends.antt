-- 01, "Numbers given back": "Ends 1 to 5 have number 0"; a refusal has its own.
use Rattle.std.specs.Prelude.{ℕ, Result, Ok, Err}
use Rattle.routes.specs.declared.Walked.{Walked}
use Rattle.picture.specs.declared.refusals.Refusal.{Refusal}
use Rattle.picture.specs.Refusals.{refusal_number}

abbrev pub outcome_number : Result Walked Refusal → ℕ
outcome_number (Err r) = refusal_number r
outcome_number (Ok w) = 0
