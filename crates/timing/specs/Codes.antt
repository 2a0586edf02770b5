-- What the call of the benchmarks gives back.
use Rattle.std.specs.Prelude.{ℕ, Result, Ok, Err}
use Rattle.picture.specs.declared.Header.{Header}
use Rattle.picture.specs.declared.refusals.Refusal.{Refusal}
use Rattle.picture.specs.Refusals.{refusal_number}

-- 01's number, 0 where the picture reads
abbrev pub reading_code : Result Header Refusal → ℕ
reading_code (Ok h) = 0
reading_code (Err r) = refusal_number r
