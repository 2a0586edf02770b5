-- The lowest number with a property. The definition says what it is and is never run: code is proved equal to it by laws.
use Rattle.std.specs.Prelude.{ℕ, zero, suc, ◌-◌, Bool, false, cond, leb, Option, Some, None}

-- the first of `count` numbers from `lo` on that passes the test
unfoldable pub first_of : (ℕ → Bool) → ℕ → ℕ → Option ℕ
first_of test lo zero = None
first_of test lo (suc count) = cond (test lo) (Some lo) (first_of test (suc lo) count)

-- the lowest number that passes the test, `lo` or above and below `hi`
unfoldable pub first_in : (ℕ → Bool) → ℕ → ℕ → Option ℕ
first_in test lo hi = first_of test lo (hi - lo)

-- the lower of two findings
abbrev pub soonest : Option ℕ → Option ℕ → Option ℕ
soonest None found = found
soonest (Some i) None = Some i
soonest (Some i) (Some j) = cond (leb i j) (Some i) (Some j)

-- the first finding, or the second where the first is nothing
abbrev pub or_else : Option ℕ → Option ℕ → Option ℕ
or_else (Some i) second = Some i
or_else None second = second

-- a finding no later than a number
unfoldable pub is_by : Option ℕ → ℕ → Bool
is_by (Some i) n = leb i n
is_by None n = false
