-- Ranges of targets.
use Rattle.std.specs.Prelude.{ℕ, ◌^◌, Bool, not, ◌&&◌, leb, Option, Some, None}
use Rattle.least.specs.Least.{first_in}
use Rattle.spans.specs.declared.ranges.Range.{Range}

-- both ends belong to a range; it is empty where `lo` is above `hi`
unfoldable pub in_range : Range → ℕ → Bool
in_range r t = leb r.lo t && leb t r.hi

unfoldable pub out_of : Range → ℕ → Bool
out_of r t = not (in_range r t)

-- the first that passes, from a finding on
abbrev pub onward : (ℕ → Bool) → Option ℕ → Option ℕ
onward test (Some i) = first_in test i (2 ^ 64)
onward test None = None
