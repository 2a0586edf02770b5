-- A strip of units: entry u of it is binary digit u mod 64 of word u/64.
use Rattle.std.specs.Prelude.{ℕ, ◌+◌, ◌-◌, ◌*◌, ◌/◌, ◌%◌, ◌^◌, ◌<◌, Bool, ◌&&◌, ◌||◌, List, ◌≡◌, eqb, leb, ltb, get_or}
use Rattle.std.specs.Bool.{beq}
use Rattle.vectors.specs.declared.Settings.{Settings}
use Rattle.vectors.specs.Vectors.{hits}
use Rattle.spans.specs.declared.ranges.Range.{Range}
use Rattle.spans.specs.Ranges.{in_range}

-- binary digit k of a number
abbrev pub digit : ℕ → ℕ → Bool
digit x k = eqb (x / 2 ^ k % 2) 1

unfoldable pub marked : List ℕ → ℕ → Bool
marked strip u = digit (get_or strip (u / 64) 0) (u % 64)

-- a unit that is marked in the one strip, and in the other or not, as is wanted
unfoldable pub marked_both : List ℕ → List ℕ → Bool → ℕ → Bool
marked_both a b want u = marked a u && beq (marked b u) want

-- the strip b has what a has, and of its 8,192 units those that pass the test
pub record Marks (a b : List ℕ) (test : ℕ → Bool) : Type 0 where
  pub at : (u : ℕ) → u < 8192 → marked b u ≡ (marked a u || test u)

-- the units of word k that are digits of x
unfoldable pub in_word : ℕ → ℕ → ℕ → Bool
in_word k x u = eqb (u / 64) k && digit x (u % 64)

-- the 64 units from `at` on that are digits of x, in a strip from `base` on
unfoldable pub digits_from : ℕ → ℕ → ℕ → ℕ → Bool
digits_from base at x u = leb at (base + u) && digit x (base + u - at)

-- the units of a range, and those whose entry is set
unfoldable pub range_from : ℕ → Range → ℕ → Bool
range_from base r u = in_range r (base + u)

unfoldable pub grid_from : ℕ → List ℕ → Settings → ℕ → Bool
grid_from base v g u = hits v g (base + u)

-- what is marked in the first words of another strip
unfoldable pub words_of : ℕ → List ℕ → ℕ → Bool
words_of words b u = ltb u (64 * words) && marked b u

-- settings whose sums and shifts stay small
abbrev pub small : Settings → Type 0
small g = (g.size < 2 ^ 16) × (g.start < 2 ^ 48) × (g.scale < 32)

-- the units that an entry stands for
abbrev pub entry_units : Settings → ℕ → Range
entry_units g i = record { lo = g.start + i * 2 ^ g.scale; hi = g.start + i * 2 ^ g.scale + (2 ^ g.scale - 1) }
