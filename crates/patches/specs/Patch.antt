-- 02, Item 2: "a lent patch: a header of count and total length (4 bytes each), and number and offset (4 each) of some ports in rising
-- order; then for each, without gaps, a whole new set of vectors of the same sizes". Numbers 30 to 32.
use Rattle.std.specs.Prelude.{ℕ, zero, suc, ◌+◌, ◌*◌, Bool, false, not, ◌||◌, List, length, eqb, leb, ltb}
use Rattle.lent.specs.Lent.{u32_at}
use Rattle.chassis.specs.Tree.{any_below}
use Rattle.registers.specs.Record.{port_at}
use Rattle.picture.specs.Layout.{all_bytes}

-- how many ports stand in it, and its total length
abbrev pub ports_in : List ℕ → ℕ
ports_in patch = u32_at patch 0

abbrev pub total_in : List ℕ → ℕ
total_in patch = u32_at patch 4

-- where row i starts, the number and offset of a port; where the vectors start, if i is the count
unfoldable pub row_at : ℕ → ℕ
row_at i = 8 + 8 * i

unfoldable pub port_in : List ℕ → ℕ → ℕ
port_in patch i = u32_at patch (row_at i)

unfoldable pub offset_at : List ℕ → ℕ → ℕ
offset_at patch i = u32_at patch (row_at i + 4)

-- where the vectors of row i start if those of the rows before it have no gaps
unfoldable pub running_in : List ℕ → List ℕ → ℕ → ℕ
running_in s patch zero = row_at (ports_in patch)
running_in s patch (suc i) = running_in s patch i + all_bytes (port_at s (port_in patch i)).fpb

-- 30: "a header that does not fit its length"
unfoldable pub header_misfits : List ℕ → Bool
header_misfits patch =
    ltb (length patch) 8 || not (eqb (total_in patch) (length patch)) || ltb (length patch) (row_at (ports_in patch))

-- 31: "a port twice, out of order or beyond the count", at row i, of a picture of n ports
unfoldable pub not_rising : List ℕ → ℕ → Bool
not_rising patch zero = false
not_rising patch (suc i) = leb (port_in patch (suc i)) (port_in patch i)

unfoldable pub port_misplaced : ℕ → List ℕ → ℕ → Bool
port_misplaced n patch i = not_rising patch i || leb n (port_in patch i)

unfoldable pub ports_misplaced : ℕ → List ℕ → Bool
ports_misplaced n patch = any_below (port_misplaced n patch) (ports_in patch)

-- 32: "a wrong offset or length"
unfoldable pub offset_misplaced : List ℕ → List ℕ → ℕ → Bool
offset_misplaced s patch i = not (eqb (offset_at patch i) (running_in s patch i))

unfoldable pub vectors_misplaced : List ℕ → List ℕ → Bool
vectors_misplaced s patch =
    any_below (offset_misplaced s patch) (ports_in patch) || not (eqb (running_in s patch (ports_in patch)) (length patch))
