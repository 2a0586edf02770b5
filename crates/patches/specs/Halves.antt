-- How a port's row is sought: by halves, since the ports of a patch rise; seven halvings are enough for 64 rows. In a patch that is
-- refused they may miss a row; no public call goes on with one.
use Rattle.std.specs.Prelude.{ℕ, zero, suc, ◌+◌, ◌/◌, cond, ◌&&◌, List, ltb, Option, Some, None}
use Rattle.registers.specs.declared.Mechanism.{Mechanism}
use Rattle.patches.specs.declared.rows.Rows.{Rows}
use Rattle.patches.specs.declared.parts.Place.{Place}
use Rattle.patches.specs.Patch.{ports_in, port_in}
use Rattle.patches.specs.Parts.{is_row_of, place_by, part_at}

abbrev pub middle : Rows → ℕ
middle rows = (rows.lo + rows.hi) / 2

-- the half of the rows that the port's row can be in, by the row in the middle
unfoldable pub halved : List ℕ → ℕ → Rows → Rows
halved patch p rows =
    cond (ltb rows.lo rows.hi)
    (cond (ltb (port_in patch (middle rows)) p) (record { lo = middle rows + 1; hi = rows.hi }) (record { lo = rows.lo; hi = middle rows }))
    rows

-- after k halvings
unfoldable pub halved_to : List ℕ → ℕ → ℕ → Rows
halved_to patch p zero = record { lo = 0; hi = ports_in patch }
halved_to patch p (suc k) = halved patch p (halved_to patch p k)

-- the row at which they end, if it is the port's
abbrev pub row_if : List ℕ → ℕ → ℕ → Option ℕ
row_if patch p i = cond (ltb i (ports_in patch) && is_row_of patch p i) (Some i) None

unfoldable pub row_sought : List ℕ → ℕ → Option ℕ
row_sought patch p = row_if patch p (halved_to patch p 7).lo

-- where a port's vector lies by that row, and the bytes there
unfoldable pub place_over : List ℕ → List ℕ → ℕ → Mechanism → Place
place_over s patch p m = place_by (row_sought patch p) s patch p m

unfoldable pub vector_over : List ℕ → List ℕ → ℕ → Mechanism → List ℕ
vector_over s patch p m = part_at (place_over s patch p m) s patch
