-- 02, Item 2: "For each vector the part handed out lies in the picture or in the patch, and the call says which."
use Rattle.std.specs.Prelude.{ℕ, ◌+◌, Bool, List, eqb, take, drop, Option, Some, None}
use Rattle.least.specs.Least.{first_in}
use Rattle.registers.specs.declared.Mechanism.{Mechanism}
use Rattle.registers.specs.Record.{port_at}
use Rattle.registers.specs.Vectors.{vector_bytes}
use Rattle.picture.specs.Layout.{offset_in}
use Rattle.patches.specs.declared.parts.Place.{Place}
use Rattle.patches.specs.declared.parts.Source.{Source}
use Rattle.patches.specs.declared.parts.Source.TheVariants.{Picture, Patch}
use Rattle.patches.specs.Patch.{ports_in, port_in, offset_at}

-- the row of a port, if it stands in the patch
unfoldable pub is_row_of : List ℕ → ℕ → ℕ → Bool
is_row_of patch p i = eqb (port_in patch i) p

abbrev pub row_of : List ℕ → ℕ → Option ℕ
row_of patch p = first_in (is_row_of patch p) 0 (ports_in patch)

-- which slice a port's vectors lie in, and where they start there, by the row found for the port
abbrev pub source_by : Option ℕ → Source
source_by (Some i) = Patch
source_by None = Picture

abbrev pub start_by : Option ℕ → List ℕ → List ℕ → ℕ → ℕ
start_by (Some i) s patch p = offset_at patch i
start_by None s patch p = (port_at s p).vectors_at

-- which slice one of them lies in, where it starts there and how many bytes it has
abbrev pub place_by : Option ℕ → List ℕ → List ℕ → ℕ → Mechanism → Place
place_by row s patch p m =
    record {
      source = source_by row;
      at = start_by row s patch p + offset_in (port_at s p).fpb m;
      bytes = vector_bytes (port_at s p).fpb m;
    }

unfoldable pub place_of : List ℕ → List ℕ → ℕ → Mechanism → Place
place_of s patch p m = place_by (row_of patch p) s patch p m

-- the bytes there
abbrev pub slice_of : Source → List ℕ → List ℕ → List ℕ
slice_of Picture s patch = s
slice_of Patch s patch = patch

unfoldable pub part_at : Place → List ℕ → List ℕ → List ℕ
part_at place s patch = take place.bytes (drop place.at (slice_of place.source s patch))
