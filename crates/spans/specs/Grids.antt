-- The entries of a vector that count within a range.
use Rattle.std.specs.Prelude.{ℕ, ◌+◌, ◌-◌, ◌*◌, ◌/◌, ◌^◌, max, Bool, not, cond, ◌&&◌, List, leb, ltb, Option, Some, None}
use Rattle.vectors.specs.declared.Settings.{Settings}
use Rattle.vectors.specs.Vectors.{hits}
use Rattle.spans.specs.declared.grids.Grid.{Grid}
use Rattle.spans.specs.Ranges.{in_range}

-- a target within the range whose entry is set
unfoldable pub hit_in : List ℕ → Grid → ℕ → Bool
hit_in v g t = in_range g.within t && hits v g.settings t

unfoldable pub missed_in : List ℕ → Grid → ℕ → Bool
missed_in v g t = not (hit_in v g t)

-- a target whose entry is not set, or that has none
unfoldable pub unset : List ℕ → Settings → ℕ → Bool
unset v s t = not (hits v s t)

-- where an entry begins, or `from` if that is later; none, if it lies past the last target
unfoldable pub begins_from : Settings → ℕ → ℕ → Option ℕ
begins_from s from i =
    cond (ltb ((2 ^ 64 - 1 - s.start) / 2 ^ s.scale) i) None (Some (max from (s.start + i * 2 ^ s.scale)))

-- a finding, unless it lies above `hi`
unfoldable pub clipped : Option ℕ → ℕ → Option ℕ
clipped (Some t) hi = cond (leb t hi) (Some t) None
clipped None hi = None
