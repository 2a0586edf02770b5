-- What one port reaches in one space.
use Rattle.std.specs.Prelude.{ℕ, ◌^◌, Bool, not, ◌||◌, List, Option}
use Rattle.least.specs.Least.{first_in}
use Rattle.spans.specs.declared.Reach.{Reach}
use Rattle.spans.specs.Ranges.{in_range, out_of, onward}
use Rattle.spans.specs.Grids.{hit_in, missed_in}

unfoldable pub on_ranges : Reach → ℕ → Bool
on_ranges d t = in_range d.first t || in_range d.second t

-- v and w are the vectors of the one grid and of the other
unfoldable pub on_grids : Reach → List ℕ → List ℕ → ℕ → Bool
on_grids d v w t = hit_in v d.one t || hit_in w d.other t

unfoldable pub reaches : Reach → List ℕ → List ℕ → ℕ → Bool
reaches d v w t = on_ranges d t || on_grids d v w t

unfoldable pub misses : Reach → List ℕ → List ℕ → ℕ → Bool
misses d v w t = not (reaches d v w t)

-- out of the first range, then out of the second, then past the one grid and past the other
unfoldable pub skipped : Reach → List ℕ → List ℕ → ℕ → Option ℕ
skipped d v w i =
    onward (missed_in w d.other) (onward (missed_in v d.one) (onward (out_of d.second) (first_in (out_of d.first) i (2 ^ 64))))
