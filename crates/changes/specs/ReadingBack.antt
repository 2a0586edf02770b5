-- 02, Item 11: "Winding back to version k drops the later changes ..; a k above the last is 40."; "Each version read back equals what
-- its history says."
use Rattle.std.specs.Prelude.{ℕ, cond, ◌||◌, List, ◌++◌, ltb, length, drop}
use Rattle.picture.specs.Reading.{reading, number_of}
use Rattle.changes.specs.declared.Change.{Change}
use Rattle.changes.specs.Versions.{version}
use Rattle.changes.specs.Adding.{else_number}

abbrev pub wind_back_number : ℕ → ℕ → ℕ
wind_back_number kept k = cond (ltb kept k) 40 0

-- 40: a version above the last, or more changes kept than the room has records; 23: a buffer too short. `buffer` is its length
unfoldable pub version_number : List ℕ → ℕ → ℕ → ℕ → ℕ → ℕ
version_number first records buffer kept k =
    else_number (number_of (reading first)) (cond (ltb kept k || ltb records kept) 40 (cond (ltb buffer (length first)) 23 0))

-- a buffer that begins with a version, its rest kept
unfoldable pub read_back : List ℕ → List Change → ℕ → List ℕ → List ℕ
read_back first changes k buffer = version first changes k ++ drop (length first) buffer
