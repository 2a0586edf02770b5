-- How the byte before a change is found: in the first picture, and then in each change so far that names the same byte.
use Rattle.std.specs.Prelude.{ℕ, zero, suc, Bool, cond, ◌&&◌, List, eqb}
use Rattle.changes.specs.declared.Change.{Change}
use Rattle.changes.specs.Versions.{change_at}

-- whether two changes name the same byte, and what that byte is after the one
abbrev pub same_byte : Change → Change → Bool
same_byte done c = eqb done.port c.port && eqb done.part c.part && eqb done.at c.at

unfoldable pub held_after : Change → Change → ℕ → ℕ
held_after done c held = cond (same_byte done c) done.new_byte held

-- what it is after the first k changes of a run
unfoldable pub held_up_to : List Change → Change → ℕ → ℕ → ℕ
held_up_to changes c held zero = held
held_up_to changes c held (suc k) = held_after (change_at changes k) c (held_up_to changes c held k)
