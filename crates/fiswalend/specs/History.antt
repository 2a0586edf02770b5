-- 02, Item 11: what the history calls give and leave behind.
use Rattle.std.specs.Prelude.{ℕ, ◌+◌, List, ◌≡◌, length}
use Rattle.changes.specs.declared.Change.{Change}
use Rattle.changes.specs.Adding.{adding_number, behind, unless_refused}
use Rattle.changes.specs.ReadingBack.{wind_back_number, version_number, read_back}

-- `kept` is the number lent; `before` and `after` are what the number that is written holds
pub record AddCall (first : List ℕ) (room run : List Change) (kept before number : ℕ) (room_after : List Change) (after : ℕ) : Type 0 where
  pub number_is : number ≡ adding_number first room run kept
  pub room_is : room_after ≡ unless_refused number (behind room kept run) room
  pub kept_is : after ≡ unless_refused number (kept + length run) before

pub record WindBackCall (kept k before number after : ℕ) : Type 0 where
  pub number_is : number ≡ wind_back_number kept k
  pub kept_is : after ≡ unless_refused number k before

-- the buffer, before and after
pub record VersionCall (first : List ℕ) (room : List Change) (kept k : ℕ) (before : List ℕ) (number : ℕ) (after : List ℕ) : Type 0 where
  pub number_is : number ≡ version_number first (length room) (length before) kept k
  pub buffer_is : after ≡ unless_refused number (read_back first room k before) before
