-- 02, Item 11, of the very definitions that the history calls promise. The proofs are in proofs/Histories.antt, under the same names in
-- small letters (history_numbers, history_added, history_wound_back, history_refused, history_read_back, history_named).
use Rattle.std.specs.Prelude.{ℕ, suc, ◌+◌, ◌<◌, ◌≤◌, true, List, [], ◌∷◌, ◌++◌, ◌↔◌, ◌≡◌, length, get_or, take, drop, Some}
use Rattle.changes.specs.declared.Change.{Change}
use Rattle.changes.specs.Change.{byte_named}
use Rattle.changes.specs.Versions.{change_at, made_up_to, version}
use Rattle.changes.specs.Adding.{adding_number, behind}
use Rattle.changes.specs.ReadingBack.{wind_back_number, version_number}
use Rattle.fiswalend.specs.History.{AddCall, WindBackCall, VersionCall}
use Rattle.demands.specs.Demands.{one_of, of_reading}

-- whatever is lent, each call ends with one of its numbers
pub record HistoryNumbers (first : List ℕ) : Type 0 where
  pub adding : (room run : List Change) (kept : ℕ) → one_of (of_reading ++ (37 ∷ 38 ∷ 39 ∷ [])) (adding_number first room run kept) ≡ true
  pub winding : (kept k : ℕ) → one_of (0 ∷ 40 ∷ []) (wind_back_number kept k) ≡ true
  pub reading_back : (records buffer kept k : ℕ) → one_of (of_reading ++ (40 ∷ 23 ∷ [])) (version_number first records buffer kept k) ≡ true

-- what a change did between version k and the next: the byte that it names held the old byte, and holds the new one
pub record Did (first : List ℕ) (room : List Change) (c : Change) (k : ℕ) : Type 0 where
  pub place : ℕ
  pub names : byte_named first c ≡ Some place
  pub old_there : get_or (version first room k) place 0 ≡ c.old_byte
  pub new_there : get_or (version first room (suc k)) place 0 ≡ c.new_byte

-- a run that was added whole: the room is as long as before, versions up to the number kept are as before, and those above it are made by
-- the run, change by change
pub record RunAdded (first : List ℕ) (room run : List Change) (kept : ℕ) : Type 0 where
  pub as_long : length (behind room kept run) ≡ length room
  pub before : (j : ℕ) → j ≤ kept → version first (behind room kept run) j ≡ version first room j
  pub above : (i : ℕ) → i ≤ length run → version first (behind room kept run) (kept + i) ≡ made_up_to first run (version first room kept) i
  pub each : (i : ℕ) → i < length run → Did first (behind room kept run) (change_at run i) (kept + i)

abbrev pub HistoryAdded : List ℕ → Type 0
HistoryAdded first = (room run : List Change) (kept : ℕ) → adding_number first room run kept ≡ 0 → RunAdded first room run kept

-- "Winding back to version k drops the later changes, and their room is used again; a k above the last is 40"; "After a wind-back, numbers
-- above k mean the new changes": what stands behind the first k changes of a room makes no difference to what is added there and to the
-- versions up to k
pub record HistoryWoundBack (first : List ℕ) : Type 0 where
  pub accepted : (kept k : ℕ) → k ≤ kept → wind_back_number kept k ≡ 0
  pub refused : (kept k : ℕ) → kept < k → wind_back_number kept k ≡ 40
  pub dropped : (room other run : List Change) (k : ℕ) → length room ≡ length other → take k room ≡ take k other
      → adding_number first room run k ≡ adding_number first other run k
  pub before : (room other : List Change) (k j : ℕ) → take k room ≡ take k other → j ≤ k → version first room j ≡ version first other j

-- "A refusal changes nothing"
pub record HistoryRefused (first : List ℕ) : Type 0 where
  pub adding : (room run after : List Change) (kept before number now : ℕ) → AddCall first room run kept before number after now
      → (number ≡ 0 → ⊥) → (after ≡ room) × (now ≡ before)
  pub winding : (kept k before number now : ℕ) → WindBackCall kept k before number now → (number ≡ 0 → ⊥) → now ≡ before
  pub reading_back : (room : List Change) (kept k number : ℕ) (before after : List ℕ) → VersionCall first room kept k before number after
      → (number ≡ 0 → ⊥) → after ≡ before

-- "Each version read back equals what its history says": it is as long as the first picture, the buffer begins with it, and its rest is kept
abbrev pub HistoryReadBack : List ℕ → Type 0
HistoryReadBack first =
    (room : List Change) (kept k : ℕ) (before after : List ℕ) → VersionCall first room kept k before 0 after
    → (length (version first room k) ≡ length first) × (take (length first) after ≡ version first room k)
    × (drop (length first) after ≡ drop (length first) before)

-- a first picture's "layout places every byte": each byte behind the header is named and no other, and by one port, part and place alone
pub record HistoryNamed (first : List ℕ) : Type 0 where
  pub within : (c : Change) (x : ℕ) → byte_named first c ≡ Some x → (16 ≤ x) × (x < length first)
  pub all : (x : ℕ) → 16 ≤ x → x < length first → (c : Change) × (byte_named first c ≡ Some x)
  pub once : (c d : Change) (x : ℕ) → byte_named first c ≡ Some x
      → (byte_named first d ≡ Some x) ↔ ((d.port ≡ c.port) × (d.part ≡ c.part) × (d.at ≡ c.at))
