-- 02, Item 11: "Adding refuses, in this order, a port or byte that does not exist (37), an old byte that is not what the version before
-- it holds (38), and a full room (39, exactly if the changes kept and the run together outnumber the records of the lent room); a run
-- is added whole or not at all."
use Rattle.std.specs.Prelude.{ℕ, ◌+◌, Bool, true, false, not, cond, ◌||◌, List, ◌++◌, eqb, ltb, length, get_or, take, drop, Option, Some, None}
use Rattle.chassis.specs.Tree.{any_below}
use Rattle.picture.specs.Reading.{reading, number_of}
use Rattle.changes.specs.declared.Change.{Change}
use Rattle.changes.specs.Change.{byte_named}
use Rattle.changes.specs.Versions.{change_at, made_up_to, version}

-- whether no byte is named
abbrev pub is_none : Option ℕ → Bool
is_none (Some x) = false
is_none None = true

-- the byte that bytes hold where one is named, and whether one is named that holds another than is said
abbrev pub byte_at : Option ℕ → List ℕ → ℕ
byte_at (Some x) bytes = get_or bytes x 0
byte_at None bytes = 0

abbrev pub is_another : Option ℕ → ℕ → ℕ → Bool
is_another (Some x) held said = not (eqb held said)
is_another None held said = false

-- 37 and 38 at change i of a run, `bytes` being the version that the run is added to
unfoldable pub names_none : List ℕ → List Change → ℕ → Bool
names_none first run i = is_none (byte_named first (change_at run i))

unfoldable pub old_wrong : List ℕ → List ℕ → List Change → ℕ → Bool
old_wrong first bytes run i =
    is_another (byte_named first (change_at run i))
    (byte_at (byte_named first (change_at run i)) (made_up_to first run bytes i))
    (change_at run i).old_byte

-- 37 or 38, each looked for over the first n changes of the run before the next; else 0
unfoldable pub run_number : List ℕ → List ℕ → List Change → ℕ → ℕ
run_number first bytes run n = cond (any_below (names_none first run) n) 37 (cond (any_below (old_wrong first bytes run) n) 38 0)

-- 39, or more changes than the number kept, one of 32 bits, can count
abbrev pub most_changes : ℕ
most_changes = 4294967295

unfoldable pub room_full : ℕ → ℕ → ℕ → Bool
room_full records kept count = ltb records (kept + count) || ltb most_changes (kept + count)

-- a number, or the next one where that is 0
abbrev pub else_number : ℕ → ℕ → ℕ
else_number number next = cond (eqb number 0) next number

-- the number that adding ends with: of the first picture, of the run, of the room
unfoldable pub adding_number : List ℕ → List Change → List Change → ℕ → ℕ
adding_number first room run kept =
    else_number (number_of (reading first))
    (else_number (run_number first (version first room kept) run (length run))
    (cond (room_full (length room) kept (length run)) 39 0))

-- "A refusal changes nothing": what is there after a call that ended with a number
abbrev pub unless_refused : {E : Type 0} → ℕ → E → E → E
unless_refused number after before = cond (eqb number 0) after before

-- the room with a run behind the changes kept
unfoldable pub behind : List Change → ℕ → List Change → List Change
behind room kept run = take kept room ++ run ++ drop (kept + length run) room
