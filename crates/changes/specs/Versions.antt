-- 02, Item 11: "Version k is the first picture with the first k changes made."
use Rattle.std.specs.Prelude.{ℕ, zero, suc, List, get_or, set, Option, Some, None}
use Rattle.changes.specs.declared.Change.{Change}
use Rattle.changes.specs.Change.{byte_named}

-- bytes with one of them set, where one is named
abbrev pub byte_set : Option ℕ → ℕ → List ℕ → List ℕ
byte_set (Some x) byte bytes = set bytes x byte
byte_set None byte bytes = bytes

-- bytes with a change made
unfoldable pub made : List ℕ → Change → List ℕ → List ℕ
made first c bytes = byte_set (byte_named first c) c.new_byte bytes

-- change i of a run; past its end, one that names no byte
abbrev pub no_change : Change
no_change = record { port = 0; part = 2; at = 0; old_byte = 0; new_byte = 0 }

unfoldable pub change_at : List Change → ℕ → Change
change_at changes i = get_or changes i no_change

-- bytes with the first k changes of a run made
unfoldable pub made_up_to : List ℕ → List Change → List ℕ → ℕ → List ℕ
made_up_to first changes bytes zero = bytes
made_up_to first changes bytes (suc k) = made first (change_at changes k) (made_up_to first changes bytes k)

abbrev pub version : List ℕ → List Change → ℕ → List ℕ
version first changes k = made_up_to first changes first k
