-- What the RID, MEM Low and MEM High vectors share, over size, start and granularity.
use Rattle.std.specs.Prelude.{ℕ, ◌-◌, ◌/◌, ◌%◌, ◌^◌, Bool, cond, ◌&&◌, List, get_or, leb, ltb, eqb, Option, Some, None}
use Rattle.std.specs.Bool.{beq}
use Rattle.vectors.specs.declared.Settings.{Settings}

-- 01, "What a port claims": "An entry applies if the target is not below the start and (target − start) / granularity is less than
-- the size". 001's "greater than the length" would admit one entry that does not exist.
abbrev pub entry_at : Settings → ℕ → ℕ
entry_at g t = (t - g.start) / 2 ^ g.scale

abbrev pub applies : Settings → ℕ → Bool
applies g t = leb g.start t && ltb (entry_at g t) g.size

unfoldable pub entry_of : Settings → ℕ → Option ℕ
entry_of g t = cond (applies g t) (Some (entry_at g t)) None

-- 01, "The picture": "Entry i is bit i mod 8 of byte i/8."
unfoldable pub is_set : List ℕ → ℕ → Bool
is_set v i = eqb (get_or v (i / 8) 0 / 2 ^ (i % 8) % 2) 1

-- an entry that is set, or, where that is wanted, clear
unfoldable pub entry_is : List ℕ → Bool → ℕ → Bool
entry_is v want i = beq (is_set v i) want

-- a target whose entry applies and is set
unfoldable pub hits : List ℕ → Settings → ℕ → Bool
hits v g t = applies g t && is_set v (entry_at g t)
