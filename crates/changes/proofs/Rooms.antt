-- Whether the records of a room are too few.
-- Assumes nothing.
use Prim.Native.Nat.{ℕ, ◌+◌, ◌-◌, ◌<◌, ◌≤◌}
use mathlib.Core.Bool.{Bool, true, false, cond}
use mathlib.Core.Path.{◌≡◌, refl, sym, ◌∙◌}
use native.Mathlib.Omega.{arith}
use native.Mathlib.Decide.{dec_lt}
use native.Mathlib.Nat.{le_refl}
use borrow.Author.Tests.{lt-ltb, le-ltb, ltb-false}
use lib.Dec.{ltb}

module _ (records kept count : ℕ) where
  -- fewer records than are kept
  pub full_already : records < kept → true ≡ ltb records (kept + count)
  full_already less = sym (lt-ltb records (kept + count) (omega arith))

  -- what is left of the records against the run
  pub full_by_rest : kept ≤ records → ltb (records - kept) count ≡ ltb records (kept + count)
  full_by_rest least = go (dec_lt (records - kept) count)
    where
      go : Dec (records - kept < count) → ltb (records - kept) count ≡ ltb records (kept + count)
      go (yes l) = lt-ltb (records - kept) count l ∙ sym (lt-ltb records (kept + count) (omega arith))
      go (no l) = le-ltb (records - kept) count (omega arith) ∙ sym (le-ltb records (kept + count) (omega arith))

-- the changes kept that stand in a room are no more than its records
pub held_within : (records kept : ℕ) → cond (ltb records kept) records kept ≤ records
held_within records kept = go (ltb records kept) refl
  where
    go : (b : Bool) → ltb records kept ≡ b → cond b records kept ≤ records
    go true e = le_refl records
    go false e = ltb-false records kept e
