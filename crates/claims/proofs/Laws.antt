-- Facts about numbers that the proofs of this crate and of those above it share. Assumes nothing.
use mathlib.Core.Path.{◌≡◌, ap, ◌∙◌}
use Prim.Native.Nat.{ℕ, suc, ◌+◌, ◌≤◌}
use native.Mathlib.Decide.{dec_le}
use native.Mathlib.Omega.{arith}
use lib.Dec.{leb, ltb, leb-suc-suc}
use borrow.Author.Tests.{le-leb, lt-leb}

-- n + 1 units from `start` on end at the unit `start + n`
pub last_unit : (unit start n : ℕ) → ltb unit (start + (n + 1)) ≡ leb unit (start + n)
last_unit unit start n = ap (ltb unit) (let e : start + (n + 1) ≡ suc (start + n) = omega arith in e) ∙ leb-suc-suc unit (start + n)

-- comparisons that say the same
pub same_leb : (a b c d : ℕ) → (a ≤ b → c ≤ d) → (c ≤ d → a ≤ b) → leb a b ≡ leb c d
same_leb a b c d there back = go (dec_le a b) (dec_le c d)
  where
    go : Dec (a ≤ b) → Dec (c ≤ d) → leb a b ≡ leb c d
    go (yes l) m = rw (le-leb a b l, le-leb c d (there l))
    go (no l) (yes m) = absurd (l (back m))
    go (no l) (no m) = rw (lt-leb a b (omega arith), lt-leb c d (omega arith))
