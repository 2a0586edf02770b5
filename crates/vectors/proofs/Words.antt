-- What eight bytes of a vector, read as one number, say of its entries.
-- Assumes nothing.
use Prim.Native.Nat.{ℕ, ◌+◌, ◌*◌, ◌/◌, ◌%◌, ◌<◌}
use mathlib.Core.Path.{◌≡◌, refl, ap, ◌∙◌}
use mathlib.Core.Bool.{Bool, true, false, not, beq}
use mathlib.Core.List.{List}
use native.Mathlib.Omega.{arith}
use lib.ListN.{get_or}
use Rattle.lent.specs.Lent.{u16_at, u32_at}
use Rattle.vectors.specs.Vectors.{is_set, entry_is}
use Rattle.vectors.proofs.Digits.{bit, Digits, digits_two}

-- one byte, and two, four and eight, whatever the number is that has been read
module _ (v : List ℕ) (bytes : (j : ℕ) → get_or v j 0 < 256) where
  of_byte : (j : ℕ) {x : ℕ} → x ≡ get_or v j 0 → Digits (is_set v) (8 * j) 8 x
  unfolding is_set
  of_byte j {x} e =
      record {
        most = rw e (bytes j);
        at = λ k l.
            let byte : (8 * j + k) / 8 ≡ j = omega arith in
            let place : (8 * j + k) % 8 ≡ k = omega arith in
            rw (byte, place, e);
      }

  of_two : (j : ℕ) → Digits (is_set v) (8 * j) 16 (u16_at v j)
  unfolding u16_at
  of_two j = digits_two 8 (omega arith) (of_byte j refl) (of_byte (j + 1) refl)

  of_four : (j : ℕ) → Digits (is_set v) (8 * j) 32 (u32_at v j)
  unfolding u32_at
  of_four j = digits_two 16 (omega arith) (of_two j) (of_two (j + 2))

  pub of_eight : (j : ℕ) {x : ℕ} → x ≡ u32_at v (8 * j) + 4294967296 * u32_at v (8 * j + 4) → Digits (is_set v) (64 * j) 64 x
  of_eight j {x} e =
      let bits : 8 * (8 * j) ≡ 64 * j = omega arith in
      rw e (rw bits at (digits_two 32 (omega arith) (of_four (8 * j)) (of_four (8 * j + 4))))

-- a digit as it is, or turned
pub as_wanted : (b : Bool) {want : Bool} → want ≡ true → b ≡ beq b want
as_wanted true e = rw e
as_wanted false e = rw e

pub not_wanted : (b : Bool) {want : Bool} → want ≡ false → not b ≡ beq b want
not_wanted true e = rw e
not_wanted false e = rw e

-- the entries that are as wanted are the digits of a word that are
pub entries_wanted : (v : List ℕ) (want : Bool) (i w x : ℕ) → ((k : ℕ) → k < 64 → bit w k ≡ is_set v (i + k))
    → ((k : ℕ) → k < 64 → bit x k ≡ beq (bit w k) want) → (k : ℕ) → k < 64 → bit x k ≡ entry_is v want (i + k)
unfolding entry_is
entries_wanted v want i w x d e k l = e k l ∙ ap (λ (b : Bool). beq b want) (d k l)
