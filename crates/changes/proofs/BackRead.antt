-- A version that is made in a buffer, behind which the buffer's rest is kept.
-- Assumes nothing.
use Prim.Native.Nat.{ℕ, zero, suc, ◌<◌, ◌≤◌}
use mathlib.Core.Bool.{Bool, true, false, cond, ◌||◌}
use mathlib.Core.List.{List, ◌++◌}
use mathlib.Core.Path.{◌≡◌, refl, sym, ap, ◌∙◌, subst}
use native.Mathlib.Omega.{arith}
use borrow.Author.Tests.{eqb-true, eqb-false, ltb-false}
use lib.Dec.{eqb, ltb}
use lib.ListN.{length, drop}
use lib.Seq.{set-append_left}
use Rattle.picture.specs.Reading.{reading, number_of}
use Rattle.changes.specs.declared.Change.{Change}
use Rattle.changes.specs.Change.{byte_named}
use Rattle.changes.specs.Versions.{byte_set, made, change_at, made_up_to}
use Rattle.changes.specs.ReadingBack.{version_number, read_back}
use Rattle.changes.proofs.Named.{named, within}
use Rattle.changes.proofs.Reading.{Read-as}
use Rattle.changes.proofs.Held.{up_to_length}
use Rattle.std.specs.Prelude.{Option, Some, None}

module _ (first : List ℕ) (sound : Read-as first) where
  made_front : (c : Change) (bytes rest : List ℕ) → length bytes ≡ length first → made first c (bytes ++ rest) ≡ made first c bytes ++ rest
  unfolding made
  made_front c bytes rest same = go (byte_named first c) refl
    where
      go : (found : Option ℕ) → byte_named first c ≡ found → byte_set found c.new_byte (bytes ++ rest) ≡ byte_set found c.new_byte bytes ++ rest
      go (Some x) e = set-append_left bytes rest x c.new_byte (subst (λ (n : ℕ). x < n) (sym same) (within first sound.header sound.all c x (named first c x e)))
      go None e = refl

  pub up_to_front : (changes : List Change) (bytes rest : List ℕ) → length bytes ≡ length first → (k : ℕ) → made_up_to first changes (bytes ++ rest) k ≡ made_up_to first changes bytes k ++ rest
  unfolding made_up_to
  up_to_front changes bytes rest same zero = refl
  up_to_front changes bytes rest same (suc k) =
      ap (made first (change_at changes k)) (up_to_front changes bytes rest same k)
      ∙ made_front (change_at changes k) (made_up_to first changes bytes k) rest (up_to_length first changes bytes k ∙ same)

  pub read_back_is : (changes : List Change) (k : ℕ) (buffer : List ℕ) → made_up_to first changes (first ++ drop (length first) buffer) k ≡ read_back first changes k buffer
  unfolding read_back
  read_back_is changes k buffer = up_to_front changes first (drop (length first) buffer) refl k

-- what is so where the number of reading back is 0
pub record Back (first : List ℕ) (records buffer kept k : ℕ) : Type 0 where
  pub read : number_of (reading first) ≡ 0
  pub no_later : k ≤ kept
  pub all_there : kept ≤ records
  pub long_enough : length first ≤ buffer

pub back_zero : (first : List ℕ) (records buffer kept k : ℕ) → version_number first records buffer kept k ≡ 0 → Back first records buffer kept k
unfolding version_number
back_zero first records buffer kept k e = go (eqb (number_of (reading first)) 0) refl (ltb kept k) refl (ltb records kept) refl (ltb buffer (length first)) refl e
  where
    go : (a : Bool) → eqb (number_of (reading first)) 0 ≡ a → (b : Bool) → ltb kept k ≡ b → (c : Bool) → ltb records kept ≡ c → (d : Bool) → ltb buffer (length first) ≡ d
        → cond a (cond (b || c) 40 (cond d 23 0)) (number_of (reading first)) ≡ 0 → Back first records buffer kept k
    go true ea false eb false ec false ed z =
        record { read = eqb-true _ _ ea; no_later = ltb-false _ _ eb; all_there = ltb-false _ _ ec; long_enough = ltb-false _ _ ed }
    go true ea true eb c ec d ed z = absurd (omega (arith, z))
    go true ea false eb true ec d ed z = absurd (omega (arith, z))
    go true ea false eb false ec true ed z = absurd (omega (arith, z))
    go false ea b eb c ec d ed z = absurd (eqb-false _ _ ea z)
