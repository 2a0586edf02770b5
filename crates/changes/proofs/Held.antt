-- The byte that is found by looking through the changes so far is the one that the version before a change holds.
-- Assumes nothing.
use Rattle.chassis.specs.Tree.{any_below}
use native.Mathlib.Numerals.{add-one}
use Prim.Native.Nat.{ℕ, zero, suc, ◌+◌, ◌-◌, ◌<◌, ◌≤◌}
use mathlib.Core.Bool.{Bool, true, false, cond, not, ◌&&◌, ◌||◌}
use mathlib.Core.List.{List}
use mathlib.Core.Path.{◌≡◌, refl, sym, ap, ◌∙◌, subst}
use native.Mathlib.Nat.{le_refl, zero-add, suc-add}
use native.Mathlib.Omega.{arith}
use borrow.Author.Tests.{eqb-true, ltb-true}
use lib.Dec.{eqb, ltb}
use lib.ListN.{length, get_or, length-set, get_or-eq_default}
use lib.Seq.{get_or-set_same, get_or-set_other}
use Rattle.least.proofs.Laws.{impossible}
use Rattle.chassis.proofs.Bools.{and_true_parts}
use Rattle.trees.specs.Trees.{count_of}
use Rattle.changes.specs.declared.Change.{Change}
use Rattle.changes.specs.Change.{part_bytes, byte_named}
use Rattle.changes.specs.Versions.{byte_set, made, no_change, change_at, made_up_to, version}
use Rattle.changes.specs.Adding.{byte_at, is_another, old_wrong, names_none, run_number}
use Rattle.changes.specs.Looking.{same_byte, held_after, held_up_to}
use Rattle.changes.proofs.Named.{named, within, same_place}
use Rattle.changes.proofs.Reading.{Read-as}
use Rattle.std.specs.Prelude.{Option, Some, None}

-- a change keeps the length
with_length : (found : Option ℕ) (byte : ℕ) (bytes : List ℕ) → length (byte_set found byte bytes) ≡ length bytes
with_length (Some x) byte bytes = length-set bytes x byte
with_length None byte bytes = refl

pub made_length : (first : List ℕ) (c : Change) (bytes : List ℕ) → length (made first c bytes) ≡ length bytes
unfolding made
made_length first c bytes = with_length (byte_named first c) c.new_byte bytes

pub up_to_length : (first : List ℕ) (changes : List Change) (bytes : List ℕ) (k : ℕ) → length (made_up_to first changes bytes k) ≡ length bytes
unfolding made_up_to
up_to_length first changes bytes zero = refl
up_to_length first changes bytes (suc k) = made_length first (change_at changes k) (made_up_to first changes bytes k) ∙ up_to_length first changes bytes k

-- the byte named hangs on port, part and place alone
pub same_named : (first : List ℕ) (d c : Change) → same_byte d c ≡ true → byte_named first d ≡ byte_named first c
unfolding byte_named
same_named first d c e =
    let both = and_true_parts (eqb d.port c.port && eqb d.part c.part) (eqb d.at c.at) e in
    let two = and_true_parts (eqb d.port c.port) (eqb d.part c.part) both.0 in
    rw (eqb-true d.port c.port two.0, eqb-true d.part c.part two.1, eqb-true d.at c.at both.1)

module _ (first : List ℕ) (sound : Read-as first) (c : Change) (x : ℕ) (is : byte_named first c ≡ Some x) where
  -- the byte after one change more
  after_one : (d : Change) (bytes : List ℕ) → length bytes ≡ length first → get_or (made first d bytes) x 0 ≡ held_after d c (get_or bytes x 0)
  unfolding made held_after
  after_one d bytes same = go (byte_named first d) refl (same_byte d c) refl
    where
      there : x < length bytes
      there = subst (λ (n : ℕ). x < n) (sym same) (within first sound.header sound.all c x (named first c x is))

      go : (found : Option ℕ) → byte_named first d ≡ found → (b : Bool) → same_byte d c ≡ b → get_or (byte_set found d.new_byte bytes) x 0 ≡ cond b d.new_byte (get_or bytes x 0)
      go (Some y) e true s =
          let one : Some y ≡ Some x = sym e ∙ same_named first d c s ∙ is in
          let place : y ≡ x = cc in
          rw place (get_or-set_same bytes x d.new_byte 0 there)
      go (Some y) e false s =
          get_or-set_other bytes y x d.new_byte 0 (λ (place : x ≡ y).
          let t : true ≡ false = sym (same_place first sound.header sound.all d c x (named first d x (rw place e)) (named first c x is)) ∙ s in impossible (cc))
      go None e true s = let one : None ≡ Some x = sym e ∙ same_named first d c s ∙ is in impossible (cc)
      go None e false s = refl

  -- and after the first k of a run
  pub held_is : (changes : List Change) (bytes : List ℕ) → length bytes ≡ length first → (k : ℕ) → held_up_to changes c (get_or bytes x 0) k ≡ get_or (made_up_to first changes bytes k) x 0
  unfolding held_up_to made_up_to
  held_is changes bytes same zero = refl
  held_is changes bytes same (suc k) =
      ap (held_after (change_at changes k) c) (held_is changes bytes same k)
      ∙ sym (after_one (change_at changes k) (made_up_to first changes bytes k) (up_to_length first changes bytes k ∙ same))

-- past a run's end nothing is made
past_end : (first : List ℕ) (bytes : List ℕ) → made first no_change bytes ≡ bytes
unfolding made byte_named part_bytes
past_end first bytes = go (ltb 0 (count_of first)) _
  where
    go : (b : Bool) (x : ℕ) → byte_set (cond (b && false) (Some x) None) 0 bytes ≡ bytes
    go true x = refl
    go false x = refl

-- so the changes kept are those of them that stand in the room
beyond : (first : List ℕ) (changes : List Change) (bytes : List ℕ) (k n : ℕ) → length changes ≤ k → made_up_to first changes bytes (n + k) ≡ made_up_to first changes bytes k
unfolding made_up_to change_at
beyond first changes bytes k zero past = rw (zero-add k)
beyond first changes bytes k (suc n) past =
    rw (suc-add n k, get_or-eq_default changes no_change {n = n + k} (omega (arith, past)), past_end first (made_up_to first changes bytes (n + k))) (beyond first changes bytes k n past)

pub version_held : (first : List ℕ) (room : List Change) (kept : ℕ) → version first room (cond (ltb (length room) kept) (length room) kept) ≡ version first room kept
version_held first room kept = go (ltb (length room) kept) refl
  where
    go : (b : Bool) → ltb (length room) kept ≡ b → version first room (cond b (length room) kept) ≡ version first room kept
    go true e =
        let more : kept - length room + length room ≡ kept = omega (arith, ltb-true (length room) kept e) in
        sym (beyond first room first (length room) (kept - length room) (le_refl _)) ∙ ap (version first room) more
    go false e = refl

-- 38 at a change of the run, by the byte that is looked for
pub wrong_is : (first : List ℕ) (room run : List Change) (kept i : ℕ) → Read-as first
    → is_another (byte_named first (change_at run i))
    (held_up_to run (change_at run i) (held_up_to room (change_at run i) (byte_at (byte_named first (change_at run i)) first) (cond (ltb (length room) kept) (length room) kept)) i)
    (change_at run i).old_byte
    ≡ old_wrong first (version first room kept) run i
unfolding old_wrong
wrong_is first room run kept i sound = go (byte_named first (change_at run i)) refl
  where
    c : Change
    c = change_at run i

    held : ℕ
    held = cond (ltb (length room) kept) (length room) kept

    go : (found : Option ℕ) → byte_named first c ≡ found
        → is_another found (held_up_to run c (held_up_to room c (byte_at found first) held) i) c.old_byte
        ≡ is_another found (byte_at found (made_up_to first run (version first room kept) i)) c.old_byte
    go (Some x) e =
        ap (λ (b : ℕ). not (eqb b c.old_byte))
        (ap (λ (b : ℕ). held_up_to run c b i) (held_is first sound c x e room first refl held ∙ ap (λ (bytes : List ℕ). get_or bytes x 0) (version_held first room kept))
        ∙ held_is first sound c x e run (version first room kept) (up_to_length first room first kept) i)
    go None e = refl

-- 37 or 38 so far, and with one change more, which names no byte or says a wrong old one
abbrev pub lower : ℕ → Bool → Bool → ℕ
lower number none wrong = cond (none || eqb number 37) 37 (cond (wrong || eqb number 38) 38 0)

-- 37 and 38 over one change more
pub number_more : (first bytes : List ℕ) (run : List Change) (i : ℕ) → lower (run_number first bytes run i) (names_none first run i) (old_wrong first bytes run i) ≡ run_number first bytes run (i + 1)
unfolding run_number any_below
number_more first bytes run i =
    rw (add-one i) (go (any_below (names_none first run) i) (names_none first run i) (any_below (old_wrong first bytes run) i) (old_wrong first bytes run i))
  where
    go : (n m w v : Bool) → lower (cond n 37 (cond w 38 0)) m v ≡ cond (n || m) 37 (cond (w || v) 38 0)
    go true true w v = refl
    go true false true v = refl
    go true false false v = refl
    go false true w v = refl
    go false false true true = refl
    go false false true false = refl
    go false false false true = refl
    go false false false false = refl
