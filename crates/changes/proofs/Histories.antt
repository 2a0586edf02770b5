-- The versions of a history before and after a run is added.
-- Assumes nothing.
use Prim.Native.Nat.{ℕ, zero, suc, ◌+◌, ◌<◌, ◌≤◌}
use mathlib.Core.Bool.{Bool, true, false, cond}
use mathlib.Core.List.{List}
use mathlib.Core.Path.{◌≡◌, refl, sym, ap, ◌∙◌, subst}
use native.Mathlib.Nat.{add-zero, add-suc}
use native.Mathlib.Decide.{dec_lt}
use native.Mathlib.Omega.{arith}
use borrow.Author.Tests.{eqb-true, not-false}
use lib.Dec.{eqb}
use lib.ListN.{length, get_or, set, take}
use lib.Seq.{get_or-set_same, get_or-set_other, get_or-take}
use Rattle.least.proofs.Laws.{impossible}
use Rattle.chassis.proofs.Bools.{or_false_parts}
use Rattle.chassis.specs.Tree.{any_below}
use Rattle.changes.specs.declared.Change.{Change}
use Rattle.changes.specs.Change.{byte_named}
use Rattle.changes.specs.Versions.{made, no_change, change_at, made_up_to, version}
use Rattle.changes.specs.Adding.{is_none, byte_at, is_another, names_none, old_wrong, run_number, adding_number, behind}
use Rattle.changes.proofs.Named.{named, within}
use Rattle.changes.proofs.Reading.{Read-as, reads_zero}
use Rattle.changes.proofs.Held.{up_to_length}
use Rattle.changes.proofs.Stood.{stood, stood_length, stands}
use Rattle.changes.proofs.Added.{Added, adding_zero, records_left}
use Rattle.std.specs.Prelude.{Option, Some, None}

-- what stands in the room after some changes of the run were written: before the place what stood there, and from it on those changes
stood_before : (room run : List Change) (from i j : ℕ) → j < from → change_at (stood room run from i) j ≡ change_at room j
unfolding stood change_at
stood_before room run from zero j l = refl
stood_before room run from (suc i) j l =
    get_or-set_other (stood room run from i) (from + i) j (change_at run i) no_change (λ (e : j ≡ from + i). absurd (omega (arith, l, e))) ∙ stood_before room run from i j l

stood_there : (room run : List Change) (from i j : ℕ) → from + i ≤ length room → j < i → change_at (stood room run from i) (from + j) ≡ change_at run j
unfolding stood change_at
stood_there room run from zero j fits l = absurd (omega (arith, l))
stood_there room run from (suc i) j fits l = go (stood_there room run from i j (omega (arith, fits))) (dec_lt j i)
  where
    go : (j < i → change_at (stood room run from i) (from + j) ≡ change_at run j) → Dec (j < i) → get_or (set (stood room run from i) (from + i) (change_at run i)) (from + j) no_change ≡ change_at run j
    go lower (yes k) = get_or-set_other (stood room run from i) (from + i) (from + j) (change_at run i) no_change (λ (e : from + j ≡ from + i). absurd (omega (arith, k, e))) ∙ lower k
    go lower (no k) =
        let same : j ≡ i = omega (arith, l, k) in
        rw same (get_or-set_same (stood room run from i) (from + i) (change_at run i) no_change (subst (λ (n : ℕ). from + i < n) (sym (stood_length room run from i)) (omega (arith, fits))))

-- versions hang on their own changes alone
pub same_versions : (first : List ℕ) (a b : List Change) (bytes : List ℕ) (k : ℕ) → ((j : ℕ) → j < k → change_at a j ≡ change_at b j) → made_up_to first a bytes k ≡ made_up_to first b bytes k
unfolding made_up_to
same_versions first a b bytes zero same = refl
same_versions first a b bytes (suc k) same =
    ap (λ (c : Change). made first c (made_up_to first a bytes k)) (same k (omega arith))
    ∙ ap (made first (change_at b k)) (same_versions first a b bytes k (λ j l. same j (omega (arith, l))))

-- the first k changes of a room
pub kept_changes : (room : List Change) (k i : ℕ) → i < k → change_at (take k room) i ≡ change_at room i
unfolding change_at
kept_changes room k i l = get_or-take k room i no_change l

module _ (first : List ℕ) (room run : List Change) (kept : ℕ) (fits : kept + length run ≤ length room) where
  -- the room is as long as it was
  pub behind_length : length (behind room kept run) ≡ length room
  behind_length = ap length (sym (stands room run kept fits)) ∙ stood_length room run kept (length run)

  -- versions up to the number kept are as before
  pub before_kept : (j : ℕ) → j ≤ kept → version first (behind room kept run) j ≡ version first room j
  before_kept j l = same_versions first (behind room kept run) room first j (λ i k.
      ap (λ (m : List Change). change_at m i) (sym (stands room run kept fits)) ∙ stood_before room run kept (length run) i (omega (arith, k, l)))

  -- those above it have the changes of the run made
  pub above_kept : (i : ℕ) → i ≤ length run → version first (behind room kept run) (kept + i) ≡ made_up_to first run (version first room kept) i
  unfolding made_up_to
  above_kept zero l = ap (version first (behind room kept run)) (add-zero kept) ∙ before_kept kept (omega arith)
  above_kept (suc i) l =
      ap (version first (behind room kept run)) (add-suc kept i)
      ∙ ap (λ (c : Change). made first c (version first (behind room kept run) (kept + i)))
      (ap (λ (m : List Change). change_at m (kept + i)) (sym (stands room run kept fits)) ∙ stood_there room run kept (length run) i fits (omega (arith, l)))
      ∙ ap (made first (change_at run i)) (above_kept i (omega (arith, l)))

-- where none passes, none of them does
none_below : (test : ℕ → Bool) (n i : ℕ) → any_below test n ≡ false → i < n → test i ≡ false
unfolding any_below
none_below test zero i e l = absurd (omega (arith, l))
none_below test (suc n) i e l =
    let both = or_false_parts (any_below test n) (test n) e in
    go (none_below test n i both.0) both.1 (dec_lt i n)
  where
    go : (i < n → test i ≡ false) → test n ≡ false → Dec (i < n) → test i ≡ false
    go lower here (yes k) = lower k
    go lower here (no k) = let same : i ≡ n = omega (arith, l, k) in rw same here

-- a run whose number is 0 names a byte with each change, and says what the version before it holds
right_run : (first bytes : List ℕ) (run : List Change) (n : ℕ) → run_number first bytes run n ≡ 0 → (any_below (names_none first run) n ≡ false) × (any_below (old_wrong first bytes run) n ≡ false)
unfolding run_number
right_run first bytes run n z = go (any_below (names_none first run) n) refl (any_below (old_wrong first bytes run) n) refl z
  where
    go : (a : Bool) → any_below (names_none first run) n ≡ a → (b : Bool) → any_below (old_wrong first bytes run) n ≡ b → ◌≡◌ {A = ℕ} (cond a 37 (cond b 38 0)) 0
        → (any_below (names_none first run) n ≡ false) × (any_below (old_wrong first bytes run) n ≡ false)
    go false ea false eb z = (ea, eb)
    go false ea true eb z = absurd (omega (arith, z))
    go true ea b eb z = absurd (omega (arith, z))

-- what one change of an added run does: it names a byte, which holds the old byte in the version before it and the new one in the version after it
abbrev pub Does : List ℕ → List Change → Change → ℕ → ℕ → Type 0
Does first room c k x =
    (byte_named first c ≡ Some x) × (get_or (version first room k) x 0 ≡ c.old_byte) × (get_or (version first room (suc k)) x 0 ≡ c.new_byte)

one_more : (first : List ℕ) (changes : List Change) (bytes : List ℕ) (k : ℕ) → made_up_to first changes bytes (suc k) ≡ made first (change_at changes k) (made_up_to first changes bytes k)
unfolding made_up_to
one_more first changes bytes k = refl

-- a change that is made leaves its new byte
made_there : (first : List ℕ) → Read-as first → (c : Change) (x : ℕ) → byte_named first c ≡ Some x → (bytes : List ℕ) → length bytes ≡ length first → get_or (made first c bytes) x 0 ≡ c.new_byte
unfolding made
made_there first sound c x e bytes long =
    rw e (get_or-set_same bytes x c.new_byte 0 (subst (λ (n : ℕ). x < n) (sym long) (within first sound.header sound.all c x (named first c x e))))

module _ (first : List ℕ) (room run : List Change) (kept : ℕ) (zero_number : adding_number first room run kept ≡ 0) where
  added : Added first room run kept
  added = adding_zero first room run kept zero_number

  sound : Read-as first
  sound = reads_zero first added.read

  pub fits_in : kept + length run ≤ length room
  fits_in = (records_left (length room) kept (length run) added.room_left).0

  pub changes_so : (i : ℕ) → i < length run → (x : ℕ) × Does first (behind room kept run) (change_at run i) (kept + i) x
  unfolding names_none old_wrong
  changes_so i l =
      let right = right_run first (version first room kept) run (length run) added.run_right in
      go (byte_named first (change_at run i)) refl (none_below (names_none first run) (length run) i right.0 l) (none_below (old_wrong first (version first room kept) run) (length run) i right.1 l)
    where
      c : Change
      c = change_at run i

      bytes : List ℕ
      bytes = made_up_to first run (version first room kept) i

      long : length bytes ≡ length first
      long = up_to_length first run (version first room kept) i ∙ up_to_length first room first kept

      new_is : (x : ℕ) → byte_named first c ≡ Some x → get_or (made_up_to first run (version first room kept) (suc i)) x 0 ≡ c.new_byte
      new_is x e = ap (λ (b : List ℕ). get_or b x 0) (one_more first run (version first room kept) i) ∙ made_there first sound c x e bytes long

      go : (found : Option ℕ) → byte_named first c ≡ found → is_none found ≡ false → is_another found (byte_at found bytes) c.old_byte ≡ false → (x : ℕ) × Does first (behind room kept run) c (kept + i) x
      go (Some x) e some same = (
        x,
        (
          e,
          ap (λ (b : List ℕ). get_or b x 0) (above_kept first room run kept fits_in i (omega (arith, l)))
              ∙ eqb-true _ _ (not-false (eqb (get_or bytes x 0) c.old_byte) same),
          ap (λ (k : ℕ). get_or (version first (behind room kept run) k) x 0) (sym (add-suc kept i))
              ∙ ap (λ (b : List ℕ). get_or b x 0) (above_kept first room run kept fits_in (suc i) l)
              ∙ new_is x e,
        ),
      )
      go None e some same = impossible (cc)
