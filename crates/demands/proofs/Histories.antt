-- 02, Item 11: the statements of specs/History.antt, proved.
-- Assumes nothing.
use Prim.Native.Nat.{ℕ, ◌≤◌}
use mathlib.Core.Bool.{Bool, true, false, cond, ◌||◌, ◌&&◌}
use mathlib.Core.List.{List, [], ◌∷◌, ◌++◌}
use mathlib.Core.Path.{◌≡◌, refl, sym, ap, ◌∙◌}
use native.Mathlib.Nat.{le_refl}
use native.Mathlib.Omega.{arith}
use borrow.Author.Tests.{lt-ltb, le-ltb, ne_eqb, eq-eqb, eqb-true}
use lib.Dec.{eqb, ltb}
use lib.ListN.{length, take, drop}
use lib.Seq.{take_at, drop_at}
use Rattle.chassis.proofs.Bools.{and_true_parts}
use Rattle.chassis.specs.Tree.{any_below}
use Rattle.least.proofs.Laws.{impossible}
use Rattle.picture.specs.Reading.{reading, number_of}
use Rattle.changes.specs.Change.{byte_named}
use Rattle.changes.specs.declared.Change.{Change}
use Rattle.changes.specs.Versions.{change_at, version}
use Rattle.changes.specs.Adding.{names_none, old_wrong, run_number, room_full, adding_number}
use Rattle.changes.specs.ReadingBack.{version_number, read_back}
use Rattle.changes.proofs.Held.{same_named, up_to_length}
use Rattle.changes.proofs.Histories.{same_versions, kept_changes, fits_in, behind_length, before_kept, above_kept, changes_so}
use Rattle.changes.proofs.Named.{named, within, same_place, all_named, behind_header}
use Rattle.changes.proofs.Reading.{reads_zero}
use Rattle.demands.specs.Demands.{one_of, of_reading}
use Rattle.demands.specs.History.{HistoryNumbers, HistoryAdded, HistoryWoundBack, HistoryRefused, HistoryReadBack, HistoryNamed}
use Rattle.demands.proofs.Numbers.{reading_in_table}
use Rattle.std.specs.Prelude.{Some}

-- one of a list is one of a longer one
one_of_more : (xs ys : List ℕ) (n : ℕ) → one_of xs n ≡ true → one_of (xs ++ ys) n ≡ true
one_of_more [] ys n e = impossible (cc)
one_of_more (x ∷ xs) ys n e = go (eqb n x) (one_of_more xs ys n) e
  where
    go : (b : Bool) → (one_of xs n ≡ true → one_of (xs ++ ys) n ≡ true) → (b || one_of xs n) ≡ true → (b || one_of (xs ++ ys) n) ≡ true
    go true more e = refl
    go false more e = more e

pub history_numbers : (first : List ℕ) → HistoryNumbers first
unfolding adding_number run_number version_number
history_numbers first =
    record {
      adding = λ room run kept. adding (eqb (number_of (reading first)) 0) (any_below (names_none first run) (length run)) (any_below (old_wrong first (version first room kept) run) (length run)) (room_full (length room) kept (length run));
      winding = λ kept k. winding (ltb kept k);
      reading_back = λ records buffer kept k. back (eqb (number_of (reading first)) 0) (ltb kept k || ltb records kept) (ltb buffer (length first));
    }
  where
    adding : (a b c d : Bool) → one_of (of_reading ++ (37 ∷ 38 ∷ 39 ∷ [])) (cond a (cond (eqb (cond b 37 (cond c 38 0)) 0) (cond d 39 0) (cond b 37 (cond c 38 0))) (number_of (reading first))) ≡ true
    adding true true c d = refl
    adding true false true d = refl
    adding true false false true = refl
    adding true false false false = refl
    adding false b c d = one_of_more of_reading (37 ∷ 38 ∷ 39 ∷ []) (number_of (reading first)) (reading_in_table first)

    winding : (a : Bool) → one_of (0 ∷ 40 ∷ []) (cond a 40 0) ≡ true
    winding true = refl
    winding false = refl

    back : (a b c : Bool) → one_of (of_reading ++ (40 ∷ 23 ∷ [])) (cond a (cond b 40 (cond c 23 0)) (number_of (reading first))) ≡ true
    back true true c = refl
    back true false true = refl
    back true false false = refl
    back false b c = one_of_more of_reading (40 ∷ 23 ∷ []) (number_of (reading first)) (reading_in_table first)

pub history_added : (first : List ℕ) → HistoryAdded first
history_added first room run kept z =
    let fits = fits_in first room run kept z in
    record {
      as_long = behind_length first room run kept fits;
      before = before_kept first room run kept fits;
      above = above_kept first room run kept fits;
      each = λ i l. let so = changes_so first room run kept z i l in record { place = so.0; names = so.1.0; old_there = so.1.1; new_there = so.1.2 };
    }

pub history_wound_back : (first : List ℕ) → HistoryWoundBack first
unfolding adding_number
history_wound_back first =
    record {
      accepted = λ kept k l. simp (le-ltb kept k l);
      refused = λ kept k l. simp (lt-ltb kept k l);
      dropped = λ room other run k long same. rw (long, versions room other k k same (le_refl k));
      before = versions;
    }
  where
    versions : (room other : List Change) (k j : ℕ) → take k room ≡ take k other → j ≤ k → version first room j ≡ version first other j
    versions room other k j same l = same_versions first room other first j (λ i below. sym (kept_changes room k i (omega (arith, below, l))) ∙ ap (λ (m : List Change). change_at m i) same ∙ kept_changes other k i (omega (arith, below, l)))

pub history_refused : (first : List ℕ) → HistoryRefused first
history_refused first =
    record {
      adding = λ room run after kept before number now call refused. (call.room_is ∙ simp (ne_eqb number 0 refused), call.kept_is ∙ simp (ne_eqb number 0 refused));
      winding = λ kept k before number now call refused. call.kept_is ∙ simp (ne_eqb number 0 refused);
      reading_back = λ room kept k number before after call refused. call.buffer_is ∙ simp (ne_eqb number 0 refused);
    }

pub history_read_back : (first : List ℕ) → HistoryReadBack first
unfolding read_back
history_read_back first room kept k before after call =
    let long = up_to_length first room first k in
    (long, ap (take (length first)) call.buffer_is ∙ take_at (version first room k) _ (length first) long, ap (drop (length first)) call.buffer_is ∙ drop_at (version first room k) _ (length first) long)

pub history_named : (first : List ℕ) → number_of (reading first) ≡ 0 → HistoryNamed first
history_named first z =
    let sound = reads_zero first z in
    record {
      within = λ c x is. (behind_header first sound.header sound.all c x (named first c x is), within first sound.header sound.all c x (named first c x is));
      all = all_named first sound.header sound.all;
      once = λ c d x is. (one_place c d x is, one_byte c d x is);
    }
  where
    one_place : (c d : Change) (x : ℕ) → byte_named first c ≡ Some x → byte_named first d ≡ Some x → (d.port ≡ c.port) × (d.part ≡ c.part) × (d.at ≡ c.at)
    one_place c d x is e =
        let sound = reads_zero first z in
        let same = same_place first sound.header sound.all d c x (named first d x e) (named first c x is) in
        let both = and_true_parts (eqb d.port c.port && eqb d.part c.part) (eqb d.at c.at) same in
        let two = and_true_parts (eqb d.port c.port) (eqb d.part c.part) both.0 in
        (eqb-true _ _ two.0, eqb-true _ _ two.1, eqb-true _ _ both.1)

    one_byte : (c d : Change) (x : ℕ) → byte_named first c ≡ Some x → (d.port ≡ c.port) × (d.part ≡ c.part) × (d.at ≡ c.at) → byte_named first d ≡ Some x
    one_byte c d x is e = same_named first d c (rw (eq-eqb _ _ e.0, eq-eqb _ _ e.1, eq-eqb _ _ e.2)) ∙ is
