-- What holds of a patch that is accepted: its ports rise and are the picture's, its rows lie in it, and the vectors of each row lie in
-- it whole, where the row says.
-- Assumes nothing.
use Prim.Native.Nat.{ℕ, zero, suc, ◌+◌, ◌<◌, ◌≤◌}
use mathlib.Core.Bool.{false, not}
use mathlib.Core.List.{List}
use mathlib.Core.Path.{◌≡◌, refl}
use native.Mathlib.Decide.{dec_lt}
use native.Mathlib.Nat.{le_refl, le_trans}
use native.Mathlib.Omega.{arith}
use borrow.Author.Tests.{eqb-true, leb-false, not-false}
use lib.Dec.{eqb, leb}
use lib.ListN.{length}
use Rattle.least.proofs.Laws.{impossible}
use Rattle.chassis.proofs.Bools.{or_false_parts}
use Rattle.chassis.proofs.Ports.{any_below_false}
use Rattle.chassis.specs.Tree.{any_below}
use Rattle.registers.specs.Record.{port_at}
use Rattle.trees.specs.Trees.{count_of}
use Rattle.picture.specs.declared.Header.{Header}
use Rattle.picture.specs.Header.{header_of}
use Rattle.picture.specs.Layout.{all_bytes}
use Rattle.picture.specs.Reading.{reading}
use Rattle.picture.proofs.Laws.{count_of_lem, count_small}
use Rattle.picture.proofs.WhatReads.{Reads, reads, past_if}
use Rattle.patches.specs.Patch.{ports_in, port_in, offset_at, running_in, header_misfits, not_rising, port_misplaced, ports_misplaced, offset_misplaced, vectors_misplaced}
use Rattle.patches.specs.Reading.{patch_reading, reading_with}
use Rattle.std.specs.Prelude.{Result, Ok, Err}
use Rattle.picture.specs.declared.refusals.Refusal.{Refusal}
use Rattle.picture.specs.declared.refusals.Refusal.TheVariants.{PatchHeader, PatchPorts, PatchVectors}

pub record Accepted (s patch : List ℕ) (h : Header) : Type 0 where
  pub picture_reads : Reads s h
  pub few : count_of s ≤ 64
  pub rising : (i : ℕ) → suc i < ports_in patch → port_in patch i < port_in patch (suc i)
  pub there : (i : ℕ) → i < ports_in patch → port_in patch i < count_of s
  pub offsets : (i : ℕ) → i < ports_in patch → offset_at patch i ≡ running_in s patch i
  pub ends : running_in s patch (ports_in patch) ≡ length patch

-- what is refused neither by the picture nor by the patch
past_patch : (got : Result Header Refusal) (s patch : List ℕ) {h : Header} → patch_reading got s patch ≡ Ok h
    → (got ≡ Ok h) × (ports_misplaced h.count patch ≡ false) × (vectors_misplaced s patch ≡ false)
unfolding patch_reading
past_patch (Err r) s patch e = impossible (cc)
past_patch (Ok g) s patch {h} e =
    let thirty = past_if (header_misfits patch) PatchHeader _ e in
    let one = past_if (ports_misplaced g.count patch) PatchPorts _ thirty.1 in
    let two = past_if (vectors_misplaced s patch) PatchVectors _ one.1 in
    let same : g ≡ h = let r = two.1 in cc in
    (two.1, rw (← same) one.0, two.0)

module _ (patch : List ℕ) (n : ℕ) (right : ports_misplaced n patch ≡ false) (i : ℕ) (l : i < ports_in patch) where
  kept : port_misplaced n patch i ≡ false
  unfolding ports_misplaced
  kept = (any_below_false (port_misplaced n patch) (ports_in patch)).0 right i l

  pub port_there : port_in patch i < n
  unfolding port_misplaced
  port_there = leb-false _ _ (or_false_parts (not_rising patch i) (leb n (port_in patch i)) kept).1

  pub port_rises : not_rising patch i ≡ false
  unfolding port_misplaced
  port_rises = (or_false_parts (not_rising patch i) (leb n (port_in patch i)) kept).0

module _ (s patch : List ℕ) (right : vectors_misplaced s patch ≡ false) where
  parts : (any_below (offset_misplaced s patch) (ports_in patch) ≡ false) × (not (eqb (running_in s patch (ports_in patch)) (length patch)) ≡ false)
  unfolding vectors_misplaced
  parts = or_false_parts _ _ right

  offset_there : (i : ℕ) → i < ports_in patch → offset_at patch i ≡ running_in s patch i
  unfolding offset_misplaced
  offset_there i l = eqb-true _ _ (not-false _ ((any_below_false (offset_misplaced s patch) (ports_in patch)).0 parts.0 i l))

  end_there : running_in s patch (ports_in patch) ≡ length patch
  end_there = eqb-true _ _ (not-false _ parts.1)

-- a patch that is read over a picture is accepted
pub accepted : (s patch : List ℕ) (h : Header) → reading_with s patch ≡ Ok h → Accepted s patch h
unfolding not_rising header_of
accepted s patch h e =
    let past = past_patch (reading s) s patch e in
    let read = reads s h past.0 in
    let count : h.count ≡ count_of s = count_of_lem s h read.header in
    record {
      picture_reads = read;
      few = count_small (header_of s) read.count_right;
      rising = λ i l. leb-false _ _ (port_rises patch h.count past.1 (suc i) l);
      there = λ i l. rw (← count) (port_there patch h.count past.1 i l);
      offsets = offset_there s patch past.2;
      ends = end_there s patch past.2;
    }

module _ (s patch : List ℕ) (h : Header) (a : Accepted s patch h) where
  -- later rows have higher ports
  pub rises : (i k : ℕ) → i < k → k < ports_in patch → port_in patch i < port_in patch k
  rises i zero l below = absurd (omega arith)
  rises i (suc k) l below = go (rises i k) (dec_lt i k)
    where
      go : (i < k → k < ports_in patch → port_in patch i < port_in patch k) → Dec (i < k) → port_in patch i < port_in patch (suc k)
      go sooner (yes lower) = omega (arith, sooner lower (omega arith), a.rising k below)
      go sooner (no same) = let e : i ≡ k = omega arith in rw e (a.rising k below)

  -- so there are no more rows than ports
  row_least : (i : ℕ) → i < ports_in patch → i ≤ port_in patch i
  row_least zero l = omega arith
  row_least (suc i) l = omega (arith, row_least i (omega arith), a.rising i l)

  pub rows_few : ports_in patch ≤ 64
  rows_few = go (ports_in patch) refl
    where
      go : (n : ℕ) → ports_in patch ≡ n → ports_in patch ≤ 64
      go zero e = omega arith
      go (suc n) e = omega (arith, row_least n (omega arith), a.there n (omega arith), a.few)

  running_grows : (i n : ℕ) → i ≤ n → running_in s patch i ≤ running_in s patch n
  unfolding running_in
  running_grows i zero l = let same : i ≡ 0 = omega arith in rw same (le_refl _)
  running_grows i (suc n) l = go (running_grows i n) (dec_lt n i)
    where
      go : (i ≤ n → running_in s patch i ≤ running_in s patch n) → Dec (n < i) → running_in s patch i ≤ running_in s patch (suc n)
      go lower (yes k) = let same : i ≡ suc n = omega arith in rw same (le_refl _)
      go lower (no k) = le_trans (lower (omega arith)) (omega arith)

  -- the vectors of a row lie in the patch
  pub row_fits : (i : ℕ) → i < ports_in patch → offset_at patch i + all_bytes (port_at s (port_in patch i)).fpb ≤ length patch
  unfolding running_in
  row_fits i l = rw (a.offsets i l, ← a.ends) (running_grows (suc i) (ports_in patch) l)
