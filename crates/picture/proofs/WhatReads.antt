-- What holds of a picture that reads: none of the table's numbers 1 to 10 applies, its tree is sane, and each vector lies in it whole.
-- Assumes nothing.
use Prim.Native.Nat.{ℕ, zero, suc, zero-le, ◌+◌, ◌≤◌, ◌<◌}
use mathlib.Core.Bool.{Bool, true, false, cond}
use mathlib.Core.List.{List}
use mathlib.Core.Path.{◌≡◌, refl, sym, ap}
use native.Mathlib.Nat.{le_refl, le_trans}
use native.Mathlib.Decide.{dec_lt}
use native.Mathlib.Omega.{arith}
use borrow.Author.Tests.{eqb-true, not-false}
use lib.ListN.{length, length-drop}
use lib.Seq.{length-take-le}
use Rattle.least.proofs.Laws.{impossible, NoneIn, none_is, is_none}
use Rattle.least.specs.Least.{first_in, or_else}
use Rattle.chassis.proofs.Tree.{Sane}
use Rattle.registers.specs.declared.Mechanism.{Mechanism}
use Rattle.registers.specs.declared.Mechanism.TheVariants.{Rid, Low, High}
use Rattle.registers.specs.Record.{port_at}
use Rattle.registers.specs.Vectors.{vector_bytes}
use Rattle.trees.specs.Trees.{count_of, tree_of}
use Rattle.picture.proofs.Laws.{count_of_lem, count_small}
use Rattle.picture.specs.declared.Header.{Header}
use Rattle.picture.specs.declared.refusals.Rule.{Rule}
use Rattle.picture.specs.declared.refusals.Rule.TheVariants.{Tree, Chain, Settings, Start}
use Rattle.picture.specs.Header.{header_of, length_wrong, edition_wrong, count_wrong, total_wrong, offset_wrong}
use Rattle.picture.specs.Layout.{running_offset, place_wrong, end_wrong, offset_in, vector_of}
use Rattle.picture.specs.Reading.{breaks, misplaced_in, refused_if, refused_at, ports_reading, reading}
use Rattle.std.specs.Prelude.{Option, Some, None, Result, Ok}
use Rattle.picture.specs.declared.refusals.Refusal.{Refusal}
use Rattle.picture.specs.declared.refusals.Refusal.TheVariants.{Length, Edition, Count, Total, Offset, Breaks, Misplaced}
use Rattle.ids.specs.declared.PortNo.{PortNo}

pub record Reads (s : List ℕ) (h : Header) : Type 0 where
  pub header : h ≡ header_of s
  pub length_right : length_wrong s ≡ false
  pub edition_right : edition_wrong (header_of s) ≡ false
  pub count_right : count_wrong (header_of s) ≡ false
  pub total_right : total_wrong (length s) (header_of s) ≡ false
  pub offset_right : offset_wrong (length s) (header_of s) ≡ false
  pub rules_kept : (rule : Rule) → NoneIn (breaks rule s) 0 (count_of s)
  pub in_place : NoneIn (place_wrong s) 0 (count_of s)
  pub end_right : end_wrong s ≡ false

-- one refusal passed on the way to a header
pub past_if : (wrong : Bool) (refusal : Refusal) (rest : Result Header Refusal) {h : Header} → refused_if wrong refusal rest ≡ Ok h → (wrong ≡ false) × (rest ≡ Ok h)
past_if true refusal rest e = impossible (cc)
past_if false refusal rest e = (refl, e)

past_at : (found : Option ℕ) (refusal : PortNo → Refusal) (rest : Result Header Refusal) {h : Header} → refused_at found refusal rest ≡ Ok h → (None ≡ found) × (rest ≡ Ok h)
past_at (Some p) refusal rest e = impossible (cc)
past_at None refusal rest e = (refl, e)

past_end : (found : Option ℕ) (wrong : Bool) → None ≡ or_else found (cond wrong (Some 255) None) → (None ≡ found) × (wrong ≡ false)
past_end (Some p) wrong e = impossible (cc)
past_end None true e = impossible (cc)
past_end None false e = (refl, refl)

-- a picture whose reading is a header passed every test
pub reads : (s : List ℕ) (h : Header) → reading s ≡ Ok h → Reads s h
unfolding reading ports_reading misplaced_in
reads s h e =
    let one = past_if (length_wrong s) Length _ e in
    let two = past_if (edition_wrong (header_of s)) Edition _ one.1 in
    let three = past_if (count_wrong (header_of s)) Count _ two.1 in
    let four = past_if (total_wrong (length s) (header_of s)) Total _ three.1 in
    let five = past_if (offset_wrong (length s) (header_of s)) Offset _ four.1 in
    let six = past_at (first_in (breaks Tree s) 0 (count_of s)) (Breaks Tree) _ five.1 in
    let seven = past_at (first_in (breaks Chain s) 0 (count_of s)) (Breaks Chain) _ six.1 in
    let eight = past_at (first_in (breaks Settings s) 0 (count_of s)) (Breaks Settings) _ seven.1 in
    let nine = past_at (first_in (breaks Start s) 0 (count_of s)) (Breaks Start) _ eight.1 in
    let ten = past_at (misplaced_in s) Misplaced (Ok (header_of s)) nine.1 in
    let end = past_end (first_in (place_wrong s) 0 (count_of s)) (end_wrong s) ten.0 in
    record {
      header = let r = ten.1 in cc;
      length_right = one.0;
      edition_right = two.0;
      count_right = three.0;
      total_right = four.0;
      offset_right = five.0;
      rules_kept = λ rule. kept rule six.0 seven.0 eight.0 nine.0;
      in_place = is_none _ _ _ end.0;
      end_right = end.1;
    }
  where
    Kept : Rule → Type 0
    Kept rule = None ≡ first_in (breaks rule s) 0 (count_of s)

    kept : (rule : Rule) → Kept Tree → Kept Chain → Kept Settings → Kept Start → NoneIn (breaks rule s) 0 (count_of s)
    kept Tree tree chain settings start = is_none _ _ _ tree
    kept Chain tree chain settings start = is_none _ _ _ chain
    kept Settings tree chain settings start = is_none _ _ _ settings
    kept Start tree chain settings start = is_none _ _ _ start

-- and one that passes every test reads
pub passes : (s : List ℕ) (h : Header) → Reads s h → reading s ≡ Ok h
unfolding reading ports_reading misplaced_in
passes s h r =
    simp (r.length_right, r.edition_right, r.count_right, r.total_right, r.offset_right, kept Tree, kept Chain, kept Settings, kept Start, sym (none_is r.in_place), r.end_right)
    (ap Ok (sym r.header))
  where
    kept : (rule : Rule) → first_in (breaks rule s) 0 (count_of s) ≡ None
    kept rule = sym (none_is (r.rules_kept rule))

-- numbers 3, 6 and 7 make the tree sane
pub reads_sane : (s : List ℕ) (h : Header) → Reads s h → Sane (tree_of s)
unfolding breaks header_of
reads_sane s h r =
    record {
      kept = λ p below. (r.rules_kept Tree).none p zero-le below;
      short = λ p below. (r.rules_kept Chain).none p zero-le below;
      few = count_small (header_of s) r.count_right;
    }

-- what the calls go on with: the count of ports, and the tree
module _ (s : List ℕ) (h : Header) (read : reading s ≡ Ok h) where
  pub count_read : h.count ≡ count_of s
  count_read = count_of_lem s h (reads s h read).header

  pub sane_read : Sane (tree_of s)
  sane_read = reads_sane s h (reads s h read)

  pub count_few : h.count ≤ 64
  count_few = rw count_read sane_read.few

-- the running offset only grows, and ends with the picture
pub offset_grows : (s : List ℕ) (p n : ℕ) → p ≤ n → running_offset s p ≤ running_offset s n
unfolding running_offset
offset_grows s p zero l = let same : p ≡ 0 = omega arith in rw same (le_refl _)
offset_grows s p (suc n) l = go (offset_grows s p n) (dec_lt n p)
  where
    go : (p ≤ n → running_offset s p ≤ running_offset s n) → Dec (n < p) → running_offset s p ≤ running_offset s (suc n)
    go lower (yes k) = let same : p ≡ suc n = omega arith in rw same (le_refl _)
    go lower (no k) = le_trans (lower (omega arith)) (omega arith)

module _ (s : List ℕ) (h : Header) (r : Reads s h) (p : ℕ) (below : p < count_of s) where
  pub starts_there : (port_at s p).vectors_at ≡ running_offset s p
  unfolding place_wrong
  starts_there = eqb-true _ _ (not-false _ (r.in_place.none p zero-le below))

  ends_there : running_offset s (count_of s) ≡ length s
  unfolding end_wrong
  ends_there = eqb-true _ _ (not-false _ r.end_right)

  abbrev pub bytes : Mechanism → ℕ
  bytes = vector_bytes (port_at s p).fpb

  pub room : running_offset s p + (bytes Rid + bytes Low + bytes High) ≤ length s
  unfolding running_offset
  room = rw (← ends_there) (offset_grows s (suc p) (count_of s) below)

  pub fits_in : (m : Mechanism) → offset_in (port_at s p).fpb m + bytes m ≤ bytes Rid + bytes Low + bytes High
  fits_in Rid = omega arith
  fits_in Low = omega arith
  fits_in High = omega arith

  -- each vector handed out lies in the picture whole
  pub vector_whole : (m : Mechanism) → length (vector_of s p m) ≡ bytes m
  unfolding vector_of
  vector_whole m = length-take-le (bytes m) _ (simp length-drop (omega (arith, starts_there, room, fits_in m)))
