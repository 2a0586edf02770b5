-- The picture with a patch's vectors put in reads as the picture does; its records are the picture's, and each vector of it is the part
-- that is handed out.
-- Assumes nothing.
use Prim.Native.Nat.{ℕ, zero, suc, zero-le, ◌+◌, ◌<◌, ◌≤◌}
use mathlib.Core.Bool.{false}
use mathlib.Core.List.{List}
use mathlib.Core.Logic.{inl}
use mathlib.Core.Path.{◌≡◌, refl, sym, ap, subst, ◌∙◌}
use native.Mathlib.Nat.{le_refl, le_trans}
use native.Mathlib.Omega.{arith}
use borrow.Author.Tests.{eqb-true, eqb-false}
use lib.ListN.{length, get_or, take, drop}
use Rattle.least.proofs.Laws.{Least, is_least}
use Rattle.chassis.proofs.AlikeTrees.{AlikeTrees, sane_alike}
use Rattle.chassis.proofs.Tree.{Sane}
use Rattle.registers.specs.declared.Mechanism.{Mechanism}
use Rattle.registers.specs.declared.Port.{Port}
use Rattle.registers.specs.Record.{edition_of, record_in, port_at}
use Rattle.registers.proofs.Laws.{record_mono, record_behind}
use Rattle.registers.specs.Vectors.{vector_bytes}
use Rattle.trees.specs.Trees.{count_of, tree_of}
use Rattle.picture.specs.declared.Header.{Header}
use Rattle.picture.specs.declared.refusals.Rule.{Rule}
use Rattle.picture.specs.declared.refusals.Rule.TheVariants.{Tree, Chain, Settings, Start}
use Rattle.picture.specs.Header.{header_of, length_wrong}
use Rattle.picture.specs.Layout.{all_bytes, running_offset, place_wrong, end_wrong, offset_in, vector_of}
use Rattle.picture.specs.Reading.{breaks, reading}
use Rattle.picture.proofs.WhatReads.{Reads, passes, reads_sane, offset_grows, starts_there, room, fits_in}
use Rattle.patches.specs.declared.parts.Place.{Place}
use Rattle.patches.specs.Patch.{ports_in, port_in, offset_at}
use Rattle.patches.specs.Patched.{patched}
use Rattle.patches.specs.Parts.{is_row_of, row_of, place_by, place_of, part_at}
use Rattle.patches.specs.Reading.{reading_with}
use Rattle.patches.specs.Halves.{place_over, vector_over}
use Rattle.patches.proofs.Bytes.{part_same, SameTo, u16_same, u32_same, port_same}
use Rattle.patches.proofs.Accepted.{Accepted, accepted, row_fits}
use Rattle.patches.proofs.Sought.{sought}
use Rattle.patches.proofs.Patched.{at_of, at_is, length_to, kept_to, apart, new_to}
use Rattle.std.specs.Prelude.{Option, Some, None, Ok}

module _ (s patch : List ℕ) (h : Header) (a : Accepted s patch h) where
  abbrev s' : List ℕ
  s' = patched s patch

  abbrev read : Reads s h
  read = a.picture_reads

  -- all before the vectors is kept
  same : SameTo (record_in s (count_of s)) s' s
  unfolding running_offset
  same j l =
      kept_to s patch h a (ports_in patch) (le_refl _) j
      (λ k m. inl (rw (at_is s patch h a k m) (le_trans l (offset_grows s 0 (port_in patch k) zero-le))))

  length_same : length s' ≡ length s
  length_same = length_to s patch h a (ports_in patch) (le_refl _)

  header_kept : SameTo 16 s' s
  header_kept j l = same j (omega (arith, record_behind (edition_of s) (count_of s)))

  edition_same : edition_of s' ≡ edition_of s
  edition_same = u16_same 16 s' s header_kept 0 (omega arith)

  count_same : count_of s' ≡ count_of s
  count_same = u16_same 16 s' s header_kept 2 (omega arith)

  header_same : header_of s' ≡ header_of s
  unfolding header_of
  header_same = λ i. record {
    edition = edition_same i;
    count = count_same i;
    total = u32_same 16 s' s header_kept 4 (omega arith) i;
    records_at = u32_same 16 s' s header_kept 8 (omega arith) i;
    vectors_at = u32_same 16 s' s header_kept 12 (omega arith) i;
  }

  -- a port's registers are the picture's
  pub port_patched : (p : ℕ) → p < count_of s → port_at s' p ≡ port_at s p
  port_patched p l =
      sym (port_same (record_in s (count_of s)) s s' (λ j m. sym (same j m)) p (record_mono (edition_of s) (suc p) (count_of s) l))

  running_same : (p : ℕ) → p ≤ count_of s → running_offset s' p ≡ running_offset s p
  unfolding running_offset
  running_same zero l = rw (edition_same, count_same)
  running_same (suc p) l = rw (running_same p (omega arith), port_patched p l)

  pub trees_patched : AlikeTrees (tree_of s) (tree_of s')
  trees_patched =
      record {
        count = sym count_same;
        kind = λ p l. ap (λ (x : Port). x.kind) (sym (port_patched p l));
        parent = λ p l. ap (λ (x : Port). x.parent.0) (sym (port_patched p l));
      }

  sane' : Sane (tree_of s')
  sane' = sane_alike (tree_of s) (tree_of s') trees_patched (reads_sane s h read)

  rule_kept : (rule : Rule) (p : ℕ) → p < count_of s' → breaks rule s' p ≡ false
  unfolding breaks
  rule_kept Tree p l = sane'.kept p l
  rule_kept Chain p l = sane'.short p l
  rule_kept Settings p l = let below = rw count_same at l in rw (port_patched p below) ((read.rules_kept Settings).none p zero-le below)
  rule_kept Start p l = let below = rw count_same at l in rw (port_patched p below) ((read.rules_kept Start).none p zero-le below)

  place_kept : (p : ℕ) → p < count_of s' → place_wrong s' p ≡ false
  unfolding place_wrong
  place_kept p l =
      let below = rw count_same at l in
      rw (port_patched p below, running_same p (omega arith)) (read.in_place.none p zero-le below)

  pub reads' : Reads s' h
  unfolding length_wrong end_wrong
  reads' =
      record {
        header = read.header ∙ sym header_same;
        length_right = rw (length_same, edition_same) read.length_right;
        edition_right = rw header_same read.edition_right;
        count_right = rw header_same read.count_right;
        total_right = rw (length_same, header_same) read.total_right;
        offset_right = rw (length_same, header_same) read.offset_right;
        rules_kept = λ rule. record { none = λ p z l. rule_kept rule p l };
        in_place = record { none = λ p z l. place_kept p l };
        end_right = rw (length_same, count_same, running_same (count_of s) (le_refl _)) read.end_right;
      }

  -- it reads, with the same header
  pub patched_reads : reading s' ≡ Ok h
  patched_reads = passes s' h reads'

  module _ (p : ℕ) (below : p < count_of s) (m : Mechanism) where
    abbrev bytes : ℕ
    bytes = vector_bytes (port_at s p).fpb m

    abbrev at : ℕ
    at = (port_at s p).vectors_at + offset_in (port_at s p).fpb m

    in-port : at + bytes ≤ running_offset s (suc p)
    unfolding running_offset
    in-port = omega (arith, starts_there s h read p below, fits_in s h read p below m)

    in-picture : at + bytes ≤ length s
    in-picture = omega (arith, starts_there s h read p below, fits_in s h read p below m, room s h read p below)

    in-patched : at + bytes ≤ length s'
    in-patched = rw length_same in-picture

    new : (i : ℕ) → port_in patch i ≡ p → i < ports_in patch → (j : ℕ) → j < bytes
        → get_or s' (at + j) 0 ≡ get_or patch (offset_at patch i + offset_in (port_at s p).fpb m + j) 0
    new i here row j l =
        let x = offset_in (port_at s p).fpb m + j in
        let inside : x < all_bytes (port_at s p).fpb = omega (arith, fits_in s h read p below m) in
        let from : at + j ≡ (port_at s p).vectors_at + x = omega arith in
        let to : offset_at patch i + offset_in (port_at s p).fpb m + j ≡ offset_at patch i + x = omega arith in
        let there : get_or s' (at_of s patch h a i + x) 0 ≡ get_or patch (offset_at patch i + x) 0 = new_to s patch h a (ports_in patch) (le_refl _) i x row (subst (λ (q : ℕ). x < all_bytes (port_at s q).fpb) (sym here) inside) in
        rw (from, to) (subst (λ (q : ℕ). get_or s' ((port_at s q).vectors_at + x) 0 ≡ get_or patch (offset_at patch i + x) 0) here there)

    by_row : (row : Option ℕ) → Least (is_row_of patch p) 0 (ports_in patch) row → take bytes (drop at s') ≡ part_at (place_by row s patch p m) s patch
    unfolding part_at is_row_of
    by_row (Some i) found =
        let here : port_in patch i ≡ p = eqb-true _ _ found.holds in
        part_same bytes at (offset_at patch i + offset_in (port_at s p).fpb m) s' patch in-patched
        (omega (arith, rw here at (row_fits s patch h a i found.below), fits_in s h read p below m)) (new i here found.below)
    by_row None none =
        part_same bytes at at s' s in-patched in-picture
        (λ j l. kept_to s patch h a (ports_in patch) (le_refl _) (at + j)
        (λ k n. apart s patch h a p k (at + j) below n (eqb-false _ _ (none.none k zero-le n))
        (omega (arith, starts_there s h read p below)) (omega (arith, in-port))))

    -- each vector of it is the part handed out
    pub vector_patched : vector_of s' p m ≡ vector_over s patch p m
    unfolding vector_of vector_over place_over
    vector_patched =
        rw (port_patched p below, sought s patch h a p) (by_row (row_of patch p) (is_least (is_row_of patch p) 0 (ports_in patch) refl))

-- where picture and patch read, a port's vector lies where its row says
module _ (s patch : List ℕ) (h : Header) (read : reading_with s patch ≡ Ok h) (p : ℕ) (m : Mechanism) where
  pub place_told : place_over s patch p m ≡ place_of s patch p m
  unfolding place_over place_of
  place_told = rw (sought s patch h (accepted s patch h read) p)

  pub vector_told : vector_over s patch p m ≡ part_at (place_of s patch p m) s patch
  unfolding vector_over
  vector_told = rw place_told

pub place_both : (s patch : List ℕ) (p : ℕ) (m : Mechanism) (r : Place) → r ≡ place_over s patch p m
    → (r ≡ place_over s patch p m) × ((h : Header) → reading_with s patch ≡ Ok h → r ≡ place_of s patch p m)
place_both s patch p m r here = (here, λ h read. here ∙ place_told s patch h read p m)
