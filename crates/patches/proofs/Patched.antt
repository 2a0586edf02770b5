-- The bytes of the picture with a patch's vectors put in: those of each row are the patch's, and all others the picture's.
-- Assumes nothing.
use Prim.Native.Nat.{ℕ, zero, suc, ◌+◌, ◌<◌, ◌≤◌}
use mathlib.Core.List.{List}
use mathlib.Core.Path.{◌≡◌, refl, ◌∙◌}
use mathlib.Core.Logic.{◌⊎◌, inl, inr, ⊎_elim}
use native.Mathlib.Decide.{dec_lt}
use native.Mathlib.Nat.{le_trans}
use native.Mathlib.Omega.{arith}
use lib.ListN.{length, get_or, drop, length-drop}
use lib.Seq.{length-take-le, get_or-take, get_or-drop}
use Rattle.registers.specs.Record.{port_at}
use Rattle.trees.specs.Trees.{count_of}
use Rattle.picture.specs.declared.Header.{Header}
use Rattle.picture.specs.Layout.{all_bytes, running_offset}
use Rattle.picture.proofs.WhatReads.{offset_grows, starts_there, room}
use Rattle.patches.specs.Patch.{ports_in, port_in, offset_at}
use Rattle.patches.specs.Patched.{new_vectors, patched_to}
use Rattle.patches.proofs.Bytes.{put_length, put_before, put_inside, put_after}
use Rattle.patches.proofs.Accepted.{Accepted, rises, row_fits}

module _ (s patch : List ℕ) (h : Header) (a : Accepted s patch h) where
  -- where the vectors of the port of a row are in the picture, and how many bytes they have
  abbrev pub at_of : ℕ → ℕ
  at_of i = (port_at s (port_in patch i)).vectors_at

  abbrev pub bytes_of : ℕ → ℕ
  bytes_of i = all_bytes (port_at s (port_in patch i)).fpb

  new_length : (i : ℕ) → i < ports_in patch → length (new_vectors s patch i) ≡ bytes_of i
  unfolding new_vectors
  new_length i l = length-take-le (bytes_of i) (drop (offset_at patch i) patch) (rw (length-drop (offset_at patch i) patch) (omega (arith, row_fits s patch h a i l)))

  -- they lie behind the records and before those of the next port
  pub at_is : (i : ℕ) → i < ports_in patch → at_of i ≡ running_offset s (port_in patch i)
  at_is i l = starts_there s h a.picture_reads (port_in patch i) (a.there i l)

  next_is : (i : ℕ) → i < ports_in patch → at_of i + bytes_of i ≡ running_offset s (suc (port_in patch i))
  unfolding running_offset
  next_is i l = rw (at_is i l)

  in-picture : (i : ℕ) → i < ports_in patch → at_of i + bytes_of i ≤ length s
  in-picture i l = rw (at_is i l) (room s h a.picture_reads (port_in patch i) (a.there i l))

  -- putting them in keeps the length
  pub length_to : (i : ℕ) → i ≤ ports_in patch → length (patched_to s patch i) ≡ length s
  unfolding patched_to
  length_to zero l = refl
  length_to (suc i) l =
      let same = length_to i (omega arith) in
      put_length (patched_to s patch i) (at_of i) (new_vectors s patch i) (rw (same, new_length i l) (in-picture i l)) ∙ same

  -- a byte that belongs to no row's vectors is kept
  abbrev pub Outside : ℕ → ℕ → Type 0
  Outside j k = (j < at_of k) ⊎ (at_of k + bytes_of k ≤ j)

  module _ (i : ℕ) (l : i < ports_in patch) where
    fits : at_of i + length (new_vectors s patch i) ≤ length (patched_to s patch i)
    fits = rw (length_to i (omega arith), new_length i l) (in-picture i l)

    one_kept : (j : ℕ) → Outside j i → get_or (patched_to s patch (suc i)) j 0 ≡ get_or (patched_to s patch i) j 0
    unfolding patched_to
    one_kept j out =
        ⊎_elim (λ before. put_before (patched_to s patch i) (at_of i) (new_vectors s patch i) fits j before)
        (λ behind. put_after (patched_to s patch i) (at_of i) (new_vectors s patch i) fits j (rw (new_length i l) behind))
        out

    one_new : (x : ℕ) → x < bytes_of i → get_or (patched_to s patch (suc i)) (at_of i + x) 0 ≡ get_or patch (offset_at patch i + x) 0
    unfolding patched_to new_vectors
    one_new x k =
        put_inside (patched_to s patch i) (at_of i) (new_vectors s patch i) fits x (rw (new_length i l) k)
        ∙ get_or-take (bytes_of i) (drop (offset_at patch i) patch) x 0 k
        ∙ get_or-drop (offset_at patch i) patch x 0

  pub kept_to : (i : ℕ) → i ≤ ports_in patch → (j : ℕ) → ((k : ℕ) → k < i → Outside j k) → get_or (patched_to s patch i) j 0 ≡ get_or s j 0
  unfolding patched_to
  kept_to zero l j out = refl
  kept_to (suc i) l j out = one_kept i l j (out i (omega arith)) ∙ kept_to i (omega arith) j (λ k m. out k (omega arith))

  -- the vectors of two ports lie apart
  pub apart : (p k x : ℕ) → p < count_of s → k < ports_in patch → (port_in patch k ≡ p → ⊥) → running_offset s p ≤ x → x < running_offset s (suc p) → Outside x k
  apart p k x below l other from to = go (dec_lt (port_in patch k) p)
    where
      go : Dec (port_in patch k < p) → Outside x k
      go (yes lower) = inr (rw (next_is k l) (le_trans (offset_grows s (suc (port_in patch k)) p lower) from))
      go (no higher) = inl (rw (at_is k l) (le_trans to (offset_grows s (suc p) (port_in patch k) (omega arith))))

  pub new_to : (i : ℕ) → i ≤ ports_in patch → (k x : ℕ) → k < i → x < bytes_of k → get_or (patched_to s patch i) (at_of k + x) 0 ≡ get_or patch (offset_at patch k + x) 0
  new_to zero l k x m n = absurd (omega arith)
  new_to (suc i) l k x m n = go (new_to i (omega arith) k x) (dec_lt k i)
    where
      go : (k < i → x < bytes_of k → get_or (patched_to s patch i) (at_of k + x) 0 ≡ get_or patch (offset_at patch k + x) 0) → Dec (k < i)
          → get_or (patched_to s patch (suc i)) (at_of k + x) 0 ≡ get_or patch (offset_at patch k + x) 0
      go sooner (yes earlier) =
          let row : k < ports_in patch = omega arith in
          one_kept i l (at_of k + x)
          (apart (port_in patch k) i (at_of k + x) (a.there k row) l (λ e. omega (arith, rises s patch h a k i earlier l))
          (rw (at_is k row) (omega arith)) (rw (← next_is k row) (omega arith)))
          ∙ sooner earlier n
      go sooner (no last) = let e : k ≡ i = omega arith in rw e (one_new i l x (rw (← e) n))
