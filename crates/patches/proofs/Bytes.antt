-- The bytes of a list after others were put in, and what is read of two lists whose first bytes agree.
-- Assumes nothing.
use Prim.Native.Nat.{ℕ, suc, ◌+◌, ◌-◌, ◌<◌, ◌≤◌}
use mathlib.Core.Bool.{Bool, true, false, cond}
use mathlib.Core.List.{List, ◌++◌}
use mathlib.Core.Path.{◌≡◌, refl, sym, ap, ◌∙◌, subst}
use native.Mathlib.Omega.{arith}
use lib.Dec.{eqb}
use lib.ListN.{length, get_or, take, drop, length-append, length-drop, get_or-append}
use lib.Seq.{length-take-le, get_or-take, get_or-drop, get_or-append-add, ext_get_or}
use Rattle.lent.specs.Lent.{u16_at, u32_at}
use Rattle.registers.specs.Record.{edition_of, record_bytes, record_at, record_in, in_edition2, bridge_at, fpb_at, port_at}
use Rattle.registers.proofs.Laws.{record_least, record_next, record_behind}
use Rattle.patches.specs.Patched.{put_in}

module _ (s : List ℕ) (at : ℕ) (new : List ℕ) (fits : at + length new ≤ length s) where
  head_length : length (take at s ++ new) ≡ at + length new
  head_length = length-append (take at s) new ∙ ap (λ (n : ℕ). n + length new) (length-take-le at s (omega arith))

  pub put_length : length (put_in s at new) ≡ length s
  unfolding put_in
  put_length =
      length-append (take at s ++ new) (drop (at + length new) s)
      ∙ rw (head_length, length-drop (at + length new) s) (omega arith)

  -- a byte before those put in, one of them, and one after them
  pub put_before : (j : ℕ) → j < at → get_or (put_in s at new) j 0 ≡ get_or s j 0
  unfolding put_in
  put_before j l =
      get_or-append (take at s ++ new) (drop (at + length new) s) 0 j (rw head_length (omega arith))
      ∙ get_or-append (take at s) new 0 j (rw (length-take-le at s (omega arith)) l)
      ∙ get_or-take at s j 0 l

  pub put_inside : (j : ℕ) → j < length new → get_or (put_in s at new) (at + j) 0 ≡ get_or new j 0
  unfolding put_in
  put_inside j l =
      get_or-append (take at s ++ new) (drop (at + length new) s) 0 (at + j) (rw head_length (omega arith))
      ∙ subst (λ (k : ℕ). get_or (take at s ++ new) (k + j) 0 ≡ get_or new j 0) (length-take-le at s (omega arith))
      (get_or-append-add (take at s) new j 0)

  pub put_after : (j : ℕ) → at + length new ≤ j → get_or (put_in s at new) j 0 ≡ get_or s j 0
  unfolding put_in
  put_after j l =
      subst (λ (k : ℕ). get_or (take at s ++ new ++ drop (at + length new) s) k 0 ≡ get_or s j 0) (rw head_length (omega arith))
      (get_or-append-add (take at s ++ new) (drop (at + length new) s) (j - (at + length new)) 0
      ∙ get_or-drop (at + length new) s (j - (at + length new)) 0
      ∙ ap (λ (k : ℕ). get_or s k 0) (omega arith))

-- two parts of as many bytes are the same where their bytes are
pub part_same : (n a b : ℕ) (s t : List ℕ) → a + n ≤ length s → b + n ≤ length t
    → ((j : ℕ) → j < n → get_or s (a + j) 0 ≡ get_or t (b + j) 0) → take n (drop a s) ≡ take n (drop b t)
part_same n a b s t fits fits' same =
    ext_get_or 0 (take n (drop a s)) (take n (drop b t)) (part_length a s fits ∙ sym (part_length b t fits'))
    (λ j l. let below = rw (part_length a s fits) at l in
    get_or-take n (drop a s) j 0 below ∙ get_or-drop a s j 0 ∙ same j below ∙ sym (get_or-take n (drop b t) j 0 below ∙ get_or-drop b t j 0))
  where
    part_length : (c : ℕ) (u : List ℕ) → c + n ≤ length u → length (take n (drop c u)) ≡ n
    part_length c u l = length-take-le n (drop c u) (rw (length-drop c u) (omega arith))

-- the first n bytes of two lists are the same
abbrev pub SameTo : ℕ → List ℕ → List ℕ → Type 0
SameTo n s s' = (j : ℕ) → j < n → get_or s j 0 ≡ get_or s' j 0

module _ (n : ℕ) (s s' : List ℕ) (same : SameTo n s s') where
  pub u16_same : (i : ℕ) → i + 2 ≤ n → u16_at s i ≡ u16_at s' i
  unfolding u16_at
  u16_same i l = rw (same i (omega arith), same (i + 1) (omega arith))

  pub u32_same : (i : ℕ) → i + 4 ≤ n → u32_at s i ≡ u32_at s' i
  unfolding u32_at
  u32_same i l = rw (u16_same i (omega arith), u16_same (i + 2) (omega arith))

  -- the record of a port that lies in them, with the edition that says where
  module _ (p : ℕ) (l : record_in s (suc p) ≤ n) where
    edition_same : edition_of s ≡ edition_of s'
    edition_same = u16_same 0 (omega (arith, record_behind (edition_of s) (suc p)))

    ends_there : record_in s p + record_bytes (edition_of s) ≤ n
    ends_there = rw (← record_next (edition_of s) p) l

    first_there : get_or s (record_in s p) 0 ≡ get_or s' (record_in s' p) 0
    first_there =
        same (record_in s p) (omega (arith, ends_there, record_least (edition_of s)))
        ∙ ap (λ (e : ℕ). get_or s' (record_at e p) 0) edition_same

    byte_there : (k : ℕ) → k < 56 → get_or s (record_in s p + k) 0 ≡ get_or s' (record_in s' p + k) 0
    byte_there k m =
        same (record_in s p + k) (omega (arith, ends_there, record_least (edition_of s)))
        ∙ ap (λ (e : ℕ). get_or s' (record_at e p + k) 0) edition_same

    u16_there : (k : ℕ) → k + 2 ≤ record_bytes (edition_of s) → u16_at s (record_in s p + k) ≡ u16_at s' (record_in s' p + k)
    u16_there k m =
        u16_same (record_in s p + k) (omega (arith, ends_there))
        ∙ ap (λ (e : ℕ). u16_at s' (record_at e p + k)) edition_same

    u16_early : (k : ℕ) → k + 2 ≤ 56 → u16_at s (record_in s p + k) ≡ u16_at s' (record_in s' p + k)
    u16_early k m = u16_there k (omega (arith, record_least (edition_of s)))

    u32_there : (k : ℕ) → k + 4 ≤ 56 → u32_at s (record_in s p + k) ≡ u32_at s' (record_in s' p + k)
    u32_there k m =
        u32_same (record_in s p + k) (omega (arith, ends_there, record_least (edition_of s)))
        ∙ ap (λ (e : ℕ). u32_at s' (record_at e p + k)) edition_same

    -- a field that edition 2 alone has
    late_there : (k : ℕ) → k + 2 ≤ 60
        → in_edition2 (edition_of s) (u16_at s (record_in s p + k)) ≡ in_edition2 (edition_of s') (u16_at s' (record_in s' p + k))
    late_there k m =
        go (eqb (edition_of s) 2) refl
        ∙ ap (λ (e : ℕ). in_edition2 e (u16_at s' (record_in s' p + k))) edition_same
      where
        go : (b : Bool) → eqb (edition_of s) 2 ≡ b → cond b (u16_at s (record_in s p + k)) 0 ≡ cond b (u16_at s' (record_in s' p + k)) 0
        go true e = u16_there k (rw e m)
        go false e = refl

    pub port_same : port_at s p ≡ port_at s' p
    unfolding port_at bridge_at fpb_at
    port_same = λ i. record {
      kind = first_there i;
      parent = record { 0 = byte_there 1 (omega arith) i };
      own_id = record { 0 = u16_early 2 (omega arith) i };
      device_control_2 = u16_early 24 (omega arith) i;
      bridge = record {
        command = u16_early 4 (omega arith) i;
        secondary = byte_there 6 (omega arith) i;
        subordinate = byte_there 7 (omega arith) i;
        memory_base = u16_early 8 (omega arith) i;
        memory_limit = u16_early 10 (omega arith) i;
        prefetchable_base = u16_early 12 (omega arith) i;
        prefetchable_limit = u16_early 14 (omega arith) i;
        prefetchable_base_upper = u32_there 16 (omega arith) i;
        prefetchable_limit_upper = u32_there 20 (omega arith) i;
        bridge_control = u16_early 26 (omega arith) i;
      };
      fpb = record {
        capabilities = u32_there 28 (omega arith) i;
        rid_control_1 = u32_there 32 (omega arith) i;
        rid_control_2 = u32_there 36 (omega arith) i;
        mem_low_control = u32_there 40 (omega arith) i;
        mem_high_control_1 = u32_there 44 (omega arith) i;
        mem_high_control_2 = u32_there 48 (omega arith) i;
      };
      vectors_at = u32_there 52 (omega arith) i;
      acs_control = late_there 56 (omega arith) i;
      zeros = late_there 58 (omega arith) i;
    }
