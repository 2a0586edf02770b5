-- Where the bytes lie that changes name: in a picture that reads each lies behind its header, each byte there is named, and only the same
-- port, part and place name one byte twice.
-- Assumes nothing.
use Prim.Native.Nat.{ℕ, zero, suc, zero-le, ◌+◌, ◌-◌, ◌*◌, ◌<◌, ◌≤◌}
use mathlib.Core.Bool.{Bool, true, false, cond, ◌&&◌}
use mathlib.Core.List.{List}
use mathlib.Core.Logic.{◌⊎◌, inl, inr, ⊎_elim}
use mathlib.Core.Path.{◌≡◌, refl, sym, ap, ◌∙◌, subst}
use native.Mathlib.Decide.{dec_lt}
use native.Mathlib.Omega.{arith}
use borrow.Author.Tests.{lt-ltb, ltb-true, eqb-true, eq-eqb, not-false}
use lib.Dec.{eqb, ltb}
use lib.ListN.{length}
use Rattle.least.proofs.Laws.{impossible}
use Rattle.registers.proofs.Laws.{record_next, record_mono, record_behind}
use Rattle.registers.specs.Record.{edition_of, record_bytes, record_at, record_in, port_at}
use Rattle.trees.specs.Trees.{count_of}
use Rattle.picture.proofs.WhatReads.{Reads, starts_there, offset_grows, room}
use Rattle.picture.specs.declared.Header.{Header}
use Rattle.picture.specs.Layout.{all_bytes, running_offset, end_wrong}
use Rattle.changes.specs.declared.Change.{Change}
use Rattle.changes.specs.Change.{in_record, in_vectors, part_bytes, part_start, byte_named}
use Rattle.changes.specs.Looking.{same_byte}
use Rattle.std.specs.Prelude.{Some, None}

-- a record ends where the next one starts
pub record_first : (edition : ℕ) → record_at edition 0 ≤ record_at edition 1
record_first edition = record_mono edition 0 1 (omega arith)

pub record_size : (edition : ℕ) → record_at edition 1 - record_at edition 0 ≡ record_bytes edition
record_size edition = rw (record_next edition 0) (omega arith)

record_start : (edition : ℕ) → record_at edition 0 ≡ 16
unfolding record_at
record_start edition = go (eqb edition 2)
  where
    go : (b : Bool) → 16 + cond b 60 56 * 0 ≡ 16
    go true = refl
    go false = refl

-- what is so of a change that names a byte
pub record Named (first : List ℕ) (c : Change) (x : ℕ) : Type 0 where
  pub port_there : c.port < count_of first
  pub at_there : c.at < part_bytes first c.port c.part
  pub place : x ≡ part_start first c.port c.part + c.at

pub named : (first : List ℕ) (c : Change) (x : ℕ) → byte_named first c ≡ Some x → Named first c x
unfolding byte_named
named first c x e = go (ltb c.port (count_of first)) refl (ltb c.at (part_bytes first c.port c.part)) refl e
  where
    go : (a : Bool) → ltb c.port (count_of first) ≡ a → (b : Bool) → ltb c.at (part_bytes first c.port c.part) ≡ b
        → cond (a && b) (Some (part_start first c.port c.part + c.at)) None ≡ Some x → Named first c x
    go true port true at e = record { port_there = ltb-true _ _ port; at_there = ltb-true _ _ at; place = let z : Some (part_start first c.port c.part + c.at) ≡ Some x = e in cc }
    go true port false at e = impossible (cc)
    go false port b at e = impossible (cc)

-- stretches that follow one another without gaps: a place in one of them lies in no other, and at no other place of it
module _ (start len : ℕ → ℕ) (next : (p : ℕ) → start (suc p) ≡ start p + len p) (grows : (p q : ℕ) → p ≤ q → start p ≤ start q) where
  before : (p q a b : ℕ) → a < len p → p < q → start p + a ≡ start q + b → ⊥
  before p q a b in_p l e = absurd (omega (arith, next p, grows (suc p) q l, in_p, e))

  pub once : (p q a b : ℕ) → a < len p → b < len q → start p + a ≡ start q + b → (p ≡ q) × (a ≡ b)
  once p q a b in_p in-q e = go (dec_lt p q) (dec_lt q p)
    where
      go : Dec (p < q) → Dec (q < p) → (p ≡ q) × (a ≡ b)
      go (yes l) other = absurd (before p q a b in_p l e)
      go (no l) (yes k) = absurd (before q p b a in-q k (sym e))
      go (no l) (no k) =
          let same : p ≡ q = omega arith in
          (same, omega (arith, e, ap start same))

module _ (first : List ℕ) (h : Header) (reads : Reads first h) where
  -- a byte named lies in a record, or among the vectors of its port
  abbrev InRecord : Change → ℕ → Type 0
  InRecord c x = (c.part ≡ in_record) × ((x ≡ record_in first c.port + c.at) × (c.at < record_bytes (edition_of first)))

  abbrev InVectors : Change → ℕ → Type 0
  InVectors c x = (c.part ≡ in_vectors) × ((x ≡ running_offset first c.port + c.at) × (c.at < all_bytes (port_at first c.port).fpb))

  lies : (c : Change) (x : ℕ) → Named first c x → InRecord c x ⊎ InVectors c x
  unfolding part_start part_bytes
  lies c x is = go (eqb c.part in_record) refl (eqb c.part in_vectors) refl is.place is.at_there
    where
      go : (a : Bool) → eqb c.part in_record ≡ a → (b : Bool) → eqb c.part in_vectors ≡ b
          → x ≡ cond a (record_in first c.port) (port_at first c.port).vectors_at + c.at
          → c.at < cond a (record_bytes (edition_of first)) (cond b (all_bytes (port_at first c.port).fpb) 0)
          → InRecord c x ⊎ InVectors c x
      go true e b f place there = inl (eqb-true _ _ e, (place, there))
      go false e true f place there = inr (eqb-true _ _ f, (place ∙ ap (λ (n : ℕ). n + c.at) (starts_there first h reads c.port is.port_there), there))
      go false e false f place there = absurd (omega (arith, there))

  -- the records lie before all vectors
  apart : (p q a b : ℕ) → p < count_of first → a < record_bytes (edition_of first) → record_in first p + a ≡ running_offset first q + b → ⊥
  unfolding running_offset
  apart p q a b below in_p e =
      absurd (omega (arith, record_next (edition_of first) p, record_mono (edition_of first) (suc p) (count_of first) below, offset_grows first 0 q zero-le, in_p, e))

  pub within : (c : Change) (x : ℕ) → Named first c x → x < length first
  unfolding running_offset
  within c x is = ⊎_elim in-record in-vectors (lies c x is)
    where
      in-record : InRecord c x → x < length first
      in-record r =
          omega (arith, r, record_next (edition_of first) c.port, record_mono (edition_of first) (suc c.port) (count_of first) is.port_there, offset_grows first 0 c.port zero-le, room first h reads c.port is.port_there)

      in-vectors : InVectors c x → x < length first
      in-vectors r = omega (arith, r, room first h reads c.port is.port_there)

  -- two changes that name one byte say the same port, part and place
  pub same_place : (d c : Change) (x : ℕ) → Named first d x → Named first c x → same_byte d c ≡ true
  unfolding running_offset
  same_place d c x one other = go (lies d x one) (lies c x other)
    where
      all_same : d.port ≡ c.port → d.part ≡ c.part → d.at ≡ c.at → same_byte d c ≡ true
      all_same e f g = rw (eq-eqb _ _ e, eq-eqb _ _ f, eq-eqb _ _ g)

      go : InRecord d x ⊎ InVectors d x → InRecord c x ⊎ InVectors c x → same_byte d c ≡ true
      go (inl r) (inl s) =
          let both = once (record_in first) (λ p. record_bytes (edition_of first)) (record_next (edition_of first)) (record_mono (edition_of first)) d.port c.port d.at c.at r.1.1 s.1.1 (sym r.1.0 ∙ s.1.0) in
          all_same both.0 (r.0 ∙ sym s.0) both.1
      go (inr r) (inr s) =
          let both = once (running_offset first) (λ p. all_bytes (port_at first p).fpb) (λ p. refl) (offset_grows first) d.port c.port d.at c.at r.1.1 s.1.1 (sym r.1.0 ∙ s.1.0) in
          all_same both.0 (r.0 ∙ sym s.0) both.1
      go (inl r) (inr s) = absurd (apart d.port c.port d.at c.at one.port_there r.1.1 (sym r.1.0 ∙ s.1.0))
      go (inr r) (inl s) = absurd (apart c.port d.port c.at d.at other.port_there s.1.1 (sym s.1.0 ∙ r.1.0))

  -- and every byte behind the header is named
  byte_in : (p part at x : ℕ) → p < count_of first → at < part_bytes first p part → x ≡ part_start first p part + at → (c : Change) × (byte_named first c ≡ Some x)
  unfolding byte_named
  byte_in p part at x below there is =
      (record { port = p; part = part; at = at; old_byte = 0; new_byte = 0 }, rw (lt-ltb p (count_of first) below, lt-ltb at (part_bytes first p part) there, is))

  -- in which of the first n records or sets of vectors a place lies
  in-records : (n x : ℕ) → n ≤ count_of first → 16 ≤ x → x < record_in first n → (c : Change) × (byte_named first c ≡ Some x)
  unfolding part_bytes part_start
  in-records zero x few from below = absurd (omega (arith, from, below, record_start (edition_of first)))
  in-records (suc n) x few from below = go (in-records n x (omega (arith, few)) from) (dec_lt x (record_in first n))
    where
      go : (x < record_in first n → (c : Change) × (byte_named first c ≡ Some x)) → Dec (x < record_in first n) → (c : Change) × (byte_named first c ≡ Some x)
      go lower (yes l) = lower l
      go lower (no l) = byte_in n in_record (x - record_in first n) x (omega (arith, few)) (omega (arith, l, below, record_next (edition_of first) n)) (omega (arith, l))

  in-vectors : (n x : ℕ) → n ≤ count_of first → running_offset first 0 ≤ x → x < running_offset first n → (c : Change) × (byte_named first c ≡ Some x)
  unfolding part_bytes part_start running_offset
  in-vectors zero x few from below = absurd (omega (arith, from, below))
  in-vectors (suc n) x few from below = go (in-vectors n x (omega (arith, few)) from) (dec_lt x (running_offset first n))
    where
      go : (x < running_offset first n → (c : Change) × (byte_named first c ≡ Some x)) → Dec (x < running_offset first n) → (c : Change) × (byte_named first c ≡ Some x)
      go lower (yes l) = lower l
      go lower (no l) =
          byte_in n in_vectors (x - running_offset first n) x (omega (arith, few)) (omega (arith, l, below))
          (rw (starts_there first h reads n (omega (arith, few))) (omega (arith, l)))

  ends : running_offset first (count_of first) ≡ length first
  unfolding end_wrong
  ends = eqb-true _ _ (not-false (eqb (running_offset first (count_of first)) (length first)) reads.end_right)

  pub all_named : (x : ℕ) → 16 ≤ x → x < length first → (c : Change) × (byte_named first c ≡ Some x)
  unfolding running_offset
  all_named x from below = go (dec_lt x (record_in first (count_of first)))
    where
      go : Dec (x < record_in first (count_of first)) → (c : Change) × (byte_named first c ≡ Some x)
      go (yes l) = in-records (count_of first) x (omega arith) from l
      go (no l) = in-vectors (count_of first) x (omega arith) (omega (arith, l)) (subst (λ (n : ℕ). x < n) (sym ends) below)

  pub behind_header : (c : Change) (x : ℕ) → Named first c x → 16 ≤ x
  unfolding running_offset
  behind_header c x is = ⊎_elim in-record in-vector (lies c x is)
    where
      in-record : InRecord c x → 16 ≤ x
      in-record r = omega (arith, r, record_behind (edition_of first) c.port)

      in-vector : InVectors c x → 16 ≤ x
      in-vector r = omega (arith, r, record_behind (edition_of first) (count_of first), offset_grows first 0 c.port zero-le)
