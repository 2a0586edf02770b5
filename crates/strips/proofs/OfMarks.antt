-- Units marked word by word: 64 of them that begin anywhere, and all from one to another. Assumes nothing.
use Prim.Native.Nat.{ℕ, ◌+◌, ◌-◌, ◌*◌, ◌/◌, ◌%◌, ◌^◌, ◌≤◌, ◌<◌, min}
use mathlib.Core.Bool.{Bool, true, false, ◌&&◌, ◌||◌, beq, or-false, and-false}
use mathlib.Core.List.{List}
use mathlib.Core.Path.{◌≡◌, refl, sym, ap, ◌∙◌}
use native.Mathlib.Decide.{dec_le, dec_lt, ℕ_discrete}
use native.Mathlib.Nat.{le_antisymm, lt_of_le_of_lt, zero-add, sub-zero}
use native.Mathlib.Omega.{arith}
use lib.Bits.{bit_and, and_le_l}
use lib.Dec.{eqb, leb, ltb}
use lib.ListN.{get_or}
use borrow.Author.Tests.{lt-ltb, le-ltb, le-leb, lt-leb, eq-eqb, ne_eqb}
use Rattle.vectors.proofs.Digits.{bit, bit_shr, Digits}
use Rattle.spans.specs.declared.ranges.Range.{Range}
use Rattle.spans.specs.Ranges.{in_range}
use Rattle.strips.specs.Strips.{marked, marked_both, in_word, digits_from, range_from, words_of}
use Rattle.strips.proofs.Laws.{bit_and_lem, bit_shl, bit_past}

-- 64 units that begin d units before the strip
pub before_first : (d x u : ℕ) → x < 2 ^ 64 → in_word 0 (x / 2 ^ d) u ≡ digits_from d 0 x u
unfolding in_word digits_from
before_first d x u h = go (ℕ_discrete (u / 64) 0)
  where
    go : Dec (u / 64 ≡ 0) → (eqb (u / 64) 0 && bit (x / 2 ^ d) (u % 64)) ≡ (leb 0 (d + u) && bit x (d + u - 0))
    go (yes e) =
        let same : u % 64 ≡ u = omega arith in
        rw (eq-eqb (u / 64) 0 e, same, le-leb 0 (d + u) (omega arith), sub-zero (d + u)) (bit_shr x d u)
    go (no e) = rw (ne_eqb (u / 64) 0 e, le-leb 0 (d + u) (omega arith), sub-zero (d + u)) (sym (bit_past 64 (d + u) x h (omega arith)))

pub before_past : (d x u : ℕ) → x < 2 ^ 64 → 64 ≤ d → digits_from d 0 x u ≡ false
unfolding digits_from
before_past d x u h l = rw (bit_past 64 (d + u - 0) x h (omega arith)) (and-false (leb 0 (d + u)))

-- 64 units that begin d units behind its first, in word d/64 and in the next
pub behind_first : (d x u : ℕ) → x < 2 ^ 64
    → (in_word (d / 64) (x * 2 ^ (d % 64) % 2 ^ 64) u || in_word (d / 64 + 1) (x / 2 ^ (64 - d % 64)) u) ≡ digits_from 0 d x u
unfolding in_word digits_from
behind_first d x u h =
    rw (zero-add u, bit_shr x (64 - d % 64) (u % 64)) (go (ℕ_discrete (u / 64) (d / 64)) (ℕ_discrete (u / 64) (d / 64 + 1)) (dec_le d u))
  where
    go : Dec (u / 64 ≡ d / 64) → Dec (u / 64 ≡ d / 64 + 1) → Dec (d ≤ u)
        → (eqb (u / 64) (d / 64) && bit (x * 2 ^ (d % 64) % 2 ^ 64) (u % 64) || eqb (u / 64) (d / 64 + 1) && bit x (64 - d % 64 + u % 64))
        ≡ (leb d u && bit x (u - d))
    go (yes e) f (yes l) =
        let place : u % 64 - d % 64 ≡ u - d = omega arith in
        rw (eq-eqb (u / 64) (d / 64) e, ne_eqb (u / 64) (d / 64 + 1) (λ i. omega arith), or-false, bit_shl (d % 64) (u % 64) x (omega arith), le-leb (d % 64) (u % 64) (omega arith), le-leb d u l, place)
    go (yes e) f (no l) =
        rw (eq-eqb (u / 64) (d / 64) e, ne_eqb (u / 64) (d / 64 + 1) (λ i. omega arith), or-false, bit_shl (d % 64) (u % 64) x (omega arith), lt-leb (d % 64) (u % 64) (omega arith), lt-leb d u (omega arith))
    go (no e) (yes f) l =
        let place : 64 - d % 64 + u % 64 ≡ u - d = omega arith in
        rw (ne_eqb (u / 64) (d / 64) e, eq-eqb (u / 64) (d / 64 + 1) f, le-leb d u (omega arith), place)
    go (no e) (no f) (yes l) =
        rw (ne_eqb (u / 64) (d / 64) e, ne_eqb (u / 64) (d / 64 + 1) f, le-leb d u l) (sym (bit_past 64 (u - d) x h (omega arith)))
    go (no e) (no f) (no l) = rw (ne_eqb (u / 64) (d / 64) e, ne_eqb (u / 64) (d / 64 + 1) f, lt-leb d u (omega arith))

pub behind_past : (d x u : ℕ) → u < 8192 → 8192 ≤ d → digits_from 0 d x u ≡ false
unfolding digits_from
behind_past d x u l h = rw (lt-leb d (0 + u) (omega arith))

-- the rest of them, where there is no such word, or nothing is left
pub no_word : (k x u : ℕ) → u < 8192 → 128 ≤ k → in_word k x u ≡ false
unfolding in_word
no_word k x u l h = rw (ne_eqb (u / 64) k (λ i. omega arith))

pub no_rest : (k room x u : ℕ) → x < 2 ^ 64 → 64 ≤ room → in_word k (x / 2 ^ room) u ≡ false
unfolding in_word
no_rest k room x u h l =
    rw (bit_shr x room (u % 64), bit_past 64 (room + u % 64) x h (omega arith)) (and-false (eqb (u / 64) k))

-- where they begin, as a target
pub from_before : (base at x u : ℕ) → at < base → digits_from (base - at) 0 x u ≡ digits_from base at x u
unfolding digits_from
from_before base at x u l =
    let place : base - at + u - 0 ≡ base + u - at = omega arith in
    rw (le-leb at (base + u) (omega arith), le-leb 0 (base - at + u) (omega arith), place)

pub from_behind : (base at x u : ℕ) → base ≤ at → digits_from 0 (at - base) x u ≡ digits_from base at x u
unfolding digits_from
from_behind base at x u l = go (dec_le at (base + u))
  where
    go : Dec (at ≤ base + u) → (leb (at - base) (0 + u) && bit x (0 + u - (at - base))) ≡ (leb at (base + u) && bit x (base + u - at))
    go (yes h) =
        let place : 0 + u - (at - base) ≡ base + u - at = omega arith in
        rw (le-leb at (base + u) h, le-leb (at - base) (0 + u) (omega arith), place)
    go (no h) = rw (lt-leb at (base + u) (omega arith), lt-leb (at - base) (0 + u) (omega arith))

-- the units a to b of the words before k
unfoldable pub units_to : ℕ → ℕ → ℕ → ℕ → Bool
units_to a b k u = leb a u && (leb u b && ltb (u / 64) k)

pub units_begin : (a b u : ℕ) → units_to a b (a / 64) u ≡ false
unfolding units_to
units_begin a b u = go (dec_le a u)
  where
    go : Dec (a ≤ u) → (leb a u && (leb u b && ltb (u / 64) (a / 64))) ≡ false
    go (yes l) = rw (le-ltb (u / 64) (a / 64) (omega arith), and-false (leb u b), and-false (leb a u))
    go (no l) = rw (lt-leb a u (omega arith))

pub units_more : (a b k x u : ℕ) → ((j : ℕ) → j < 64 → bit x j ≡ (leb a (64 * k + j) && leb (64 * k + j) b))
    → (units_to a b k u || in_word k x u) ≡ units_to a b (k + 1) u
unfolding units_to in_word
units_more a b k x u digits = go (ℕ_discrete (u / 64) k) (dec_lt (u / 64) k)
  where
    here : u / 64 ≡ k → bit x (u % 64) ≡ (leb a u && leb u b)
    here e =
        let place : 64 * k + u % 64 ≡ u = omega arith in
        digits (u % 64) (omega arith) ∙ rw place

    twice : (p q : Bool) → (p && (q && false) || (true && (p && q))) ≡ (p && (q && true))
    twice true true = refl
    twice true false = refl
    twice false q = refl

    go : Dec (u / 64 ≡ k) → Dec (u / 64 < k)
        → (leb a u && (leb u b && ltb (u / 64) k) || eqb (u / 64) k && bit x (u % 64)) ≡ (leb a u && (leb u b && ltb (u / 64) (k + 1)))
    go (yes e) l =
        rw (here e, eq-eqb (u / 64) k e, le-ltb (u / 64) k (omega arith), lt-ltb (u / 64) (k + 1) (omega arith)) (twice (leb a u) (leb u b))
    go (no e) (yes l) = rw (ne_eqb (u / 64) k e, lt-ltb (u / 64) k l, lt-ltb (u / 64) (k + 1) (omega arith)) (or-false (leb a u && (leb u b && true)))
    go (no e) (no l) =
        rw (ne_eqb (u / 64) k e, le-ltb (u / 64) k (omega arith), le-ltb (u / 64) (k + 1) (omega arith)) (or-false (leb a u && (leb u b && false)))

pub units_end : (a b k u : ℕ) → b / 64 < k → units_to a b k u ≡ in_range (record { lo = a; hi = b }) u
unfolding units_to in_range
units_end a b k u l = go (dec_le u b)
  where
    go : Dec (u ≤ b) → (leb a u && (leb u b && ltb (u / 64) k)) ≡ (leb a u && leb u b)
    go (yes h) = rw (le-leb u b h, lt-ltb (u / 64) k (omega arith))
    go (no h) = rw (lt-leb u b (omega arith))

-- a range, from the strip's first unit on and as far as it goes
pub range_part : (r : Range) (base u : ℕ) → u < 8192 → base ≤ r.hi
    → in_range (record { lo = r.lo - base; hi = min (r.hi - base) 8191 }) u ≡ range_from base r u
unfolding in_range range_from
range_part r base u l h = go (dec_le r.lo (base + u)) (dec_le (base + u) r.hi)
  where
    go : Dec (r.lo ≤ base + u) → Dec (base + u ≤ r.hi)
        → (leb (r.lo - base) u && leb u (min (r.hi - base) 8191)) ≡ (leb r.lo (base + u) && leb (base + u) r.hi)
    go (yes x) (yes y) =
        rw (le-leb r.lo (base + u) x, le-leb (base + u) r.hi y, le-leb (r.lo - base) u (omega arith), le-leb u (min (r.hi - base) 8191) (omega arith))
    go (yes x) (no y) =
        rw (le-leb r.lo (base + u) x, lt-leb (base + u) r.hi (omega arith), le-leb (r.lo - base) u (omega arith), lt-leb u (min (r.hi - base) 8191) (omega arith))
    go (no x) y = rw (lt-leb r.lo (base + u) (omega arith), lt-leb (r.lo - base) u (omega arith))

pub range_before : (r : Range) (base u : ℕ) → r.hi < base → range_from base r u ≡ false
unfolding in_range range_from
range_before r base u l = rw (lt-leb (base + u) r.hi (omega arith)) (and-false (leb r.lo (base + u)))

range_empty : (lo hi t : ℕ) → hi < lo → in_range (record { lo = lo; hi = hi }) t ≡ false
unfolding in_range
range_empty lo hi t l = go (dec_le t hi)
  where
    go : Dec (t ≤ hi) → (leb lo t && leb t hi) ≡ false
    go (yes h) = rw (lt-leb lo t (omega arith))
    go (no h) = rw (lt-leb t hi (omega arith)) (and-false (leb lo t))

pub range_past : (r : Range) (base u : ℕ) → u < 8192 → base ≤ r.hi → min (r.hi - base) 8191 < r.lo - base → range_from base r u ≡ false
range_past r base u l h far = sym (range_part r base u l h) ∙ range_empty (r.lo - base) (min (r.hi - base) 8191) u far

-- The digits of two strips' words, joined as is wanted, are the units that both have.
pub both_digits : (a b : List ℕ) (want : Bool) (k w : ℕ) → get_or a k 0 < 2 ^ 64
    → ((j : ℕ) → j < 64 → bit w j ≡ beq (bit (get_or b k 0) j) want) → Digits (marked_both a b want) (64 * k) 64 (bit_and (get_or a k 0) w)
unfolding marked marked_both
both_digits a b want k w h e =
    record {
      most = lt_of_le_of_lt (and_le_l (get_or a k 0) w) h;
      at = λ j l.
          let word : (64 * k + j) / 64 ≡ k = omega arith in
          let place : (64 * k + j) % 64 ≡ j = omega arith in
          bit_and_lem j (get_or a k 0) w ∙ rw (e j l, word, place);
    }

-- what is joined word by word
pub words_begin : (b : List ℕ) (u : ℕ) → words_of 0 b u ≡ false
unfolding words_of
words_begin b u = rw (le-ltb u (64 * 0) (omega arith))

pub words_more : (b : List ℕ) (k u : ℕ) → (words_of k b u || in_word k (get_or b k 0) u) ≡ words_of (k + 1) b u
unfolding words_of marked in_word
words_more b k u = go (ℕ_discrete (u / 64) k) (dec_lt u (64 * k))
  where
    go : Dec (u / 64 ≡ k) → Dec (u < 64 * k)
        → (ltb u (64 * k) && bit (get_or b (u / 64) 0) (u % 64) || eqb (u / 64) k && bit (get_or b k 0) (u % 64))
        ≡ (ltb u (64 * (k + 1)) && bit (get_or b (u / 64) 0) (u % 64))
    go (yes e) l = rw (eq-eqb (u / 64) k e, le-ltb u (64 * k) (omega arith), lt-ltb u (64 * (k + 1)) (omega arith), e)
    go (no e) (yes l) = rw (ne_eqb (u / 64) k e, lt-ltb u (64 * k) l, lt-ltb u (64 * (k + 1)) (omega arith)) (or-false (bit (get_or b (u / 64) 0) (u % 64)))
    go (no e) (no l) = rw (ne_eqb (u / 64) k e, le-ltb u (64 * k) (omega arith), le-ltb u (64 * (k + 1)) (omega arith))

pub words_all : {k n : ℕ} → k ≤ n → n ≤ k → (b : List ℕ) (u : ℕ) → words_of k b u ≡ words_of n b u
words_all l h b u = ap (λ (m : ℕ). words_of m b u) (le_antisymm l h)

pub range_empty_from : (r : Range) (base u : ℕ) → r.hi < r.lo → range_from base r u ≡ false
unfolding range_from
range_empty_from r base u l = range_empty r.lo r.hi (base + u) l
