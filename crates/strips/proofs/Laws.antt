-- Binary digits of words that are joined, masked and shifted, and marks in a strip. Assumes nothing.
use Prim.Native.Nat.{ℕ, zero, suc, ◌+◌, ◌-◌, ◌*◌, ◌/◌, ◌%◌, ◌^◌, ◌≤◌, ◌<◌, min, max}
use mathlib.Core.Bool.{Bool, false, not, ◌&&◌, ◌||◌, or-false, or_assoc}
use mathlib.Core.List.{List}
use mathlib.Core.Path.{◌≡◌, refl, sym, ap, ◌∙◌, subst}
use native.Mathlib.Decide.{dec_le, dec_lt, ℕ_discrete}
use native.Mathlib.Nat.{pow-succ', zero-add, mul_comm, add_comm, div-add-mod, div-eq_of_lt, lt_of_lt_of_le, mod-eq_of_lt}
use native.Mathlib.Omega.{arith}
use lib.Bits.{bit_and, bit_or, and_step, or_step, and_shr, or_shr}
use lib.Dec.{eqb, leb, ltb}
use lib.ListN.{length, get_or, set}
use lib.Pow.{pow_pos, pow_mono, pow-lt, high, ones_split, ones_lt}
use lib.Seq.{get_or-set_same, get_or-set_other}
use borrow.Author.Tests.{lt-ltb, le-ltb, le-leb, lt-leb, eq-eqb, ne_eqb}
use Rattle.vectors.proofs.Digits.{bit, bit_zero, bit_suc, bit_low, bit_high, bit_not, bit_nought}
use Rattle.strips.specs.Strips.{marked, Marks, in_word}

-- the lowest digit of two numbers joined, and so every digit
odd_or : (x y : ℕ) → eqb (bit_or x y % 2) 1 ≡ (eqb (x % 2) 1 || eqb (y % 2) 1)
odd_or x y =
    let e : bit_or x y % 2 ≡ max (x % 2) (y % 2) = omega (arith, or_step x y) in
    ap (λ (d : ℕ). eqb d 1) e ∙ go (x % 2) (y % 2) (omega arith) (omega arith)
  where
    go : (d e : ℕ) → d < 2 → e < 2 → eqb (max d e) 1 ≡ (eqb d 1 || eqb e 1)
    go zero zero l h = refl
    go zero (suc zero) l h = refl
    go (suc zero) zero l h = refl
    go (suc zero) (suc zero) l h = refl
    go (suc (suc d)) e l h = absurd (omega arith)
    go zero (suc (suc e)) l h = absurd (omega arith)
    go (suc zero) (suc (suc e)) l h = absurd (omega arith)

odd_and : (x y : ℕ) → eqb (bit_and x y % 2) 1 ≡ (eqb (x % 2) 1 && eqb (y % 2) 1)
odd_and x y =
    let e : bit_and x y % 2 ≡ min (x % 2) (y % 2) = omega (arith, and_step x y) in
    ap (λ (d : ℕ). eqb d 1) e ∙ go (x % 2) (y % 2) (omega arith) (omega arith)
  where
    go : (d e : ℕ) → d < 2 → e < 2 → eqb (min d e) 1 ≡ (eqb d 1 && eqb e 1)
    go zero zero l h = refl
    go zero (suc zero) l h = refl
    go (suc zero) zero l h = refl
    go (suc zero) (suc zero) l h = refl
    go (suc (suc d)) e l h = absurd (omega arith)
    go zero (suc (suc e)) l h = absurd (omega arith)
    go (suc zero) (suc (suc e)) l h = absurd (omega arith)

pub bit_or_lem : (k a b : ℕ) → bit (bit_or a b) k ≡ (bit a k || bit b k)
bit_or_lem k a b = ap (λ (y : ℕ). eqb (y % 2) 1) (or_shr a b k) ∙ odd_or (a / 2 ^ k) (b / 2 ^ k)

pub bit_and_lem : (k a b : ℕ) → bit (bit_and a b) k ≡ (bit a k && bit b k)
bit_and_lem k a b = ap (λ (y : ℕ). eqb (y % 2) 1) (and_shr a b k) ∙ odd_and (a / 2 ^ k) (b / 2 ^ k)

-- m ones
bit_ones : (m k : ℕ) → bit (2 ^ m - 1) k ≡ ltb k m
bit_ones zero k = bit_nought k ∙ sym (le-ltb k 0 (omega arith))
bit_ones (suc m) zero =
    let odd : (2 ^ suc m - 1) % 2 ≡ 1 = omega (arith, pow-succ' 2 m, pow_pos m) in
    bit_zero (2 ^ suc m - 1) ∙ ap (λ (y : ℕ). eqb y 1) odd ∙ sym (lt-ltb 0 (suc m) (omega arith))
bit_ones (suc m) (suc k) =
    let half : (2 ^ suc m - 1) / 2 ≡ 2 ^ m - 1 = omega (arith, pow-succ' 2 m, pow_pos m) in
    bit_suc (2 ^ suc m - 1) k ∙ ap (λ (y : ℕ). bit y k) half ∙ bit_ones m k ∙ more (dec_lt k m)
  where
    more : Dec (k < m) → ltb k m ≡ ltb (suc k) (suc m)
    more (yes l) = rw (lt-ltb k m l, lt-ltb (suc k) (suc m) (omega arith))
    more (no l) = rw (le-ltb k m (omega arith), le-ltb (suc k) (suc m) (omega arith))

-- digits past a number's last, and of what is left of it below 2^w
pub bit_past : (w k x : ℕ) → x < 2 ^ w → w ≤ k → bit x k ≡ false
bit_past w k x h l =
    let none : x / 2 ^ k ≡ 0 = div-eq_of_lt (lt_of_lt_of_le h (pow_mono l)) in
    ap (λ (y : ℕ). eqb (y % 2) 1) none

bit_cut : (w k x : ℕ) → k < w → bit (x % 2 ^ w) k ≡ bit x k
bit_cut w k x l =
    sym (bit_low w k (x % 2 ^ w) (x / 2 ^ w) l)
    ∙ ap (λ (y : ℕ). bit y k) (add_comm (x % 2 ^ w) (2 ^ w * (x / 2 ^ w)) ∙ div-add-mod x (2 ^ w))

-- a word shifted up
bit_up : (s j x : ℕ) → bit (x * 2 ^ s) j ≡ (leb s j && bit x (j - s))
bit_up s j x = ap (λ (y : ℕ). bit y j) (mul_comm x (2 ^ s) ∙ sym (zero-add (2 ^ s * x))) ∙ go (dec_le s j)
  where
    go : Dec (s ≤ j) → bit (0 + 2 ^ s * x) j ≡ (leb s j && bit x (j - s))
    go (yes l) =
        let there : s + (j - s) ≡ j = omega arith in
        rw (le-leb s j l) (ap (bit (0 + 2 ^ s * x)) (sym there) ∙ bit_high s (j - s) 0 x (pow_pos s))
    go (no l) = rw (lt-leb s j (omega arith)) (bit_low s j 0 x (omega arith) ∙ bit_nought j)

pub bit_shl : (s j x : ℕ) → j < 64 → bit (x * 2 ^ s % 2 ^ 64) j ≡ (leb s j && bit x (j - s))
bit_shl s j x l = bit_cut 64 j (x * 2 ^ s) l ∙ bit_up s j x

-- ones from digit lo to digit hi
ones_shr : (j k : ℕ) → (2 ^ (j + k) - 1) / 2 ^ k ≡ 2 ^ j - 1
ones_shr j k = ap (λ (y : ℕ). y / 2 ^ k) (ones_split j k) ∙ high (2 ^ j - 1) k (ones_lt k)

abbrev pub one_up : ℕ → ℕ
one_up lo = 1 * 2 ^ lo % 2 ^ 64

pub one_up_lem : (lo : ℕ) → lo < 64 → one_up lo ≡ 2 ^ lo
one_up_lem lo l =
    let one : 1 * 2 ^ lo ≡ 2 ^ lo = omega arith in
    mod-eq_of_lt (subst (λ (y : ℕ). y < 2 ^ 64) (sym one) (pow-lt l)) ∙ one

pub one_up_some : (lo : ℕ) → lo < 64 → 1 ≤ one_up lo
one_up_some lo l = subst (λ (y : ℕ). 1 ≤ y) (sym (one_up_lem lo l)) (pow_pos lo)

pub ones_between : (lo hi k : ℕ) → hi < 64 → lo ≤ hi → k < 64
    → bit (bit_and ((2 ^ 64 - 1) / 2 ^ (63 - hi)) (2 ^ 64 - 1 - (one_up lo - 1))) k ≡ (leb lo k && leb k hi)
ones_between lo hi k h l small =
    let count : suc hi + (63 - hi) ≡ 64 = omega arith in
    let upto : (2 ^ 64 - 1) / 2 ^ (63 - hi) ≡ 2 ^ suc hi - 1 = ap (λ (n : ℕ). (2 ^ n - 1) / 2 ^ (63 - hi)) (sym count) ∙ ones_shr (suc hi) (63 - hi) in
    let below : 2 ^ lo - 1 < 2 ^ 64 = lt_of_lt_of_le (ones_lt lo) (pow_mono {j = 64} (omega arith)) in
    let before : bit (2 ^ 64 - 1 - (one_up lo - 1)) k ≡ not (ltb k lo) =
    ap (λ (y : ℕ). bit (2 ^ 64 - 1 - (y - 1)) k) (one_up_lem lo (omega arith)) ∙ bit_not 64 k (2 ^ lo - 1) below small ∙ ap not (bit_ones lo k) in
    bit_and_lem k ((2 ^ 64 - 1) / 2 ^ (63 - hi)) (2 ^ 64 - 1 - (one_up lo - 1)) ∙ rw (before, upto, bit_ones (suc hi) k) (go (dec_le lo k) (dec_le k hi))
  where
    go : Dec (lo ≤ k) → Dec (k ≤ hi) → (ltb k (suc hi) && not (ltb k lo)) ≡ (leb lo k && leb k hi)
    go (yes a) (yes b) = rw (le-leb lo k a, le-leb k hi b, le-ltb k lo a, lt-ltb k (suc hi) (omega arith))
    go (yes a) (no b) = rw (le-leb lo k a, lt-leb k hi (omega arith), le-ltb k (suc hi) (omega arith))
    go (no a) (yes b) = rw (lt-leb lo k (omega arith), lt-ltb k lo (omega arith), lt-ltb k (suc hi) (omega arith))
    go (no a) (no b) = absurd (omega arith)

-- units marked in two steps, none marked, and the same ones told otherwise
pub marks_also : {a b c : List ℕ} {p q r : ℕ → Bool} → Marks a b p → Marks b c q → ((u : ℕ) → u < 8192 → (p u || q u) ≡ r u) → Marks a c r
marks_also {a} {b} {c} {p} {q} {r} f g e = record { at = λ u l. g.at u l ∙ rw (f.at u l) (or_assoc (marked a u) (p u) (q u) ∙ ap (λ (y : Bool). marked a u || y) (e u l)) }

pub marks_none : {a : List ℕ} {p : ℕ → Bool} → ((u : ℕ) → u < 8192 → p u ≡ false) → Marks a a p
marks_none {a} {p} e = record { at = λ u l. sym (or-false (marked a u)) ∙ ap (λ (y : Bool). marked a u || y) (sym (e u l)) }

pub marks_as : {a b : List ℕ} {p q : ℕ → Bool} → Marks a b p → ((u : ℕ) → u < 8192 → p u ≡ q u) → Marks a b q
marks_as {a} {b} {p} {q} f e = record { at = λ u l. f.at u l ∙ ap (λ (y : Bool). marked a u || y) (e u l) }

-- one word of a strip joined with another
pub word_marks : (l : List ℕ) (k x : ℕ) → k < length l → Marks l (set l k (bit_or (get_or l k 0) x)) (in_word k x)
unfolding marked in_word
word_marks l k x h = record { at = λ u l. go u (ℕ_discrete (u / 64) k) }
  where
    go : (u : ℕ) → Dec (u / 64 ≡ k)
        → bit (get_or (set l k (bit_or (get_or l k 0) x)) (u / 64) 0) (u % 64)
        ≡ (bit (get_or l (u / 64) 0) (u % 64) || eqb (u / 64) k && bit x (u % 64))
    go u (yes e) =
        rw (eq-eqb (u / 64) k e, e)
        (ap (λ (y : ℕ). bit y (u % 64)) (get_or-set_same l k (bit_or (get_or l k 0) x) 0 h) ∙ bit_or_lem (u % 64) (get_or l k 0) x)
    go u (no e) =
        rw (ne_eqb (u / 64) k e, or-false)
        (ap (λ (y : ℕ). bit y (u % 64)) (get_or-set_other l k (u / 64) (bit_or (get_or l k 0) x) 0 e))

-- Of the units a to b those of word k.
pub word_part : (a b k j : ℕ) → j < 64 → 64 * k ≤ b
    → (leb (a - 64 * k) j && leb j (min (b - 64 * k) 63)) ≡ (leb a (64 * k + j) && leb (64 * k + j) b)
word_part a b k j l h = go (dec_le a (64 * k + j)) (dec_le (64 * k + j) b)
  where
    go : Dec (a ≤ 64 * k + j) → Dec (64 * k + j ≤ b)
        → (leb (a - 64 * k) j && leb j (min (b - 64 * k) 63)) ≡ (leb a (64 * k + j) && leb (64 * k + j) b)
    go (yes x) (yes y) =
        rw (le-leb a (64 * k + j) x, le-leb (64 * k + j) b y, le-leb (a - 64 * k) j (omega arith), le-leb j (min (b - 64 * k) 63) (omega arith))
    go (yes x) (no y) =
        rw (le-leb a (64 * k + j) x, lt-leb (64 * k + j) b (omega arith), le-leb (a - 64 * k) j (omega arith), lt-leb j (min (b - 64 * k) 63) (omega arith))
    go (no x) y = rw (lt-leb a (64 * k + j) (omega arith), lt-leb (a - 64 * k) j (omega arith))
