-- The binary digits of a number, the lowest first, as the answers to a question about one number after the other.
-- Assumes nothing.
use Prim.Native.Nat.{ℕ, zero, suc, ◌+◌, ◌-◌, ◌*◌, ◌/◌, ◌%◌, ◌^◌, ◌≤◌, ◌<◌, suc-le-suc}
use mathlib.Core.Path.{◌≡◌, refl, sym, ap, ◌∙◌, subst}
use mathlib.Core.Bool.{Bool, true, false, not}
use native.Mathlib.Decide.{dec_lt}
use native.Mathlib.Nat.{pow-succ', mul_assoc, mul_comm, mul-suc, add_comm, div-one, div-add-mod, mod-lt, mul-le-mul_left, le_refl}
use native.Mathlib.Numerals.{one-add}
use native.Mathlib.Omega.{arith}
use lib.Dec.{eqb}
use lib.Count.{count_trailing_zeros, under}
use lib.Pow.{shr-shr, shr_lt, high, pow-add}
use Rattle.least.proofs.Laws.{NoneIn, LeastAt, none_part}

-- digit k
abbrev pub bit : ℕ → ℕ → Bool
bit x k = eqb (x / 2 ^ k % 2) 1

pub bit_zero : (x : ℕ) → bit x 0 ≡ eqb (x % 2) 1
bit_zero x = rw (div-one x)

pub bit_suc : (x k : ℕ) → bit x (suc k) ≡ bit (x / 2) k
bit_suc x k = ap (λ (y : ℕ). eqb (y % 2) 1) (ap (λ (e : ℕ). x / 2 ^ e) (sym (one-add k)) ∙ sym (shr-shr x 1 k))

pub bit_shr : (x s k : ℕ) → bit (x / 2 ^ s) k ≡ bit x (s + k)
bit_shr x s k = ap (λ (y : ℕ). eqb (y % 2) 1) (shr-shr x s k)

twice : (w b : ℕ) → 2 ^ suc w * b ≡ 2 * (2 ^ w * b)
twice w b = ap (λ (y : ℕ). y * b) (pow-succ' 2 w) ∙ mul_assoc 2 (2 ^ w) b

-- The digits of two numbers, one above the other.
pub bit_low : (w k a b : ℕ) → k < w → bit (a + 2 ^ w * b) k ≡ bit a k
bit_low zero k a b l = absurd (omega arith)
bit_low (suc w) zero a b l =
    let even : (a + 2 ^ suc w * b) % 2 ≡ a % 2 = omega (arith, twice w b) in
    bit_zero (a + 2 ^ suc w * b) ∙ ap (λ (y : ℕ). eqb y 1) even ∙ sym (bit_zero a)
bit_low (suc w) (suc k) a b l =
    let half : (a + 2 ^ suc w * b) / 2 ≡ a / 2 + 2 ^ w * b = omega (arith, twice w b) in
    bit_suc (a + 2 ^ suc w * b) k ∙ ap (λ (y : ℕ). bit y k) half ∙ bit_low w k (a / 2) b (omega arith) ∙ sym (bit_suc a k)

pub bit_high : (w k a b : ℕ) → a < 2 ^ w → bit (a + 2 ^ w * b) (w + k) ≡ bit b k
bit_high w k a b l =
    let top : (a + 2 ^ w * b) / 2 ^ w ≡ b = ap (λ (y : ℕ). (a + y) / 2 ^ w) (mul_comm (2 ^ w) b)
    ∙ ap (λ (y : ℕ). y / 2 ^ w) (add_comm a (b * 2 ^ w)) ∙ high b w l in
    sym (bit_shr (a + 2 ^ w * b) w k) ∙ ap (λ (y : ℕ). bit y k) top

-- The digits of `!x`, for an x of w digits.
pub bit_not : (w k x : ℕ) → x < 2 ^ w → k < w → bit (2 ^ w - 1 - x) k ≡ not (bit x k)
bit_not zero k x h l = absurd (omega arith)
bit_not (suc w) zero x h l = bit_zero (2 ^ suc w - 1 - x) ∙ go (x % 2) refl ∙ sym (ap not (bit_zero x))
  where
    go : (d : ℕ) → x % 2 ≡ d → eqb ((2 ^ suc w - 1 - x) % 2) 1 ≡ not (eqb (x % 2) 1)
    go zero e =
        let odd : (2 ^ suc w - 1 - x) % 2 ≡ 1 = omega (arith, pow-succ' 2 w) in
        rw (odd, e)
    go (suc d) e =
        let one : x % 2 ≡ 1 = omega arith in
        let even : (2 ^ suc w - 1 - x) % 2 ≡ 0 = omega (arith, pow-succ' 2 w) in
        rw (even, one)
bit_not (suc w) (suc k) x h l =
    let half : (2 ^ suc w - 1 - x) / 2 ≡ 2 ^ w - 1 - x / 2 = omega (arith, pow-succ' 2 w) in
    bit_suc (2 ^ suc w - 1 - x) k ∙ ap (λ (y : ℕ). bit y k) half
    ∙ bit_not w k (x / 2) (omega (arith, pow-succ' 2 w)) (omega arith) ∙ sym (ap not (bit_suc x k))

-- x has n digits, and they are the answers of p from i on
pub record Digits (p : ℕ → Bool) (i n x : ℕ) : Type 0 where
  pub most : x < 2 ^ n
  pub at : (k : ℕ) → k < n → bit x k ≡ p (i + k)

-- the digits from s on
pub digits_from : {p : ℕ → Bool} {i n x : ℕ} (s : ℕ) → s ≤ n → Digits p i n x → Digits p (i + s) (n - s) (x / 2 ^ s)
digits_from {p} {i} {n} {x} s l d =
    let parts : n ≡ n - s + s = omega arith in
    record {
      most = shr_lt (n - s) s (subst (λ (m : ℕ). x < 2 ^ m) parts d.most);
      at = λ k h. let place : i + (s + k) ≡ i + s + k = omega arith in bit_shr x s k ∙ d.at (s + k) (omega arith) ∙ ap p place;
    }

-- two stretches of n, one after the other
pub digits_two : {p : ℕ → Bool} {i j a b : ℕ} (n : ℕ) → j ≡ i + n → Digits p i n a → Digits p j n b → Digits p i (n + n) (a + 2 ^ n * b)
digits_two {p} {i} {j} {a} {b} n e low upper = record { most = below; at = λ k l. go k l (dec_lt k n) }
  where
    below : a + 2 ^ n * b < 2 ^ (n + n)
    below = omega (arith, low.most, pow-add 2 n n, mul-suc (2 ^ n) b, mul-le-mul_left (2 ^ n) upper.most)

    go : (k : ℕ) → k < n + n → Dec (k < n) → bit (a + 2 ^ n * b) k ≡ p (i + k)
    go k l (yes h) = bit_low n k a b h ∙ low.at k h
    go k l (no h) =
        let there : n + (k - n) ≡ k = omega arith in
        let place : j + (k - n) ≡ i + k = omega arith in
        ap (bit (a + 2 ^ n * b)) (sym there) ∙ bit_high n (k - n) a b low.most ∙ upper.at (k - n) (omega arith) ∙ ap p place

-- No digit set, and the lowest that is.
pub bit_nought : (k : ℕ) → bit 0 k ≡ false
bit_nought zero = bit_zero 0
bit_nought (suc k) = bit_suc 0 k ∙ bit_nought k

pub digits_of : {p : ℕ → Bool} {i n x : ℕ} → Digits p i n x → (t : ℕ) → i ≤ t → t < i + n → p t ≡ bit x (t - i)
digits_of {p} {i} d t l h =
    let there : i + (t - i) ≡ t = omega arith in
    ap p (sym there) ∙ sym (d.at (t - i) (omega arith))

pub digits_none : {p : ℕ → Bool} {i n x : ℕ} → x ≡ 0 → Digits p i n x → NoneIn p i (i + n)
digits_none {i = i} e d =
    record { none = λ t l h. digits_of d t l h ∙ ap (λ (y : ℕ). bit y (t - i)) e ∙ bit_nought (t - i) }

record Lowest (n x t : ℕ) : Type 0 where
  pub below : t < n
  pub here : bit x t ≡ true
  pub none : (k : ℕ) → k < t → bit x k ≡ false

lowest : (w n x : ℕ) → n ≤ w → x < 2 ^ n → 0 < x → Lowest n x (count_trailing_zeros w x)
unfolding count_trailing_zeros
lowest w zero x l h some = absurd (omega arith)
lowest zero (suc n) x l h some = absurd (omega arith)
lowest (suc w) (suc n) x l h some =
    go (λ e. lowest w n (x / 2) (omega arith) (omega (arith, pow-succ' 2 n)) (omega arith)) (x % 2) refl
  where
    later : {t : ℕ} → x % 2 ≡ 0 → Lowest n (x / 2) t → (k : ℕ) → k < suc t → bit x k ≡ false
    later e a zero l = bit_zero x ∙ ap (λ (y : ℕ). eqb y 1) e
    later e a (suc k) l = bit_suc x k ∙ a.none k (omega arith)

    go : (x % 2 ≡ 0 → Lowest n (x / 2) (count_trailing_zeros w (x / 2))) → (d : ℕ) → x % 2 ≡ d
        → Lowest (suc n) x (under d (count_trailing_zeros w (x / 2)))
    go rest zero e =
        let a = rest e in
        record { below = suc-le-suc a.below; here = bit_suc x _ ∙ a.here; none = later e a }
    go rest (suc d) e =
        let odd : x % 2 ≡ 1 = omega arith in
        record { below = omega arith; here = bit_zero x ∙ ap (λ (y : ℕ). eqb y 1) odd; none = λ k l. absurd (omega arith) }

pub digits_least : {p : ℕ → Bool} {i n x : ℕ} → n ≤ 64 → 0 < x → Digits p i n x → LeastAt p i (i + n) (i + count_trailing_zeros 64 x)
digits_least {p} {i} {n} {x} l some d =
    let a = lowest 64 n x l d.most some in
    record {
      from = omega arith;
      below = omega (arith, a.below);
      holds = sym (d.at (count_trailing_zeros 64 x) a.below) ∙ a.here;
      first = record { none = λ t l h. digits_of d t l (omega (arith, a.below)) ∙ a.none (t - i) (omega arith) };
    }

-- what one look shows: the answers from i on and up to `last`, 64 of them at most
abbrev pub Sees : (ℕ → Bool) → ℕ → ℕ → ℕ → Type 0
Sees p i last x =
    ((i ≤ last) × (last < i + 64) × (x < 2 ^ (last + 1 - i))) × ((k : ℕ) → k < last + 1 - i → bit x k ≡ p (i + k))

-- Of w digits, those from i's on.
pub sees : (p : ℕ → Bool) (i w last : ℕ) {x : ℕ} → 0 < w → w ≤ 64 → last + 1 ≡ i + (w - i % w) → x < 2 ^ w
    → ((k : ℕ) → k < w → bit x k ≡ p (w * (i / w) + k)) → Sees p i last (x / 2 ^ (i % w))
sees p i w last {x} some small e most at =
    let here : i % w < w = mod-lt i some in
    let count : w - i % w ≡ last + 1 - i = omega arith in
    let from : Digits p (w * (i / w) + i % w) (w - i % w) (x / 2 ^ (i % w)) =
    digits_from (i % w) (omega arith) (record { most = most; at = at }) in
    let shown : Digits p i (last + 1 - i) (x / 2 ^ (i % w)) =
    subst (λ (j : ℕ). Digits p j (last + 1 - i) (x / 2 ^ (i % w))) (div-add-mod i w)
    (subst (λ (n : ℕ). Digits p (w * (i / w) + i % w) n (x / 2 ^ (i % w))) count from) in
    ((omega arith, omega arith, shown.most), shown.at)

pub sees_none : (p : ℕ → Bool) (i last : ℕ) {x : ℕ} → x ≡ 0 → Sees p i last x → NoneIn p i (last + 1)
sees_none p i last {x} e s =
    let shown : Digits p i (last + 1 - i) x = record { most = s.0.2; at = s.1 } in
    none_part (le_refl _) (omega arith) (digits_none e shown)

pub sees_least : (p : ℕ → Bool) (i last : ℕ) {x : ℕ} → 0 < x → Sees p i last x → LeastAt p i (last + 1) (i + count_trailing_zeros 64 x)
sees_least p i last {x} some s =
    let shown : Digits p i (last + 1 - i) x = record { most = s.0.2; at = s.1 } in
    let a = digits_least (omega (arith, s.0.1)) some shown in
    record { from = a.from; below = omega (arith, s.0.0, a.below); holds = a.holds; first = a.first }
