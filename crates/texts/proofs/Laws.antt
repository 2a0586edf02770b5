-- Pieces put behind a text one after the other are their bytes put behind it at once; io's digits are the numbers of the lines.
-- Assumes nothing.
use Prim.Native.Nat.{ℕ, zero, suc, ◌+◌, ◌-◌, ◌/◌, ◌%◌, ◌^◌, ◌≤◌, ◌<◌, min, max}
use mathlib.Core.Bool.{Bool, true, false, cond}
use mathlib.Core.List.{List, [], ◌∷◌, ◌++◌, append_assoc, append-nil}
use mathlib.Core.Path.{◌≡◌, refl, ap, ◌∙◌}
use native.Mathlib.Decide.{dec_lt}
use native.Mathlib.Nat.{pow-succ', one-le-pow, pow-le-pow_right}
use native.Mathlib.Omega.{arith}
use borrow.Author.Tests.{lt-ltb, le-ltb, ltb-true, ltb-false}
use lib.Dec.{ltb}
use lib.ListN.{length, replicate, set, take, length-append, length-take}
use lib.Seq.{take_all, take-append-le}
use Rattle.std.specs.List.{fold}
use Rattle.ids.specs.declared.PortNo.{PortNo}
use Rattle.io.specs.Digits.{last_digits, hex_digit_ascii, IsDigitCount}
use Rattle.texts.specs.declared.Text.{Text}
use Rattle.texts.specs.Texts.{text_of, with_byte, appended, digits_up_to, decimal}
use Rattle.texts.specs.Lines.{spaced, each_spaced}

pub appended_append : (text : Text) (xs ys : List ℕ) → appended (appended text xs) ys ≡ appended text (xs ++ ys)
unfolding appended
appended_append text [] ys = refl
appended_append text (x ∷ xs) ys = appended_append (with_byte text x) xs ys

-- a store behind what is written
set_next : (xs : List ℕ) (n : ℕ) (b : ℕ) → set (xs ++ replicate (suc n) 0) (length xs) b ≡ xs ++ (b ∷ replicate n 0)
set_next [] n b = refl
set_next (x ∷ xs) n b = ap (λ (l : List ℕ). x ∷ l) (set_next xs n b)

with_room : (xs : List ℕ) (b : ℕ) → length xs < 192 → with_byte (text_of xs) b ≡ text_of (xs ++ (b ∷ []))
unfolding with_byte text_of
with_room xs b room =
    let long : length (xs ++ (b ∷ [])) ≡ length xs + 1 = length-append xs (b ∷ []) in
    let before : 192 - length xs ≡ suc (191 - length xs) = omega arith in
    let behind : 192 - length (xs ++ (b ∷ [])) ≡ 191 - length xs = omega arith in
    rw (
      take_all 192 xs (omega arith),
      lt-ltb (length xs) 192 room,
      take_all 192 (xs ++ (b ∷ [])) (omega arith),
      behind,
      before,
      set_next xs (191 - length xs) b,
      long,
      append_assoc,
    )

without_room : (xs : List ℕ) (b : ℕ) → 192 ≤ length xs → with_byte (text_of xs) b ≡ text_of (xs ++ (b ∷ []))
unfolding with_byte text_of
without_room xs b full =
    let long : length (xs ++ (b ∷ [])) ≡ length xs + 1 = length-append xs (b ∷ []) in
    let before : 192 - length xs ≡ 0 = omega arith in
    let behind : 192 - length (xs ++ (b ∷ [])) ≡ 0 = omega arith in
    rw (take-append-le 192 xs (b ∷ []) full, le-ltb (length (take 192 xs)) 192 (simp length-take (omega arith)), before, behind)

with_byte_text : (xs : List ℕ) (b : ℕ) → with_byte (text_of xs) b ≡ text_of (xs ++ (b ∷ []))
with_byte_text xs b = go (ltb (length xs) 192) refl
  where
    go : (room : Bool) → ltb (length xs) 192 ≡ room → with_byte (text_of xs) b ≡ text_of (xs ++ (b ∷ []))
    go true e = with_room xs b (ltb-true _ _ e)
    go false e = without_room xs b (ltb-false _ _ e)

pub appended_text : (xs ys : List ℕ) → appended (text_of xs) ys ≡ text_of (xs ++ ys)
unfolding appended
appended_text xs [] = rw append-nil
appended_text xs (y ∷ ys) = rw with_byte_text (appended_text (xs ++ (y ∷ [])) ys ∙ ap text_of (append_assoc xs (y ∷ []) ys))

-- a piece behind a piece, and behind a text that has begun
pub behind : (text : Text) (xs ys : List ℕ) {t r : Text} → t ≡ appended text xs → r ≡ appended t ys → r ≡ appended text (xs ++ ys)
behind text xs ys first then = then ∙ ap (λ (s : Text). appended s ys) first ∙ appended_append text xs ys

pub begun : (xs ys : List ℕ) {t r : Text} → t ≡ text_of xs → r ≡ appended t ys → r ≡ text_of (xs ++ ys)
begun xs ys first then = then ∙ ap (λ (s : Text). appended s ys) first ∙ appended_text xs ys

-- bytes put behind a text one after the other, and the numbers of ports
pub bytes_folded : (text : Text) (more : List ℕ) → fold (λ (t : Text) (b : ℕ). appended t (b ∷ [])) text more ≡ appended text more
unfolding appended
bytes_folded text [] = refl
bytes_folded text (b ∷ more) = bytes_folded (with_byte text b) more

pub ports_folded : (text : Text) (ports : List PortNo)
    → fold (λ (t : Text) (p : PortNo). appended t (spaced p.0)) text ports ≡ appended text (each_spaced ports)
unfolding appended each_spaced
ports_folded text [] = refl
ports_folded text (p ∷ ports) = ports_folded (appended text (spaced p.0)) ports ∙ appended_append text (spaced p.0) (each_spaced ports)

-- the fewest digits: those of a tenth, and one more
lead : (n j : ℕ) → IsDigitCount 10 1 n (suc j) → 0 < j → 10 ^ j ≤ n
lead n j few more = let e : suc j - 1 ≡ j = omega arith in rw e at (few.2 (omega arith))

single : (n j : ℕ) → IsDigitCount 10 1 n (suc j) → n < 10 → j ≡ 0
single n zero few small = refl
single n (suc i) few small = absurd (omega (arith, lead n (suc i) few (omega arith), pow-succ' 10 i, one-le-pow i 10 (omega arith)))

tenth : (n j : ℕ) → IsDigitCount 10 1 n (suc j) → 10 ≤ n → IsDigitCount 10 1 (n / 10) j
tenth n zero few large = absurd (omega (arith, few.1))
tenth n (suc i) few large =
    let e : suc i - 1 ≡ i = omega arith in (
      omega arith,
      omega (arith, few.1, pow-succ' 10 (suc i)),
      λ more. rw e (omega (arith, lead n (suc i) few (omega arith), pow-succ' 10 i)),
    )

front : (f j n : ℕ) → IsDigitCount 10 1 n (suc j) → (10 ≤ n → last_digits 10 j (n / 10) ≡ digits_up_to f (n / 10))
    → last_digits 10 j (n / 10) ≡ cond (ltb n 10) [] (digits_up_to f (n / 10))
front f j n few rest = go (ltb n 10) refl
  where
    go : (small : Bool) → ltb n 10 ≡ small → last_digits 10 j (n / 10) ≡ cond small [] (digits_up_to f (n / 10))
    go true e = ap (λ (k : ℕ). last_digits 10 k (n / 10)) (single n j few (ltb-true _ _ e))
    go false e = rest (ltb-false _ _ e)

digits_are : (f k n : ℕ) → IsDigitCount 10 1 n k → k ≤ f → last_digits 10 k n ≡ digits_up_to f n
unfolding digits_up_to
digits_are zero k n few l = absurd (omega (arith, few.0))
digits_are (suc f) zero n few l = absurd (omega (arith, few.0))
digits_are (suc f) (suc j) n few l =
    ap (λ (l : List ℕ). l ++ (hex_digit_ascii (n % 10) ∷ []))
    (front f j n few (λ large. digits_are f j (n / 10) (tenth n j few large) (omega arith)))

pub decimal_is : (k n : ℕ) → IsDigitCount 10 1 n k → n < 2 ^ 64 → last_digits 10 k n ≡ decimal n
unfolding decimal
decimal_is k n few small = digits_are 20 k n few (go (dec_lt 20 k))
  where
    go : Dec (20 < k) → k ≤ 20
    go (yes l) = absurd (omega (arith, few.2 (omega arith), pow-le-pow_right {n = 10} (omega arith) {i = 20} {j = k - 1} (omega arith)))
    go (no l) = omega arith

-- a number that so many digits hold has so many
pub hex_is : (k w n : ℕ) → IsDigitCount 16 (min (max w 1) 16) n k → 0 < w → w ≤ 16 → n < 16 ^ w → k ≡ w
hex_is k w n few some most fits = go (dec_lt w k)
  where
    go : Dec (w < k) → k ≡ w
    go (yes l) = absurd (omega (arith, few.2 (omega arith), pow-le-pow_right {n = 16} (omega arith) {i = w} {j = k - 1} (omega arith)))
    go (no l) = omega (arith, few.0)
