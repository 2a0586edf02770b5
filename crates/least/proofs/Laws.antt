-- Laws of the lowest number with a property. `first_in` stays shut in all but the first three, so none of them runs it.
-- Assumes nothing.
use Prim.Native.Nat.{ℕ, zero, suc, ◌+◌, ◌-◌, ◌≤◌, ◌<◌}
use mathlib.Core.Path.{◌≡◌, refl, sym, ◌∙◌, subst}
use mathlib.Core.Bool.{Bool, true, false, cond, ◌||◌}
use mathlib.Core.Logic.{◌↔◌}
use native.Mathlib.Decide.{dec_le, dec_lt}
use native.Mathlib.Nat.{le_refl}
use native.Mathlib.Omega.{arith}
use lib.Dec.{leb}
use borrow.Author.Tests.{le-leb, lt-leb, leb-true}
use Rattle.least.specs.Least.{first_of, first_in, soonest, is_by}
use Rattle.std.specs.Prelude.{Option, Some, None}

-- no number from `lo` on and below `hi` passes
pub record NoneIn (p : ℕ → Bool) (lo hi : ℕ) : Type 0 where
  pub none : (i : ℕ) → lo ≤ i → i < hi → p i ≡ false

-- `n` is the lowest number from `lo` on and below `hi` that passes
pub record LeastAt (p : ℕ → Bool) (lo hi n : ℕ) : Type 0 where
  pub from : lo ≤ n
  pub below : n < hi
  pub holds : p n ≡ true
  pub first : NoneIn p lo n

-- what a finding says of the numbers from `lo` on and below `hi`
abbrev pub Least : (ℕ → Bool) → ℕ → ℕ → Option ℕ → Type 0
Least p lo hi (Some n) = LeastAt p lo hi n
Least p lo hi None = NoneIn p lo hi

-- what `cc` finds where two constructors would be equal, and nothing that follows from it is so
pub impossible {ℓ} : {A : Type ℓ} → ◌≡◌ {A = ℕ} 0 1 → A
impossible z = absurd (omega arith)

not_both : {b : Bool} → b ≡ true → b ≡ false → ⊥
not_both t f = impossible (cc)

-- Where there is nothing to look at, where two stretches meet, and one number more.
pub none_empty : {p : ℕ → Bool} {lo hi : ℕ} → hi ≤ lo → NoneIn p lo hi
none_empty h = record { none = λ i l k. absurd (omega arith) }

pub none_join : {p : ℕ → Bool} {lo mid hi : ℕ} → NoneIn p lo mid → NoneIn p mid hi → NoneIn p lo hi
none_join {p} {lo} {mid} {hi} a b = record { none = λ i l h. go i l h (dec_lt i mid) }
  where
    go : (i : ℕ) → lo ≤ i → i < hi → Dec (i < mid) → p i ≡ false
    go i l h (yes k) = a.none i l k
    go i l h (no k) = b.none i (omega arith) h

pub none_here : {p : ℕ → Bool} {i : ℕ} → p i ≡ false → NoneIn p i (suc i)
none_here {p} {i} e = record { none = λ j l h. let same : i ≡ j = omega arith in subst (λ (n : ℕ). p n ≡ false) same e }

pub none_part : {p : ℕ → Bool} {lo hi lo' hi' : ℕ} → lo ≤ lo' → hi' ≤ hi → NoneIn p lo hi → NoneIn p lo' hi'
none_part l h a = record { none = λ i m k. a.none i (omega arith) (omega arith) }

-- The definition, met from the inside: by induction over how many numbers are looked at.
module _ (p : ℕ → Bool) where
  widen : (lo count : ℕ) (f : Option ℕ) → p lo ≡ false → Least p (suc lo) (suc lo + count) f → Least p lo (lo + suc count) f
  widen lo count (Some n) e a =
      record { from = omega (arith, a.from); below = omega (arith, a.below); holds = a.holds; first = none_join (none_here e) a.first }
  widen lo count None e a = none_join (none_here e) (none_part (le_refl _) (omega arith) a)

  of_count : (lo count : ℕ) → Least p lo (lo + count) (first_of p lo count)
  unfolding first_of
  of_count lo zero = none_empty (omega arith)
  of_count lo (suc count) = go (p lo) refl (of_count (suc lo) count)
    where
      go : (b : Bool) → p lo ≡ b → Least p (suc lo) (suc lo + count) (first_of p (suc lo) count)
          → Least p lo (lo + suc count) (cond b (Some lo) (first_of p (suc lo) count))
      go true e a = record { from = le_refl lo; below = omega arith; holds = e; first = none_empty (le_refl lo) }
      go false e a = widen lo count (first_of p (suc lo) count) e a

  -- `first_in` is the least
  pub of_range : (lo hi : ℕ) → Least p lo hi (first_in p lo hi)
  unfolding first_in first_of
  of_range lo hi = go (dec_le lo hi)
    where
      go : Dec (lo ≤ hi) → Least p lo hi (first_of p lo (hi - lo))
      go (yes l) =
          let e : lo + (hi - lo) ≡ hi = omega arith in
          subst (λ (n : ℕ). Least p lo n (first_of p lo (hi - lo))) e (of_count lo (hi - lo))
      go (no l) =
          let e : 0 ≡ hi - lo = omega arith in
          subst (λ (n : ℕ). Least p lo hi (first_of p lo n)) e (none_empty (omega arith))

  -- there is one least at most
  one_least : (lo hi : ℕ) (f g : Option ℕ) → Least p lo hi f → Least p lo hi g → f ≡ g
  one_least lo hi (Some m) (Some n) a b = go (dec_lt m n) (dec_lt n m)
    where
      go : Dec (m < n) → Dec (n < m) → Some m ≡ Some n
      go (yes l) _ = absurd (not_both a.holds (b.first.none m a.from l))
      go (no l) (yes k) = absurd (not_both b.holds (a.first.none n b.from k))
      go (no l) (no k) = let e : m ≡ n = omega arith in cc
  one_least lo hi (Some m) None a b = absurd (not_both a.holds (b.none m a.from a.below))
  one_least lo hi None (Some n) a b = absurd (not_both b.holds (a.none n b.from b.below))
  one_least lo hi None None a b = refl

-- A finding is the least exactly if it is `first_in`.
pub least_is : (p : ℕ → Bool) (lo hi : ℕ) (f : Option ℕ) → Least p lo hi f → f ≡ first_in p lo hi
least_is p lo hi f a = one_least p lo hi f (first_in p lo hi) a (of_range p lo hi)

pub is_least : (p : ℕ → Bool) (lo hi : ℕ) {f : Option ℕ} → f ≡ first_in p lo hi → Least p lo hi f
is_least p lo hi e = subst (Least p lo hi) (sym e) (of_range p lo hi)

-- the same for each of the two findings
pub at_is : {p : ℕ → Bool} {lo hi n : ℕ} → LeastAt p lo hi n → Some n ≡ first_in p lo hi
at_is {p} {lo} {hi} {n} a = least_is p lo hi (Some n) a

pub none_is : {p : ℕ → Bool} {lo hi : ℕ} → NoneIn p lo hi → None ≡ first_in p lo hi
none_is {p} {lo} {hi} a = least_is p lo hi None a

pub is_at : (p : ℕ → Bool) (lo hi : ℕ) {n : ℕ} → Some n ≡ first_in p lo hi → LeastAt p lo hi n
is_at p lo hi e = is_least p lo hi e

pub is_none : (p : ℕ → Bool) (lo hi : ℕ) → None ≡ first_in p lo hi → NoneIn p lo hi
is_none p lo hi e = is_least p lo hi e

-- What one test rules out, another does: whatever fails p fails r.
abbrev pub Within : (ℕ → Bool) → (ℕ → Bool) → Type 0
Within r p = (t : ℕ) → p t ≡ false → r t ≡ false

pub none_within : {r p : ℕ → Bool} {lo hi : ℕ} → Within r p → NoneIn p lo hi → NoneIn r lo hi
none_within w a = record { none = λ i l h. w i (a.none i l h) }

-- a loop that has tried `i` and goes on to the code's i + 1
pub none_more : {p : ℕ → Bool} {lo i : ℕ} → NoneIn p lo i → p i ≡ false → NoneIn p lo (i + 1)
none_more {p} {lo} {i} a e = none_join a (none_part (le_refl i) (omega arith) (none_here e))

-- a leap from `i` over what fails p, and on over what fails q
pub leap_more : {r p q : ℕ → Bool} {lo hi i j k : ℕ} → Within r p → Within r q → NoneIn r lo i
    → LeastAt p i hi j → LeastAt q j hi k → NoneIn r lo k
leap_more wp wq none a b = none_join none (none_join (none_within wp a.first) (none_within wq b.first))

-- A lower bound of the search may be passed over what fails, and its upper bound brought down to it.
pub first_above : {p : ℕ → Bool} {lo mid : ℕ} (hi : ℕ) → lo ≤ mid → NoneIn p lo mid → first_in p mid hi ≡ first_in p lo hi
first_above {p} {lo} {mid} hi l none = least_is p lo hi (first_in p mid hi) (go (first_in p mid hi) (of_range p mid hi))
  where
    go : (f : Option ℕ) → Least p mid hi f → Least p lo hi f
    go (Some n) a = record { from = omega (arith, a.from); below = a.below; holds = a.holds; first = none_join none a.first }
    go None a = none_join none a

pub first_below : {p : ℕ → Bool} (lo : ℕ) {mid hi : ℕ} → mid ≤ hi → NoneIn p mid hi → first_in p lo mid ≡ first_in p lo hi
first_below {p} lo {mid} {hi} l none = least_is p lo hi (first_in p lo mid) (go (first_in p lo mid) (of_range p lo mid))
  where
    go : (f : Option ℕ) → Least p lo mid f → Least p lo hi f
    go (Some n) a = record { from = a.from; below = omega (arith, a.below); holds = a.holds; first = a.first }
    go None a = none_join a none

-- two tests that agree on the range
pub first_agree : {p q : ℕ → Bool} {lo hi : ℕ} → ((t : ℕ) → lo ≤ t → t < hi → p t ≡ q t) → first_in p lo hi ≡ first_in q lo hi
first_agree {p} {q} {lo} {hi} same = least_is q lo hi (first_in p lo hi) (go (first_in p lo hi) (of_range p lo hi))
  where
    go : (f : Option ℕ) → Least p lo hi f → Least q lo hi f
    go (Some n) a =
        record {
          from = a.from;
          below = a.below;
          holds = sym (same n a.from a.below) ∙ a.holds;
          first = record { none = λ i l h. sym (same i l (omega (arith, a.below))) ∙ a.first.none i l h };
        }
    go None a = record { none = λ i l h. sym (same i l h) ∙ a.none i l h }

-- the search from t finds t exactly if the test holds there
pub here_at : (p : ℕ → Bool) {t hi : ℕ} → t < hi → (Some t ≡ first_in p t hi) ↔ (p t ≡ true)
here_at p {t} {hi} h =
    (λ e. (is_at p t hi e).holds, λ e. at_is (record { from = le_refl t; below = h; holds = e; first = none_empty (le_refl t) }))

-- The sooner of two findings is the first that passes either test.
pub soonest_nothing : (f : Option ℕ) → soonest f None ≡ f
soonest_nothing (Some n) = refl
soonest_nothing None = refl

pub either_first : {r : ℕ → Bool} (p q : ℕ → Bool) (lo hi : ℕ) → ((t : ℕ) → r t ≡ (p t || q t))
    → soonest (first_in p lo hi) (first_in q lo hi) ≡ first_in r lo hi
either_first {r} p q lo hi or =
    least_is r lo hi (soonest (first_in p lo hi) (first_in q lo hi)) (go (first_in p lo hi) (first_in q lo hi) (of_range p lo hi) (of_range q lo hi))
  where
    by_left : (t : ℕ) → p t ≡ true → r t ≡ true
    by_left t e = or t ∙ rw e

    by_right : (t : ℕ) (b : Bool) → p t ≡ b → q t ≡ true → r t ≡ true
    by_right t true f e = by_left t f
    by_right t false f e = or t ∙ rw (f, e)

    by_none : (t : ℕ) → p t ≡ false → q t ≡ false → r t ≡ false
    by_none t f e = or t ∙ rw (f, e)

    none_either : {n : ℕ} → NoneIn p lo n → NoneIn q lo n → NoneIn r lo n
    none_either a b = record { none = λ i l h. by_none i (a.none i l h) (b.none i l h) }

    two : (m n : ℕ) (c : Dec (m ≤ n)) → LeastAt p lo hi m → LeastAt q lo hi n → Least r lo hi (cond (leb m n) (Some m) (Some n))
    two m n (yes l) a b =
        rw (le-leb m n l)
        (record {
          from = a.from;
          below = a.below;
          holds = by_left m a.holds;
          first = none_either a.first (none_part (le_refl lo) l b.first);
        })
    two m n (no l) a b =
        rw (lt-leb m n (omega arith))
        (record {
          from = b.from;
          below = b.below;
          holds = by_right n (p n) refl b.holds;
          first = none_either (none_part (le_refl lo) (omega arith) a.first) b.first;
        })

    go : (f g : Option ℕ) → Least p lo hi f → Least q lo hi g → Least r lo hi (soonest f g)
    go None None a b = none_either a b
    go None (Some n) a b =
        record {
          from = b.from;
          below = b.below;
          holds = by_right n (p n) refl b.holds;
          first = none_either (none_part (le_refl lo) (omega (arith, b.below)) a) b.first;
        }
    go (Some m) None a b =
        record {
          from = a.from;
          below = a.below;
          holds = by_left m a.holds;
          first = none_either a.first (none_part (le_refl lo) (omega (arith, a.below)) b);
        }
    go (Some m) (Some n) a b = two m n (dec_le m n) a b

-- A best so far that the search has come to, or that lies before what it could still find, stays.
pub best_stays : {p : ℕ → Bool} {lo b : ℕ} (hi : ℕ) → NoneIn p lo b → soonest (Some b) (first_in p lo hi) ≡ Some b
best_stays {p} {lo} {b} hi none = go (first_in p lo hi) (of_range p lo hi)
  where
    go : (f : Option ℕ) → Least p lo hi f → soonest (Some b) f ≡ Some b
    go None a = refl
    go (Some n) a = after (dec_le b n)
      where
        after : Dec (b ≤ n) → cond (leb b n) (Some b) (Some n) ≡ Some b
        after (yes l) = rw (le-leb b n l)
        after (no l) = absurd (not_both a.holds (none.none n a.from (omega arith)))

pub best_by : {p : ℕ → Bool} {lo n : ℕ} (best : Option ℕ) (hi : ℕ) → is_by best n ≡ true → NoneIn p lo n → best ≡ soonest best (first_in p lo hi)
unfolding is_by
best_by (Some b) hi e none = sym (best_stays hi (none_part (le_refl _) (leb-true b _ e) none))
best_by None hi e none = impossible (cc)
