-- Laws of what a port reaches: the next of four, and the skips past what is reached.
-- Assumes nothing.
use Prim.Native.Nat.{ℕ, ◌^◌, ◌≤◌, ◌<◌}
use mathlib.Core.Path.{◌≡◌, refl, sym, ap, subst}
use mathlib.Core.Bool.{Bool, true, ◌||◌, or-true, or_assoc}
use mathlib.Core.List.{List}
use native.Mathlib.Nat.{le_trans, le_antisymm}
use borrow.Author.Tests.{not-true, not-false}
use Rattle.least.specs.Least.{first_in, soonest}
use Rattle.least.proofs.Laws.{impossible, NoneIn, Least, Within, of_range, is_at, at_is, none_is, none_join, none_within, either_first}
use Rattle.spans.specs.declared.Reach.{Reach}
use Rattle.spans.specs.Ranges.{in_range, out_of, onward}
use Rattle.spans.specs.Grids.{hit_in, missed_in}
use Rattle.spans.specs.Reaches.{on_ranges, on_grids, reaches, misses, skipped}
use Rattle.std.specs.Prelude.{Option, Some, None}

-- where a finding stands that no r was passed for, from `i` on
abbrev Passed : (ℕ → Bool) → ℕ → Option ℕ → Type 0
Passed r i (Some k) = (i ≤ k) × NoneIn r i k × (k < 2 ^ 64)
Passed r i None = NoneIn r i (2 ^ 64)

passed_first : (r p : ℕ → Bool) (i : ℕ) → Within r p → Passed r i (first_in p i (2 ^ 64))
passed_first r p i w = go (first_in p i (2 ^ 64)) (of_range p i (2 ^ 64))
  where
    go : (f : Option ℕ) → Least p i (2 ^ 64) f → Passed r i f
    go (Some k) a = (a.from, none_within w a.first, a.below)
    go None a = none_within w a

passed_on : (r p : ℕ → Bool) (i : ℕ) (f : Option ℕ) → Within r p → Passed r i f → Passed r i (onward p f)
passed_on r p i None w a = a
passed_on r p i (Some j) w a = go (first_in p j (2 ^ 64)) (passed_first r p j w)
  where
    go : (f : Option ℕ) → Passed r j f → Passed r i f
    go (Some k) b = (le_trans a.0 b.0, none_join a.1 b.1, b.2)
    go None b = none_join a.1 b

-- where the skip ends at `i` itself, it began there, and the test holds there
stayed : (r p : ℕ → Bool) (i : ℕ) (f : Option ℕ) → Passed r i f → Some i ≡ onward p f → (Some i ≡ f) × (p i ≡ true)
stayed r p i None a e = (cc, impossible (cc))
stayed r p i (Some j) a e =
    let b = is_at p j (2 ^ 64) e in
    let same : i ≡ j = le_antisymm a.0 b.from in
    (ap Some same, b.holds)

module _ (d : Reach) (v w : List ℕ) where
  -- on a range, or hit in the one grid
  abbrev with_one : ℕ → Bool
  with_one t = on_ranges d t || hit_in v d.one t

  either_range : (t : ℕ) → on_ranges d t ≡ (in_range d.first t || in_range d.second t)
  unfolding on_ranges
  either_range t = refl

  either_one : (t : ℕ) → with_one t ≡ (on_ranges d t || hit_in v d.one t)
  either_one t = refl

  either_other : (t : ℕ) → reaches d v w t ≡ (with_one t || hit_in w d.other t)
  unfolding reaches on_grids
  either_other t = sym (or_assoc (on_ranges d t) (hit_in v d.one t) (hit_in w d.other t))

  -- the soonest of the four
  pub reach_first : (from : ℕ)
      → soonest
      (soonest (soonest (first_in (in_range d.first) from (2 ^ 64)) (first_in (in_range d.second) from (2 ^ 64)))
      (first_in (hit_in v d.one) from (2 ^ 64)))
      (first_in (hit_in w d.other) from (2 ^ 64))
      ≡ first_in (reaches d v w) from (2 ^ 64)
  reach_first from =
      rw (
        either_first (in_range d.first) (in_range d.second) from (2 ^ 64) either_range,
        either_first {r = with_one} (on_ranges d) (hit_in v d.one) from (2 ^ 64) either_one,
      )
      (either_first with_one (hit_in w d.other) from (2 ^ 64) either_other)

  -- what lies in a range or is hit is reached
  within_first : Within (misses d v w) (out_of d.first)
  unfolding misses reaches on_ranges out_of
  within_first t e = rw (not-false (in_range d.first t) e)

  within_second : Within (misses d v w) (out_of d.second)
  unfolding misses reaches on_ranges out_of
  within_second t e = rw (not-false (in_range d.second t) e, or-true)

  within_one : Within (misses d v w) (missed_in v d.one)
  unfolding misses reaches on_grids missed_in
  within_one t e = rw (not-false (hit_in v d.one t) e, or-true)

  within_other : Within (misses d v w) (missed_in w d.other)
  unfolding misses reaches on_grids missed_in
  within_other t e = rw (not-false (hit_in w d.other t) e, or-true, or-true)

  none_reached : (t : ℕ) → out_of d.first t ≡ true → out_of d.second t ≡ true
      → missed_in v d.one t ≡ true → missed_in w d.other t ≡ true
      → misses d v w t ≡ true
  unfolding misses reaches on_ranges on_grids out_of missed_in
  none_reached t a b x y =
      rw (
        not-true (in_range d.first t) a,
        not-true (in_range d.second t) b,
        not-true (hit_in v d.one t) x,
        not-true (hit_in w d.other t) y,
      )

  -- a skip passes nothing but what is reached, and stays only at what is not
  module _ (i : ℕ) where
    abbrev past_first : Option ℕ
    past_first = first_in (out_of d.first) i (2 ^ 64)

    abbrev past_ranges : Option ℕ
    past_ranges = onward (out_of d.second) past_first

    abbrev past_one : Option ℕ
    past_one = onward (missed_in v d.one) past_ranges

    passed₁ : Passed (misses d v w) i past_first
    passed₁ = passed_first (misses d v w) (out_of d.first) i within_first

    passed₂ : Passed (misses d v w) i past_ranges
    passed₂ = passed_on (misses d v w) (out_of d.second) i past_first within_second passed₁

    passed₃ : Passed (misses d v w) i past_one
    passed₃ = passed_on (misses d v w) (missed_in v d.one) i past_ranges within_one passed₂

    passed : (f : Option ℕ) → f ≡ skipped d v w i → Passed (misses d v w) i f
    unfolding skipped
    passed f e =
        subst (Passed (misses d v w) i) (sym e)
        (passed_on (misses d v w) (missed_in w d.other) i past_one within_other passed₃)

    pub skip_at : {k : ℕ} → Some k ≡ skipped d v w i → (i ≤ k) × NoneIn (misses d v w) i k × (k < 2 ^ 64)
    skip_at {k} e = passed (Some k) e

    stays : Some i ≡ skipped d v w i → misses d v w i ≡ true
    unfolding skipped
    stays e =
        let y = stayed (misses d v w) (missed_in w d.other) i past_one passed₃ e in
        let x = stayed (misses d v w) (missed_in v d.one) i past_ranges passed₂ y.0 in
        let b = stayed (misses d v w) (out_of d.second) i past_first passed₁ x.0 in
        none_reached i (is_at (out_of d.first) i (2 ^ 64) b.0).holds b.1 x.1 y.1

    -- the search for what is not reached, which has come to `i`: it goes on, finds what it looks for, or finds that there is none
    module _ {from : ℕ} (came : (from ≤ i) × NoneIn (misses d v w) from i) where
      pub skip_more : {k : ℕ} → Some k ≡ skipped d v w i → (from ≤ k) × NoneIn (misses d v w) from k
      skip_more e = (le_trans came.0 (skip_at e).0, none_join came.1 (skip_at e).1)

      pub skip_found : {k : ℕ} → Some k ≡ skipped d v w i → k ≡ i → Some k ≡ first_in (misses d v w) from (2 ^ 64)
      skip_found {k} e same =
          at_is
          (record {
            from = (skip_more e).0;
            below = (skip_at e).2;
            holds = rw same (stays (rw same at e));
            first = (skip_more e).1;
          })

      pub skip_none : None ≡ skipped d v w i → None ≡ first_in (misses d v w) from (2 ^ 64)
      skip_none e = none_is (none_join came.1 (passed None e))
