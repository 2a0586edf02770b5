-- Laws of the search for the least target of two reaches: what each turn of it shows.
-- Assumes nothing.
use Prim.Native.Nat.{ℕ, ◌^◌, ◌≤◌, ◌<◌}
use mathlib.Core.Path.{◌≡◌, refl, sym, ◌∙◌, ap}
use mathlib.Core.Bool.{Bool, true, false, not, ◌&&◌, beq}
use mathlib.Core.List.{List}
use native.Mathlib.Omega.{arith}
use Rattle.least.specs.Least.{first_in, soonest, is_by}
use Rattle.least.proofs.Laws.{NoneIn, LeastAt, Within, is_at, is_none, at_is, none_is, none_join, none_within, leap_more, first_agree, soonest_nothing, best_by}
use Rattle.spans.specs.declared.Reach.{Reach}
use Rattle.spans.specs.Reaches.{reaches, misses}
use Rattle.search.specs.Search.{reaches_is, meets}
use Rattle.std.specs.Prelude.{Option, Some, None}

-- "as wanted" is reached, or not reached
module _ (d : Reach) (v w : List ℕ) (from : ℕ) where
  pub wanted : first_in (reaches d v w) from (2 ^ 64) ≡ first_in (reaches_is d v w true) from (2 ^ 64)
  unfolding reaches_is
  wanted = first_agree (λ t l h. go (reaches d v w t))
    where
      go : (b : Bool) → b ≡ beq b true
      go true = refl
      go false = refl

  pub unwanted : first_in (misses d v w) from (2 ^ 64) ≡ first_in (reaches_is d v w false) from (2 ^ 64)
  unfolding reaches_is misses
  unwanted = first_agree (λ t l h. go (reaches d v w t))
    where
      go : (b : Bool) → not b ≡ beq b false
      go true = refl
      go false = refl

zero_right : (b : Bool) → (b && false) ≡ false
zero_right true = refl
zero_right false = refl

module _ (a : Reach) (va wa : List ℕ) (b : Reach) (vb wb : List ℕ) (want : Bool) where
  abbrev Both : ℕ → Bool
  Both = meets a va wa b vb wb want

  within_a : Within Both (reaches a va wa)
  unfolding meets
  within_a t e = rw e

  within_b : Within Both (reaches_is b vb wb want)
  unfolding meets
  within_b t e = rw (e, zero_right)

  meets_both : (t : ℕ) → reaches a va wa t ≡ true → reaches_is b vb wb want t ≡ true → Both t ≡ true
  unfolding meets
  meets_both t x y = rw (x, y)

  -- the search has come to `i`
  module _ {i : ℕ} (came : NoneIn Both 0 i) where
    none_left : None ≡ first_in (reaches a va wa) i (2 ^ 64) → NoneIn Both 0 (2 ^ 64)
    none_left e = none_join came (none_within within_a (is_none (reaches a va wa) i (2 ^ 64) e))

    -- and a next reaches `j`
    module _ {j : ℕ} (left : Some j ≡ first_in (reaches a va wa) i (2 ^ 64)) where
      at_left : LeastAt (reaches a va wa) i (2 ^ 64) j
      at_left = is_at (reaches a va wa) i (2 ^ 64) left

      to_left : NoneIn Both 0 j
      to_left = none_join came (none_within within_a at_left.first)

      none_right : None ≡ first_in (reaches_is b vb wb want) j (2 ^ 64) → NoneIn Both 0 (2 ^ 64)
      none_right e = none_join to_left (none_within within_b (is_none (reaches_is b vb wb want) j (2 ^ 64) e))

      -- and from there b is next as wanted at `k`
      module _ {k : ℕ} (right : Some k ≡ first_in (reaches_is b vb wb want) j (2 ^ 64)) where
        at_right : LeastAt (reaches_is b vb wb want) j (2 ^ 64) k
        at_right = is_at (reaches_is b vb wb want) j (2 ^ 64) right

        pub further : (i ≤ j) × (j ≤ k) × (k < 2 ^ 64)
        further = (at_left.from, at_right.from, at_right.below)

        pub to_right : NoneIn Both 0 k
        to_right = leap_more within_a within_b came at_left at_right

        found : k ≡ j → Some k ≡ first_in Both 0 (2 ^ 64)
        found same =
            at_is
            (record {
              from = omega arith;
              below = at_right.below;
              holds = meets_both k (rw same at_left.holds) at_right.holds;
              first = to_right;
            })

  -- what is given back where the search ends
  module _ {i : ℕ} (best : Option ℕ) (came : NoneIn Both 0 i) where
    no_better : NoneIn Both 0 (2 ^ 64) → best ≡ soonest best (first_in Both 0 (2 ^ 64))
    no_better none = sym (soonest_nothing best) ∙ ap (soonest best) (none_is none)

    pub ends_left : None ≡ first_in (reaches a va wa) i (2 ^ 64) → best ≡ soonest best (first_in Both 0 (2 ^ 64))
    ends_left e = no_better (none_left came e)

    module _ {j : ℕ} (left : Some j ≡ first_in (reaches a va wa) i (2 ^ 64)) where
      pub ends_right : None ≡ first_in (reaches_is b vb wb want) j (2 ^ 64) → best ≡ soonest best (first_in Both 0 (2 ^ 64))
      ends_right e = no_better (none_right came left e)

      pub ends_found : {k : ℕ} → Some k ≡ first_in (reaches_is b vb wb want) j (2 ^ 64) → k ≡ j
          → soonest best (Some k) ≡ soonest best (first_in Both 0 (2 ^ 64))
      ends_found right same = ap (soonest best) (found came left right same)

      pub ends_best : is_by best j ≡ true → best ≡ soonest best (first_in Both 0 (2 ^ 64))
      ends_best e = best_by best (2 ^ 64) e (to_left came left)
