-- Laws of grids: from the lowest entry that is set, or clear, to the lowest target that is hit, or missed.
-- Assumes nothing.
use Prim.Native.Nat.{ℕ, suc, ◌+◌, ◌-◌, ◌*◌, ◌/◌, ◌^◌, ◌≤◌, ◌<◌, max}
use mathlib.Core.Path.{◌≡◌, refl, sym, ap, ◌∙◌}
use mathlib.Core.Bool.{Bool, true, false, not, cond, ◌&&◌, ◌||◌, beq}
use mathlib.Core.List.{List}
use native.Mathlib.Decide.{dec_le, dec_lt}
use native.Mathlib.Nat.{le_refl, le-div_iff_mul-le, div-lt_iff_lt-mul}
use native.Mathlib.Omega.{arith}
use lib.Dec.{leb, ltb}
use lib.Pow.{pow_pos, shr_mono}
use borrow.Author.Tests.{le-leb, lt-leb, lt-ltb, le-ltb}
use Rattle.least.specs.Least.{first_in, soonest, is_by}
use Rattle.least.proofs.Laws.{NoneIn, LeastAt, Least, of_range, least_is, at_is, none_is, is_at, is_none, none_part, first_above, here_at, either_first, best_by, none_empty, none_join, soonest_nothing}
use Rattle.vectors.specs.declared.Settings.{Settings}
use Rattle.vectors.specs.Vectors.{entry_at, is_set, entry_is, hits}
use Rattle.vectors.proofs.Laws.{entry_set, hits_from, hits_below, grid_first, grid_at, grid_none}
use Rattle.spans.specs.declared.grids.Grid.{Grid}
use Rattle.spans.specs.Ranges.{in_range, out_of}
use Rattle.spans.specs.Grids.{hit_in, missed_in, unset, begins_from, clipped}
use Rattle.spans.proofs.OfRanges.{below, above}
use Rattle.std.specs.Prelude.{Option, Some, None}

zero_right : (a : Bool) → (a && false) ≡ false
zero_right true = refl
zero_right false = refl

de_morgan : (a b : Bool) → not (a && b) ≡ (not a || not b)
de_morgan true b = refl
de_morgan false b = refl

-- the last entry that begins at a target, and where it begins
module _ (s : Settings) (i : ℕ) (fits : s.start < 2 ^ 64) where
  pub begins_below : i ≤ (2 ^ 64 - 1 - s.start) / 2 ^ s.scale → s.start + i * 2 ^ s.scale < 2 ^ 64
  begins_below l = omega (arith, (le-div_iff_mul-le (pow_pos s.scale)).0 l)

  begins_past : (2 ^ 64 - 1 - s.start) / 2 ^ s.scale < i → 2 ^ 64 ≤ s.start + i * 2 ^ s.scale
  begins_past l = omega (arith, (div-lt_iff_lt-mul (pow_pos s.scale)).0 l)

-- the lowest target of the lowest entry
module _ (s : Settings) (fits : s.start < 2 ^ 64) (q e : ℕ → Bool) (same : (t : ℕ) → s.start ≤ t → q t ≡ e (entry_at s t)) where
  begins : {f i last : ℕ} → s.start ≤ f → f < 2 ^ 64 → LeastAt e (entry_at s f) last i → begins_from s f i ≡ first_in q f (2 ^ 64)
  unfolding begins_from
  begins {f} {i} l k a = go (dec_lt ((2 ^ 64 - 1 - s.start) / 2 ^ s.scale) i)
    where
      go : Dec ((2 ^ 64 - 1 - s.start) / 2 ^ s.scale < i)
          → cond (ltb ((2 ^ 64 - 1 - s.start) / 2 ^ s.scale) i) None (Some (max f (s.start + i * 2 ^ s.scale))) ≡ first_in q f (2 ^ 64)
      go (yes p) =
          rw (lt-ltb _ _ p)
          (none_is
          (none_part (le_refl f) (omega (arith, begins_past s i fits p)) (grid_first s.start (2 ^ s.scale) (pow_pos s.scale) q e same l a)))
      go (no p) =
          let h : i ≤ (2 ^ 64 - 1 - s.start) / 2 ^ s.scale = omega arith in
          rw (le-ltb _ _ h)
          (at_is (grid_at s.start (2 ^ s.scale) (pow_pos s.scale) q e same l k (begins_below s i fits h) a))

-- the next set entry leads to the next hit
module _ (v : List ℕ) (s : Settings) where
  set_is : (i : ℕ) → i < s.size → entry_set v s.size i ≡ entry_is v true i
  unfolding entry_set entry_is
  set_is i l = rw (lt-ltb i s.size l) (go (is_set v i))
    where
      go : (b : Bool) → b ≡ beq b true
      go true = refl
      go false = refl

  set_past : (i : ℕ) → s.size ≤ i → entry_set v s.size i ≡ false
  unfolding entry_set
  set_past i l = rw (le-ltb i s.size l)

  set_least : {lo i : ℕ} → LeastAt (entry_is v true) lo s.size i → LeastAt (entry_set v s.size) lo s.size i
  set_least {lo} {i} a =
      record {
        from = a.from;
        below = a.below;
        holds = set_is i a.below ∙ a.holds;
        first = record { none = λ j l h. set_is j (omega (arith, a.below)) ∙ a.first.none j l h };
      }

  set_none : {lo : ℕ} → NoneIn (entry_is v true) lo s.size → (i : ℕ) → lo ≤ i → entry_set v s.size i ≡ false
  set_none {lo} a i l = go (dec_lt i s.size)
    where
      go : Dec (i < s.size) → entry_set v s.size i ≡ false
      go (yes h) = set_is i h ∙ a.none i l h
      go (no h) = set_past i (omega arith)

  module _ (from : ℕ) where
    before_hit : NoneIn (hits v s) from (max from s.start)
    before_hit = record { none = λ t l h. hits_below v s t (omega arith) }

    pub hit_at : {i : ℕ} → s.start < 2 ^ 64 → from < 2 ^ 64
        → Some i ≡ first_in (entry_is v true) (entry_at s (max from s.start)) s.size
        → begins_from s (max from s.start) i ≡ first_in (hits v s) from (2 ^ 64)
    hit_at fits k e =
        begins s fits (hits v s) (entry_set v s.size) (hits_from v s) (omega arith) (omega arith) (set_least (is_at _ _ _ e))
        ∙ first_above (2 ^ 64) (omega arith) before_hit

    pub hit_none : None ≡ first_in (entry_is v true) (entry_at s (max from s.start)) s.size
        → None ≡ first_in (hits v s) from (2 ^ 64)
    hit_none e =
        let beyond : 2 ^ 64 ≤ s.start + 2 ^ 64 * 2 ^ s.scale = omega (arith, pow_pos s.scale) in
        none_is
        (none_join before_hit
        (grid_none s.start (2 ^ s.scale) (pow_pos s.scale) (hits v s) (entry_set v s.size) (hits_from v s) (omega arith) beyond
        (record { none = λ i l h. set_none (is_none _ _ _ e) i l })))

-- the next clear entry, or the first past the vector, leads to the next miss
abbrev entry_clear : List ℕ → ℕ → ℕ → Bool
entry_clear v size i = not (entry_set v size i)

module _ (v : List ℕ) (s : Settings) where
  unset_from : (t : ℕ) → s.start ≤ t → unset v s t ≡ entry_clear v s.size (entry_at s t)
  unfolding unset
  unset_from t l = rw (hits_from v s t l)

  unset_below : (t : ℕ) → t < s.start → unset v s t ≡ true
  unfolding unset
  unset_below t l = rw (hits_below v s t l)

  pub miss_below : (from : ℕ) → from < 2 ^ 64 → from < s.start → Some from ≡ first_in (unset v s) from (2 ^ 64)
  miss_below from k l = (here_at (unset v s) k).1 (unset_below from l)

  clear_is : (i : ℕ) → i < s.size → entry_clear v s.size i ≡ entry_is v false i
  unfolding entry_set entry_is
  clear_is i l = rw (lt-ltb i s.size l) (go (is_set v i))
    where
      go : (b : Bool) → not b ≡ beq b false
      go true = refl
      go false = refl

  clear_past : (i : ℕ) → s.size ≤ i → entry_clear v s.size i ≡ true
  clear_past i l = rw (set_past v s i l)

  clear_none : {lo : ℕ} → NoneIn (entry_is v false) lo s.size → NoneIn (entry_clear v s.size) lo s.size
  clear_none a = record { none = λ i l h. clear_is i h ∙ a.none i l h }

  module _ (from : ℕ) (l : s.start ≤ from) (fits : s.start < 2 ^ 64) (k : from < 2 ^ 64) where
    pub miss_at : {i : ℕ} → Some i ≡ first_in (entry_is v false) (entry_at s from) s.size → begins_from s from i ≡ first_in (unset v s) from (2 ^ 64)
    miss_at {i} e =
        let a = is_at _ _ _ e in
        begins s fits (unset v s) (entry_clear v s.size) unset_from l k
        (record {
          from = a.from;
          below = a.below;
          holds = clear_is i a.below ∙ a.holds;
          first = record { none = λ j m h. clear_is j (omega (arith, a.below)) ∙ a.first.none j m h };
        })

    past_end : s.size ≤ entry_at s from → begins_from s from s.size ≡ first_in (unset v s) from (2 ^ 64)
    unfolding begins_from
    past_end h =
        let most : entry_at s from ≤ (2 ^ 64 - 1 - s.start) / 2 ^ s.scale = shr_mono s.scale (omega arith) in
        let before : s.size * 2 ^ s.scale ≤ from - s.start = (le-div_iff_mul-le (pow_pos s.scale)).0 h in
        let here : max from (s.start + s.size * 2 ^ s.scale) ≡ from = omega arith in
        rw (le-ltb ((2 ^ 64 - 1 - s.start) / 2 ^ s.scale) s.size (omega arith), here)
        ((here_at (unset v s) k).1 (unset_from from l ∙ clear_past (entry_at s from) h))

    pub miss_end : None ≡ first_in (entry_is v false) (entry_at s from) s.size → begins_from s from s.size ≡ first_in (unset v s) from (2 ^ 64)
    miss_end e = go (dec_le s.size (entry_at s from))
      where
        go : Dec (s.size ≤ entry_at s from) → begins_from s from s.size ≡ first_in (unset v s) from (2 ^ 64)
        go (yes h) = past_end h
        go (no h) =
            begins s fits (unset v s) (entry_clear v s.size) unset_from l k
            (record {
              from = omega arith;
              below = le_refl (suc s.size);
              holds = clear_past s.size (le_refl s.size);
              first = clear_none (is_none _ _ _ e);
            })

-- a finding that is cut off above `hi`
clip_first : (p q : ℕ → Bool) (from hi : ℕ) → ((t : ℕ) → from ≤ t → q t ≡ (leb t hi && p t))
    → clipped (first_in p from (2 ^ 64)) hi ≡ first_in q from (2 ^ 64)
unfolding clipped
clip_first p q from hi and = least_is q from (2 ^ 64) (clipped (first_in p from (2 ^ 64)) hi) (go (first_in p from (2 ^ 64)) (of_range p from (2 ^ 64)))
  where
    fails : (t : ℕ) → from ≤ t → p t ≡ false → q t ≡ false
    fails t l e = and t l ∙ rw e (zero_right (leb t hi))

    cut : (t : ℕ) → from ≤ t → hi < t → q t ≡ false
    cut t l h = and t l ∙ rw (lt-leb t hi h)

    at : (n : ℕ) → LeastAt p from (2 ^ 64) n → Dec (n ≤ hi) → Least q from (2 ^ 64) (cond (leb n hi) (Some n) None)
    at n a (yes h) =
        rw (le-leb n hi h)
        (record {
          from = a.from;
          below = a.below;
          holds = and n a.from ∙ rw (le-leb n hi h, a.holds);
          first = record { none = λ t l m. fails t l (a.first.none t l m) };
        })
    at n a (no h) = rw (lt-leb n hi (omega arith)) (record { none = λ t l m. after t l (dec_lt t n) })
      where
        after : (t : ℕ) → from ≤ t → Dec (t < n) → q t ≡ false
        after t l (yes b) = fails t l (a.first.none t l b)
        after t l (no b) = cut t l (omega arith)

    go : (f : Option ℕ) → Least p from (2 ^ 64) f → Least q from (2 ^ 64) (clipped f hi)
    go (Some n) a = at n a (dec_le n hi)
    go None a = record { none = λ t l m. fails t l (a.none t l m) }

-- within the range, and out of it
module _ (v : List ℕ) (g : Grid) (from : ℕ) where
  hit_within : (t : ℕ) → g.within.lo ≤ t → hit_in v g t ≡ (leb t g.within.hi && hits v g.settings t)
  unfolding hit_in in_range
  hit_within t l = rw (le-leb g.within.lo t l)

  hit_outside : (t : ℕ) → in_range g.within t ≡ false → hit_in v g t ≡ false
  unfolding hit_in
  hit_outside t e = rw e

  before_within : NoneIn (hit_in v g) from (max from g.within.lo)
  unfolding hit_in
  before_within = record { none = λ t l h. rw (below g.within t (omega arith)) }

  -- the best so far comes no later than the range, or than where the search begins
  pub hit_in_best : (best : Option ℕ) → is_by best (max from g.within.lo) ≡ true → best ≡ soonest best (first_in (hit_in v g) from (2 ^ 64))
  hit_in_best best e = best_by best (2 ^ 64) e before_within

  -- the search begins past the range
  pub hit_in_past : (best : Option ℕ) → g.within.hi < max from g.within.lo → best ≡ soonest best (first_in (hit_in v g) from (2 ^ 64))
  hit_in_past best past = sym (soonest_nothing best) ∙ ap (soonest best) (none_is (record { none = λ t l h. out t l (dec_lt t g.within.lo) }))
    where
      out : (t : ℕ) → from ≤ t → Dec (t < g.within.lo) → hit_in v g t ≡ false
      out t l (yes b) = hit_outside t (below g.within t b)
      out t l (no b) = hit_outside t (above g.within t (omega arith))

  pub hit_in_lem : clipped (first_in (hits v g.settings) (max from g.within.lo) (2 ^ 64)) g.within.hi ≡ first_in (hit_in v g) from (2 ^ 64)
  hit_in_lem =
      clip_first (hits v g.settings) (hit_in v g) (max from g.within.lo) g.within.hi (λ t l. hit_within t (omega arith))
      ∙ first_above (2 ^ 64) (omega arith) before_within

  missed_or : (t : ℕ) → missed_in v g t ≡ (out_of g.within t || unset v g.settings t)
  unfolding missed_in hit_in out_of unset
  missed_or t = de_morgan (in_range g.within t) (hits v g.settings t)

  pub miss_in : soonest (first_in (out_of g.within) from (2 ^ 64)) (first_in (unset v g.settings) from (2 ^ 64)) ≡ first_in (missed_in v g) from (2 ^ 64)
  miss_in = either_first _ _ from (2 ^ 64) missed_or

  -- out of the range where the search begins
  pub miss_in_out : is_by (first_in (out_of g.within) from (2 ^ 64)) from ≡ true
      → first_in (out_of g.within) from (2 ^ 64) ≡ first_in (missed_in v g) from (2 ^ 64)
  miss_in_out e = best_by (first_in (out_of g.within) from (2 ^ 64)) (2 ^ 64) e (none_empty {p = unset v g.settings} (le_refl from)) ∙ miss_in
