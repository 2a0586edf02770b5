-- Laws of vectors, over size, start and scale.
-- Assumes nothing.
use Prim.Native.Nat.{ℕ, suc, ◌+◌, ◌-◌, ◌*◌, ◌/◌, ◌≤◌, ◌<◌, max}
use mathlib.Core.Path.{◌≡◌, refl, ◌∙◌}
use mathlib.Core.Bool.{Bool, true, false, cond, ◌&&◌}
use mathlib.Core.List.{List}
use native.Mathlib.Nat.{le_trans, suc-mul, le-div_iff_mul-le, div-lt_iff_lt-mul, div-mul-le_self}
use native.Mathlib.Omega.{arith}
use lib.Dec.{ltb}
use borrow.Author.Tests.{le-leb, lt-leb}
use Rattle.least.proofs.Laws.{NoneIn, LeastAt}
use Rattle.vectors.specs.declared.Settings.{Settings}
use Rattle.vectors.specs.Vectors.{applies, entry_at, entry_of, is_set, hits}
use Rattle.std.specs.Prelude.{Some, None}

-- a target is hit exactly if the entry that applies to it is set
pub hits_entry : (v : List ℕ) (g : Settings) (t : ℕ) {i : ℕ} → Some i ≡ entry_of g t → is_set v i ≡ hits v g t
unfolding entry_of hits
hits_entry v g t {i} = go (applies g t)
  where
    go : (b : Bool) → Some i ≡ cond b (Some (entry_at g t)) None → is_set v i ≡ (b && is_set v (entry_at g t))
    go true e = cc
    go false e = cc

pub misses_entry : (v : List ℕ) (g : Settings) (t : ℕ) → None ≡ entry_of g t → false ≡ hits v g t
unfolding entry_of hits
misses_entry v g t = go (applies g t)
  where
    go : (b : Bool) → None ≡ cond b (Some (entry_at g t)) None → false ≡ (b && is_set v (entry_at g t))
    go true e = cc
    go false e = refl

-- From the start on, whether a target is hit depends on its entry alone.
pub same_granule : (v : List ℕ) (g : Settings) (t u : ℕ) → g.start ≤ t → g.start ≤ u → entry_at g t ≡ entry_at g u → hits v g t ≡ hits v g u
unfolding hits
same_granule v g t u l k e = rw (le-leb g.start t l, le-leb g.start u k, e)

-- an entry that exists and is set
unfoldable pub entry_set : List ℕ → ℕ → ℕ → Bool
entry_set v size i = ltb i size && is_set v i

pub hits_from : (v : List ℕ) (g : Settings) (t : ℕ) → g.start ≤ t → hits v g t ≡ entry_set v g.size (entry_at g t)
unfolding hits entry_set
hits_from v g t l = rw (le-leb g.start t l)

pub hits_below : (v : List ℕ) (g : Settings) (t : ℕ) → t < g.start → hits v g t ≡ false
unfolding hits
hits_below v g t l = rw (lt-leb g.start t l)

-- The lowest target with a property that depends on the entry alone begins at the lowest entry that has it, or is where the search begins.
module _ (start gran : ℕ) (some : 0 < gran) (q s : ℕ → Bool) (same : (t : ℕ) → start ≤ t → q t ≡ s ((t - start) / gran)) where
  abbrev begins_at : ℕ → ℕ → ℕ
  begins_at f i = max f (start + i * gran)

  entry_mono : (f t : ℕ) → f ≤ t → (f - start) / gran ≤ (t - start) / gran
  entry_mono f t l =
      (le-div_iff_mul-le some).1 (le_trans (div-mul-le_self (f - start) gran) (omega arith))

  entry_begins : (f i : ℕ) → (f - start) / gran ≤ i → (begins_at f i - start) / gran ≡ i
  entry_begins f i l =
      let before : (f - start) / gran < suc i = omega arith in
      let near : f - start < suc i * gran = (div-lt_iff_lt-mul some).0 before in
      let next : suc i * gran ≡ i * gran + gran = suc-mul i gran in
      let most : (begins_at f i - start) / gran < suc i = (div-lt_iff_lt-mul some).1 (omega arith) in
      let least : i ≤ (begins_at f i - start) / gran = (le-div_iff_mul-le some).1 (omega arith) in
      omega arith

  entry_before : (f t i : ℕ) → f ≤ t → start ≤ f → t < begins_at f i → (t - start) / gran < i
  entry_before f t i l k h = (div-lt_iff_lt-mul some).1 (omega arith)

  pub grid_first : {f i last : ℕ} → start ≤ f → LeastAt s ((f - start) / gran) last i → NoneIn q f (begins_at f i)
  grid_first {f} {i} l a =
      record {
        none = λ t k h. same t (omega arith) ∙ a.first.none ((t - start) / gran) (entry_mono f t k) (entry_before f t i k l h);
      }

  pub grid_at : {f i last limit : ℕ} → start ≤ f → f < limit → start + i * gran < limit
      → LeastAt s ((f - start) / gran) last i → LeastAt q f limit (begins_at f i)
  grid_at {f} {i} l k h a =
      record {
        from = omega arith;
        below = omega arith;
        holds = same (begins_at f i) (omega arith) ∙ rw (entry_begins f i a.from) a.holds;
        first = grid_first l a;
      }

  pub grid_none : {f last limit : ℕ} → start ≤ f → limit ≤ start + last * gran → NoneIn s ((f - start) / gran) last → NoneIn q f limit
  grid_none {f} {last} {limit} l k a =
      record {
        none = λ t m h.
            same t (omega arith)
            ∙ a.none ((t - start) / gran) (entry_mono f t m) ((div-lt_iff_lt-mul some).1 (omega arith));
      }
