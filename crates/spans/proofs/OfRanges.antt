-- Laws of ranges: where the next target in one, or out of it, lies.
-- Assumes nothing.
use Prim.Native.Nat.{ℕ, ◌+◌, ◌-◌, ◌^◌, ◌≤◌, ◌<◌, max}
use mathlib.Core.Path.{◌≡◌}
use mathlib.Core.Bool.{true, false, ◌&&◌}
use native.Mathlib.Decide.{dec_lt}
use native.Mathlib.Omega.{arith}
use lib.Dec.{leb}
use borrow.Author.Tests.{le-leb, lt-leb}
use Rattle.least.specs.Least.{first_in}
use Rattle.least.proofs.Laws.{NoneIn, at_is, none_is, here_at}
use Rattle.spans.specs.declared.ranges.Range.{Range}
use Rattle.spans.specs.Ranges.{in_range, out_of}
use Rattle.std.specs.Prelude.{Some, None}

module _ (r : Range) where
  inside : (t : ℕ) → r.lo ≤ t → t ≤ r.hi → in_range r t ≡ true
  unfolding in_range
  inside t l h = rw (le-leb r.lo t l, le-leb t r.hi h)

  pub below : (t : ℕ) → t < r.lo → in_range r t ≡ false
  unfolding in_range
  below t l = rw (lt-leb r.lo t l)

  pub above : (t : ℕ) → r.hi < t → in_range r t ≡ false
  unfolding in_range
  above t h = go (dec_lt t r.lo)
    where
      go : Dec (t < r.lo) → (leb r.lo t && leb t r.hi) ≡ false
      go (yes l) = rw (lt-leb r.lo t l)
      go (no l) = rw (le-leb r.lo t (omega arith), lt-leb t r.hi h)

  out_inside : (t : ℕ) → r.lo ≤ t → t ≤ r.hi → out_of r t ≡ false
  unfolding out_of
  out_inside t l h = rw (inside t l h)

  out_below : (t : ℕ) → t < r.lo → out_of r t ≡ true
  unfolding out_of
  out_below t l = rw (below t l)

  out_above : (t : ℕ) → r.hi < t → out_of r t ≡ true
  unfolding out_of
  out_above t h = rw (above t h)

  module _ (from : ℕ) where
    before_in : NoneIn (in_range r) from (max from r.lo)
    before_in = record { none = λ t l h. below t (omega arith) }

    pub in_at : max from r.lo ≤ r.hi → r.hi < 2 ^ 64 → Some (max from r.lo) ≡ first_in (in_range r) from (2 ^ 64)
    in_at h k =
        at_is (record { from = omega arith; below = omega arith; holds = inside (max from r.lo) (omega arith) h; first = before_in })

    pub in_none : r.hi < max from r.lo → None ≡ first_in (in_range r) from (2 ^ 64)
    in_none h = none_is (record { none = λ t l k. go t l (dec_lt t r.lo) })
      where
        go : (t : ℕ) → from ≤ t → Dec (t < r.lo) → in_range r t ≡ false
        go t l (yes b) = below t b
        go t l (no b) = above t (omega arith)

    pub out_at_once : from < 2 ^ 64 → from < r.lo → Some from ≡ first_in (out_of r) from (2 ^ 64)
    out_at_once k l = (here_at (out_of r) k).1 (out_below from l)

    pub out_already : from < 2 ^ 64 → r.hi < from → Some from ≡ first_in (out_of r) from (2 ^ 64)
    out_already k h = (here_at (out_of r) k).1 (out_above from h)

    pub out_next : r.lo ≤ from → from ≤ r.hi → r.hi + 1 < 2 ^ 64 → Some (r.hi + 1) ≡ first_in (out_of r) from (2 ^ 64)
    out_next l h k =
        at_is
        (record {
          from = omega arith;
          below = k;
          holds = out_above (r.hi + 1) (omega arith);
          first = record { none = λ t m n. out_inside t (omega arith) (omega arith) };
        })

    pub out_never : r.lo ≤ from → r.hi ≡ 2 ^ 64 - 1 → None ≡ first_in (out_of r) from (2 ^ 64)
    out_never l e = none_is (record { none = λ t m n. out_inside t (omega arith) (omega arith) })
