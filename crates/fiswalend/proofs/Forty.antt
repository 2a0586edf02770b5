-- The answer buffer: what a copy of 40 bytes leaves of it. Assumes nothing.
use Prim.Native.Nat.{ℕ, ◌<◌, ◌≤◌}
use mathlib.Core.Bool.{true, false}
use mathlib.Core.List.{List, ◌++◌}
use mathlib.Core.Path.{◌≡◌, sym, ◌∙◌}
use native.Mathlib.Omega.{arith}
use borrow.Author.Tests.{lt-ltb, le-ltb}
use lib.ListN.{length, take, drop}
use lib.Seq.{take_all}
use Rattle.std.proofs.lemmas.List.{length-take-le}
use Rattle.fiswalend.specs.Calls.{too_short}

pub under_40 : (before : List ℕ) → length before < 40 → too_short before ≡ true
unfolding too_short
under_40 before l = lt-ltb (length before) 40 l

pub has_40 : (before : List ℕ) → 40 ≤ length before → too_short before ≡ false
unfolding too_short
has_40 before l = le-ltb (length before) 40 l

-- 40 bytes are written and the rest kept
pub copied_40 : (forty before after : List ℕ) → length forty ≡ 40 → after ≡ take (length forty) forty ++ drop (length forty) before
    → after ≡ forty ++ drop 40 before
copied_40 forty before after whole copied = rw (whole, take_all 40 forty (omega arith)) at copied

-- the first 40 bytes of a buffer that has them are as many as are written
pub fits_40 : (forty before : List ℕ) → length forty ≡ 40 → 40 ≤ length before → length (take 40 before) ≡ length forty
fits_40 forty before whole there = length-take-le 40 before there ∙ sym whole
