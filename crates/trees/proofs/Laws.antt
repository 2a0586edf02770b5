-- A climb that has come to the root stays there.
-- Assumes nothing.
use Prim.Native.Nat.{ℕ, zero, suc, ◌<◌, ◌≤◌}
use mathlib.Core.Path.{◌≡◌, sym, ◌∙◌}
use mathlib.Core.Bool.{false, not}
use lib.Dec.{eqb}
use native.Mathlib.Decide.{dec_lt}
use native.Mathlib.Omega.{arith}
use Rattle.chassis.specs.Tree.{Tree, root, one_above, above, chain_too_long}

pub above_stays : (tree : Tree) (p k n : ℕ) → k ≤ n → above tree k p ≡ root → above tree n p ≡ root
unfolding above one_above
above_stays tree p k zero l e = let same : k ≡ 0 = omega arith in rw same at e
above_stays tree p k (suc n) l e = go (above_stays tree p k n) (dec_lt n k)
  where
    go : (k ≤ n → above tree k p ≡ root → above tree n p ≡ root) → Dec (n < k) → one_above tree (above tree n p) ≡ root
    go lower (yes m) = let same : k ≡ suc n = omega arith in rw same at e
    go lower (no m) = rw (lower (omega arith) e)

-- a climb that comes to the root within 16 steps, and what one of 16 steps says
pub climbed : (tree : Tree) (p k q : ℕ) → q ≡ above tree k p → k ≤ 16 → q ≡ root → false ≡ chain_too_long tree p
unfolding chain_too_long
climbed tree p k q at few top = rw (above_stays tree p k 16 few (sym at ∙ top))

pub climbed_all : (tree : Tree) (p k q : ℕ) → q ≡ above tree k p → k ≤ 16 → 16 ≤ k → not (eqb q root) ≡ chain_too_long tree p
unfolding chain_too_long
climbed_all tree p k q at few all = let same : k ≡ 16 = omega arith in rw (at, same)
