-- What the rows of a patch say, one after the other.
-- Assumes nothing.
use Prim.Native.Nat.{ℕ, zero, suc, ◌+◌, ◌-◌, ◌<◌}
use mathlib.Core.Bool.{true, false}
use mathlib.Core.List.{List}
use mathlib.Core.Path.{◌≡◌, sym}
use native.Mathlib.Numerals.{add-one}
use native.Mathlib.Omega.{arith}
use borrow.Author.Tests.{eq-eqb, ne_eqb}
use lib.Dec.{leb}
use Rattle.chassis.specs.Tree.{any_below}
use Rattle.chassis.proofs.Ports.{any_below_at}
use Rattle.patches.specs.Patch.{ports_in, port_in, offset_at, running_in, not_rising, port_misplaced, ports_misplaced, offset_misplaced, vectors_misplaced}

-- whether a row's port rises above that of the row before
pub rising_at : (patch : List ℕ) (i : ℕ) → 0 < i → not_rising patch i ≡ leb (port_in patch i) (port_in patch (i - 1))
unfolding not_rising
rising_at patch zero l = absurd (omega arith)
rising_at patch (suc i) l = let e : suc i - 1 ≡ i = omega arith in rw e

-- number 31 at a row
pub port_wrong : (n : ℕ) (patch : List ℕ) (i : ℕ) → i < ports_in patch → port_misplaced n patch i ≡ true → true ≡ ports_misplaced n patch
unfolding ports_misplaced
port_wrong n patch i l e = sym (any_below_at (port_misplaced n patch) (ports_in patch) i l e)

-- number 32 at a row, and at the end alone
module _ (s patch : List ℕ) (offset i : ℕ) (at : offset ≡ running_in s patch i) where
  pub offset_wrong_lem : i < ports_in patch → (offset_at patch i ≡ offset → ⊥) → true ≡ vectors_misplaced s patch
  unfolding vectors_misplaced offset_misplaced
  offset_wrong_lem l differs =
      rw (any_below_at (offset_misplaced s patch) (ports_in patch) i l (rw (← at, ne_eqb (offset_at patch i) offset differs)))

  pub offset_kept : any_below (offset_misplaced s patch) i ≡ false → offset_at patch i ≡ offset → any_below (offset_misplaced s patch) (i + 1) ≡ false
  unfolding any_below offset_misplaced
  offset_kept none same = rw (add-one, none, ← at, eq-eqb (offset_at patch i) offset same)
