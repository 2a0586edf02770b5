-- Port and part of a change as one number.
-- Assumes nothing.
use Prim.Native.Nat.{ℕ, ◌+◌, ◌*◌, ◌<◌, ◌^◌}
use mathlib.Core.Bool.{Bool, true, false, ◌&&◌}
use mathlib.Core.Path.{◌≡◌, refl}
use native.Mathlib.Omega.{arith}
use borrow.Author.Tests.{eqb-true, eqb-false}
use lib.Dec.{eqb}

-- two such numbers are the same exactly if the ports are, which have 32 bits, and the parts are
pub same_owner : (p q a b : ℕ) → p < 2 ^ 32 → a < 2 ^ 32 → eqb (p + 4294967296 * q) (a + 4294967296 * b) ≡ (eqb p a && eqb q b)
same_owner p q a b small few = go (eqb (p + 4294967296 * q) (a + 4294967296 * b)) refl (eqb p a) refl (eqb q b) refl
  where
    both : p + 4294967296 * q ≡ a + 4294967296 * b → (p ≡ a) × (q ≡ b)
    both e = (omega (arith, small, few, e), omega (arith, small, few, e))

    go : (x : Bool) → eqb (p + 4294967296 * q) (a + 4294967296 * b) ≡ x → (y : Bool) → eqb p a ≡ y → (z : Bool) → eqb q b ≡ z → x ≡ (y && z)
    go true ex true ey true ez = refl
    go true ex false ey z ez = absurd (eqb-false p a ey (both (eqb-true _ _ ex)).0)
    go true ex true ey false ez = absurd (eqb-false q b ez (both (eqb-true _ _ ex)).1)
    go false ex true ey true ez = absurd (eqb-false _ _ ex (rw (eqb-true p a ey, eqb-true q b ez) refl))
    go false ex false ey z ez = refl
    go false ex true ey false ez = refl
