-- Tests of a number that no number passes together: own IDs and ranges.
use Prim.Native.Nat.{ℕ, ◌≤◌, ◌<◌}
use mathlib.Core.Bool.{Bool, true, false, not, ◌&&◌, ◌||◌, and-false}
use mathlib.Core.Path.{◌≡◌, refl}
use native.Mathlib.Omega.{arith}
use lib.Dec.{eqb, leb}
use borrow.Author.Tests.{eqb-true, leb-true, le-leb, lt-leb}
use Rattle.claims.specs.Decoders.{between}

-- where no number passes f and g together, and the one number o does not pass g, none is o or passes f and passes g
pub either_or : (o n : ℕ) (f g : ℕ → Bool) → g o ≡ false → (f n && g n) ≡ false → ((eqb o n || f n) && g n) ≡ false
either_or o n f g at-o none = go (eqb o n) refl
  where
    go : (same : Bool) → eqb o n ≡ same → ((same || f n) && g n) ≡ false
    go true e = rw (← eqb-true o n e) at-o
    go false e = none

pub just : (o n : ℕ) (g : ℕ → Bool) → g o ≡ false → (eqb o n && g n) ≡ false
just o n g at-o = go (eqb o n) refl
  where
    go : (same : Bool) → eqb o n ≡ same → (same && g n) ≡ false
    go true e = rw (← eqb-true o n e) at-o
    go false e = refl

-- a range whose start is above its end, two ranges apart, and one range within another
pub empty : (lo hi x : ℕ) → hi < lo → between lo hi x ≡ false
empty lo hi x order = go (leb lo x) refl
  where
    go : (a : Bool) → leb lo x ≡ a → (a && leb x hi) ≡ false
    go false e = refl
    go true e = lt-leb x hi (omega (arith, leb-true lo x e))

pub apart : (lo hi lo' hi' x : ℕ) → hi < lo' → (between lo hi x && between lo' hi' x) ≡ false
apart lo hi lo' hi' x order = go (leb lo x) (leb x hi) refl
  where
    go : (a b : Bool) → leb x hi ≡ b → ((a && b) && between lo' hi' x) ≡ false
    go false b e = refl
    go true false e = refl
    go true true e = rw (lt-leb lo' x (omega (arith, leb-true x hi e)))

pub within : (lo hi lo' hi' x : ℕ) → lo' ≤ lo → hi ≤ hi' → (between lo hi x && not (between lo' hi' x)) ≡ false
within lo hi lo' hi' x low high = go (leb lo x) (leb x hi) refl refl
  where
    go : (a b : Bool) → leb lo x ≡ a → leb x hi ≡ b → ((a && b) && not (between lo' hi' x)) ≡ false
    go false b d e = refl
    go true false d e = refl
    go true true d e =
        rw (le-leb lo' x (omega (arith, leb-true lo x d)), le-leb x hi' (omega (arith, leb-true x hi e)))

-- a number below a range is not in it
pub elsewhere : (lo hi s x : ℕ) (a b : Bool) → s < lo → (between lo hi x && (a && (b && eqb x s))) ≡ false
elsewhere lo hi s x a b order = go (eqb x s) refl
  where
    go : (same : Bool) → eqb x s ≡ same → (between lo hi x && (a && (b && same))) ≡ false
    go true e = rw (lt-leb lo x (omega (arith, eqb-true x s e)))
    go false e = rw (and-false b, and-false a, and-false (between lo hi x))

pub never_both : (b : Bool) → (b && not b) ≡ false
never_both true = refl
never_both false = refl
