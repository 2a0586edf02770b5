-- Facts about numbers and about where records lie, in either edition. Assumes nothing.
use mathlib.Core.Bool.{Bool, true, false, cond}
use mathlib.Core.Path.{◌≡◌, ◌∙◌}
use Prim.Native.Nat.{ℕ, suc, ◌+◌, ◌*◌, ◌<◌, ◌≤◌, ◌^◌, ◌%◌}
use native.Mathlib.Nat.{mod-eq_of_lt}
use native.Mathlib.Omega.{arith}
use lib.Dec.{eqb}
use lib.Pow.{pow_mono, pow-lt}
use Rattle.registers.specs.declared.Fpb.{Fpb}
use Rattle.registers.specs.declared.Mechanism.{Mechanism}
use Rattle.registers.specs.Record.{record_bytes, record_at}
use Rattle.registers.specs.Vectors.{vector_bytes}

-- a size of 256 entries, doubled at most seven times, is at most 32,768 and not cut off at 64 bits
pub size_small : (code : ℕ) → code < 8 → 256 * 2 ^ code ≤ 32768
size_small code small = let doubled : 2 ^ code ≤ 2 ^ 7 = pow_mono {j = 7} (omega arith) in omega arith

pub size_whole : (code : ℕ) → code < 8 → 256 * 2 ^ code % 2 ^ 64 ≡ 256 * 2 ^ code
size_whole code small = mod-eq_of_lt (omega (arith, size_small code small))

-- nor is the number of targets that an entry stands for
pub granule_whole : (scale : ℕ) → scale < 64 → 1 * 2 ^ scale % 2 ^ 64 ≡ 2 ^ scale
granule_whole scale small = mod-eq_of_lt (let whole : 2 ^ scale < 2 ^ 64 = pow-lt {j = 64} small in omega arith) ∙ omega arith

-- the sizes of a port's vectors hang on Capabilities alone
pub sizes_same : (f g : Fpb) → f.capabilities ≡ g.capabilities → (m : Mechanism) → vector_bytes f m ≡ vector_bytes g m
unfolding vector_bytes
sizes_same f g same m = rw same

-- a record has 56 bytes at least, and the next one follows it
pub record_least : (edition : ℕ) → 56 ≤ record_bytes edition
record_least edition = go (eqb edition 2)
  where
    go : (b : Bool) → 56 ≤ cond b 60 56
    go true = omega arith
    go false = omega arith

pub record_next : (edition p : ℕ) → record_at edition (suc p) ≡ record_at edition p + record_bytes edition
unfolding record_at
record_next edition p = go (eqb edition 2)
  where
    go : (b : Bool) → 16 + cond b 60 56 * suc p ≡ 16 + cond b 60 56 * p + cond b 60 56
    go true = omega arith
    go false = omega arith

-- records come in order behind the header
pub record_mono : (edition p q : ℕ) → p ≤ q → record_at edition p ≤ record_at edition q
unfolding record_at
record_mono edition p q l = go (eqb edition 2)
  where
    go : (b : Bool) → 16 + cond b 60 56 * p ≤ 16 + cond b 60 56 * q
    go true = omega arith
    go false = omega arith

pub record_behind : (edition p : ℕ) → 16 ≤ record_at edition p
unfolding record_at
record_behind edition p = omega arith

-- and are not far behind it
pub record_small : (edition p : ℕ) → p < 2 ^ 16 → record_at edition p < 2 ^ 22
unfolding record_at
record_small edition p l = go (eqb edition 2)
  where
    go : (b : Bool) → 16 + cond b 60 56 * p < 2 ^ 22
    go true = omega arith
    go false = omega arith
