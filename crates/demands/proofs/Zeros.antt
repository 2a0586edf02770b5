-- A vector of zeros has no entry that is set. Assumes nothing.
use Prim.Native.Nat.{ℕ, zero, suc, ◌/◌, ◌%◌}
use mathlib.Core.Bool.{false, and-false}
use mathlib.Core.Path.{◌≡◌, refl}
use native.Mathlib.Nat.{div-eq_of_lt}
use lib.ListN.{get_or}
use lib.Pow.{pow_pos}
use Rattle.vectors.specs.declared.Settings.{Settings}
use Rattle.vectors.specs.Vectors.{entry_at, applies, is_set, hits}
use Rattle.demands.specs.Worked.{zeros}

zero_at : (n i : ℕ) → get_or (zeros n) i 0 ≡ 0
unfolding zeros
zero_at zero i = refl
zero_at (suc n) zero = refl
zero_at (suc n) (suc i) = zero_at n i

pub clear : (n : ℕ) (g : Settings) (t : ℕ) → hits (zeros n) g t ≡ false
unfolding is_set hits
clear n g t = rw (zero_at n (entry_at g t / 8), div-eq_of_lt (pow_pos (entry_at g t % 8))) (and-false (applies g t))
