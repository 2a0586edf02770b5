-- What is so of a call that is not refused with 16. Assumes nothing.
use Prim.Native.Nat.{ℕ, ◌<◌, ◌^◌}
use mathlib.Core.Bool.{false, ◌||◌}
use mathlib.Core.Path.{◌≡◌}
use native.Mathlib.Omega.{arith}
use lib.Dec.{leb, ltb}
use borrow.Author.Tests.{leb-false, ne_eqb}
use Rattle.chassis.proofs.Bools.{or_false_parts}
use Rattle.judge.specs.Asking.{id_too_large}
use Rattle.judge.specs.Claiming.{claim_asked_wrongly}
use Rattle.judge.specs.Converting.{convert_asked_wrongly}

-- an ID that is not too large has 16 bits
pub id_small : (kind target : ℕ) → (kind ≡ 1 → ⊥) → id_too_large kind target ≡ false → target < 2 ^ 16
unfolding id_too_large
id_small kind target other fits = leb-false (2 ^ 16) target (rw (ne_eqb kind 1 other) at fits)

module _ (count port kind target : ℕ) (right : claim_asked_wrongly count port kind target ≡ false) where
  parts : ((leb count port || ltb 1 kind) ≡ false) × (id_too_large kind target ≡ false)
  unfolding claim_asked_wrongly
  parts = or_false_parts (leb count port || ltb 1 kind) (id_too_large kind target) right

  pub claim_port : port < count
  claim_port = leb-false count port (or_false_parts (leb count port) (ltb 1 kind) parts.0).0

  pub claim_target : id_too_large kind target ≡ false
  claim_target = parts.1

-- the conversion's port and ID are there
pub convert_fits : (count port target : ℕ) → convert_asked_wrongly count port target ≡ false → (port < count) × (target < 2 ^ 16)
unfolding convert_asked_wrongly
convert_fits count port target right =
    let parts = or_false_parts (leb count port) (id_too_large 0 target) right in
    (leb-false count port parts.0, id_small 0 target (λ (e : 0 ≡ 1). omega (arith, e)) parts.1)
