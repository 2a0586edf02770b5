-- A least target is one of its space, and rows looked at one after the other are the first that is not clear. Assumes nothing.
use Prim.Native.Nat.{ℕ, ◌<◌}
use mathlib.Core.Bool.{Bool}
use mathlib.Core.Path.{◌≡◌, refl}
use Rattle.ids.specs.declared.Space.{Space}
use Rattle.ids.specs.declared.Target.{Target}
use Rattle.least.proofs.Laws.{is_at}
use Rattle.chassis.specs.declared.Verdict.{Verdict}
use Rattle.chassis.specs.declared.Verdict.TheVariants.{Clear, Shared, Stray, Lost, Taken}
use Rattle.chassis.specs.Chassis.{space_size}
use Rattle.chassis.specs.Check.{test_in, least_target, or_next}
use Rattle.chassis.specs.Check.{lost_at}
use Rattle.ids.specs.declared.PortNo.{PortNo}
use Rattle.std.specs.Prelude.{Option, Some, None}
use mathlib.Core.Path.{ap}

module _ (test : Target → Bool) (space : Space) {t : ℕ} (e : Some t ≡ least_target test space) where
  pub target_below : t < space_size space
  target_below = (is_at (test_in test space) 0 (space_size space) e).below

-- what is said of the port that is found
pub lost_some : {found : Option ℕ} (p : PortNo) → Some p.0 ≡ found → Lost p ≡ lost_at found
lost_some p e = ap lost_at e

pub lost_none : {found : Option ℕ} → None ≡ found → Clear ≡ lost_at found
lost_none e = ap lost_at e

next_assoc : (a b c : Verdict) → or_next (or_next a b) c ≡ or_next a (or_next b c)
unfolding or_next
next_assoc Clear b c = refl
next_assoc (Shared t p q) b c = refl
next_assoc (Stray t p) b c = refl
next_assoc (Lost p) b c = refl
next_assoc (Taken t p) b c = refl

next_clear : (a : Verdict) → or_next a Clear ≡ a
unfolding or_next
next_clear Clear = refl
next_clear (Shared t p q) = refl
next_clear (Stray t p) = refl
next_clear (Lost p) = refl
next_clear (Taken t p) = refl

-- six rows, the last with nothing behind it
pub rows_chained : (a b c d e f : Verdict)
    → or_next (or_next (or_next (or_next (or_next a b) c) d) e) f ≡ or_next a (or_next b (or_next c (or_next d (or_next e (or_next f Clear)))))
rows_chained a b c d e f = simp (next_assoc, next_clear)
