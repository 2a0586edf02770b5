-- The port that a search among the ports comes to. Assumes nothing.
use Rattle.std.proofs.Common.{ℕ, ◌≡◌, refl, ap, ◌∙◌}
use Rattle.std.specs.Prelude.{Option, Some, None, unwrap_or}
use Rattle.ids.specs.declared.PortNo.{PortNo}
use Rattle.ids.specs.Ids.{no_port}
use Rattle.chassis.specs.Check.{found}
use Rattle.chassis.specs.Looking.{number_in}

-- by its number it is the one that is named
pub by_number : (r : Option PortNo) {f : Option ℕ} → number_in r ≡ f → unwrap_or r no_port ≡ found f
by_number r e = same r ∙ ap found e
  where
    same : (r : Option PortNo) → unwrap_or r no_port ≡ found (number_in r)
    same None = refl
    same (Some p) = refl
