-- What two reaches have in common, or the first has alone.
use Rattle.std.specs.Prelude.{ℕ, Bool, ◌&&◌, List}
use Rattle.std.specs.Bool.{beq}
use Rattle.spans.specs.declared.Reach.{Reach}
use Rattle.spans.specs.Reaches.{reaches}

-- a target that is reached, or, where that is wanted, is not
unfoldable pub reaches_is : Reach → List ℕ → List ℕ → Bool → ℕ → Bool
reaches_is d v w want t = beq (reaches d v w t) want

-- a target that a reaches, and that b reaches or does not, as is wanted
unfoldable pub meets : Reach → List ℕ → List ℕ → Reach → List ℕ → List ℕ → Bool → ℕ → Bool
meets a va wa b vb wb want t = reaches a va wa t && reaches_is b vb wb want t
