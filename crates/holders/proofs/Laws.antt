-- A loop over all ports has tried them all. Assumes nothing.
use Prim.Native.Nat.{ℕ, ◌≤◌}
use mathlib.Core.Bool.{Bool}
use mathlib.Core.Path.{◌≡◌, ap, ◌∙◌}
use native.Mathlib.Omega.{arith}
use Rattle.chassis.specs.declared.Holders.{Holders}
use Rattle.chassis.specs.Chassis.{lowest_two}

pub all_tried : (test : ℕ → Bool) {found : Holders} {p n count : ℕ} → found ≡ lowest_two test p → p ≤ n → n ≤ p → n ≡ count → found ≡ lowest_two test count
all_tried test {p = p} {count = count} e below above same =
    let end : p ≡ count = omega arith in
    e ∙ ap (lowest_two test) end
