-- Laws of tests joined by "and" and "or". Assumes nothing.
use mathlib.Core.Bool.{Bool, true, false, ◌&&◌, ◌||◌}
use mathlib.Core.Path.{◌≡◌, refl}

pub and_swap : (a b c : Bool) → (a && (b && c)) ≡ (b && (a && c))
and_swap true true c = refl
and_swap true false c = refl
and_swap false true c = refl
and_swap false false c = refl

-- what is claimed in one of two ways, or is its own
pub either_way : (claims : Bool) (own x y : Bool) → ((claims && x || own) || (claims && y || false)) ≡ (own || claims && (x || y))
either_way false true x y = refl
either_way false false x y = refl
either_way true true true y = refl
either_way true true false y = refl
either_way true false true y = refl
either_way true false false true = refl
either_way true false false false = refl

-- what is claimed in one of four ways
pub four_ways : (on a b x y : Bool) → ((on && a || on && b) || (on && x || on && y)) ≡ (on && (a || b || x || y))
four_ways false a b x y = refl
four_ways true true b x y = refl
four_ways true false true x y = refl
four_ways true false false x y = refl
