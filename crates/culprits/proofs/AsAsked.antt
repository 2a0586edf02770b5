-- Number 18 asked alike of IDs and addresses: no port makes anything of an address. Assumes nothing.
use Prim.Native.Nat.{ℕ}
use mathlib.Core.Bool.{not, ◌&&◌}
use mathlib.Core.List.{List}
use mathlib.Core.Path.{◌≡◌, refl}
use lib.Dec.{eqb}
use Rattle.ids.specs.declared.Target.{Target}
use Rattle.ids.specs.declared.Target.TheVariants.{Id, Addr}
use Rattle.chassis.specs.Check.{takes, taken_at}
use Rattle.chassis.specs.Tree.{root_port}
use Rattle.claims.specs.Over.{chassis_over}

pub taken_as_asked : (s patch : List ℕ) (t : Target) (p : ℕ)
    → (not (eqb ((chassis_over s patch).tree.kind p) root_port)
    && (chassis_over s patch).claims p t
    && takes ((chassis_over s patch).conversion ((chassis_over s patch).tree.parent p) t))
    ≡ taken_at (chassis_over s patch) t p
unfolding taken_at
taken_as_asked s patch (Id rid) p = refl
taken_as_asked s patch (Addr a) p = refl
