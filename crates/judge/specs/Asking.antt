-- What the calls that ask of a target share: its kind and its number, each passed whole.
use Rattle.std.specs.Prelude.{ℕ, ◌^◌, Bool, not, cond, ◌&&◌, eqb, leb}
use Rattle.ids.specs.declared.Target.{Target}
use Rattle.ids.specs.declared.Target.TheVariants.{Id, Addr}

-- "0 ID, 1 address"
unfoldable pub target_asked : ℕ → ℕ → Target
target_asked kind target = cond (eqb kind 1) (Addr target) (Id (record { 0 = target }))

-- 16: "an ID over FFFFh"
unfoldable pub id_too_large : ℕ → ℕ → Bool
id_too_large kind target = not (eqb kind 1) && leb (2 ^ 16) target
