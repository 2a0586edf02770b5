-- In a picture of edition 1 nothing is redirected. Assumes nothing.
use Prim.Native.Nat.{ℕ}
use mathlib.Core.Bool.{Bool, false}
use mathlib.Core.List.{List}
use mathlib.Core.Path.{◌≡◌, refl, ap}
use Rattle.ids.specs.declared.Target.TheVariants.{Id, Addr}
use Rattle.chassis.specs.declared.Packet.{Packet}
use Rattle.chassis.specs.declared.Packet.TheVariants.{Plain, Config}
use Rattle.chassis.specs.Walk.{come_to, is_redirected, starts_at}
use Rattle.registers.specs.Record.{edition_of, port_at}
use Rattle.registers.specs.Rules.{with_redirect}
use Rattle.claims.specs.Claims.{chassis_of}

module _ (s : List ℕ) (first : edition_of s ≡ 1) (start : ℕ) where
  no_redirect : with_redirect (port_at s start) ≡ false
  unfolding with_redirect port_at
  no_redirect = rw first

  direct : (packet : Packet) → is_redirected (chassis_of s) packet start ≡ false
  unfolding is_redirected
  direct (Plain (Addr a)) = rw no_redirect
  direct (Plain (Id rid)) = refl
  direct (Config rid) = refl

  pub edition_1_direct : (packet : Packet) → starts_at (chassis_of s) packet start ≡ come_to false start
  edition_1_direct packet = ap (λ (redirected : Bool). come_to redirected start) (direct packet)
