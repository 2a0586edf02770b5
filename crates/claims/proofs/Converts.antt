-- What a port makes of a configuration request, by what it claims: a port that claims an ID makes something of a request for it, and it
-- takes what it claims of its Secondary range, with RID decoding enabled, and of its bus Secondary. Assumes nothing.
use Prim.Native.Nat.{ℕ}
use mathlib.Core.Bool.{Bool, true, false, cond, ◌&&◌, ◌||◌}
use mathlib.Core.List.{List}
use mathlib.Core.Path.{◌≡◌, refl}
use lib.Dec.{eqb}
use Rattle.ids.specs.declared.Rid.{Rid}
use Rattle.ids.specs.declared.Target.TheVariants.{Id}
use Rattle.ids.specs.Ids.{bus_of, device_of}
use Rattle.chassis.specs.declared.Conversion.{Conversion}
use Rattle.chassis.specs.declared.Conversion.TheVariants.{NotClaimed, Type0, Type1, Unsupported}
use Rattle.chassis.specs.Check.{takes}
use Rattle.chassis.specs.Tree.{upstream}
use Rattle.chassis.proofs.Bools.{never_both_values}
use Rattle.registers.specs.declared.Port.{Port}
use Rattle.registers.specs.declared.Mechanism.{Mechanism}
use Rattle.registers.specs.declared.Mechanism.TheVariants.{Rid as Mechanism-as-Rid}
use Rattle.registers.specs.Record.{port_at}
use Rattle.registers.specs.Rules.{with_ari}
use Rattle.registers.specs.Vectors.{enabled_in}
use Rattle.claims.specs.Decoders.{bus_claims, claims_target}
use Rattle.claims.specs.Claims.{chassis_with}
use Rattle.claims.specs.Conversion.{in_secondary_range, converted_by_bus, converted}

-- the conversion by its tests: the port claims the ID, it is in the Secondary range, on the bus Secondary, and not refused there
abbrev by : Bool → Bool → Bool → Bool → Conversion
by claimed range bus kept = cond claimed (cond range Type0 (cond bus (cond kept Type0 Unsupported) Type1)) NotClaimed

something : Conversion → Bool
something NotClaimed = false
something Type0 = true
something Type1 = true
something Unsupported = true

by_something : (claimed range bus kept : Bool) → claimed ≡ something (by claimed range bus kept)
unfolding something
by_something false range bus kept = refl
by_something true true bus kept = refl
by_something true false true true = refl
by_something true false true false = refl
by_something true false false kept = refl

by_taken : (claimed range bus kept : Bool) → takes (by claimed range bus kept) ≡ (claimed && (range || bus))
by_taken false range bus kept = refl
by_taken true true bus kept = refl
by_taken true false true true = refl
by_taken true false true false = refl
by_taken true false false kept = refl

module _ (p : Port) (vector : Mechanism → List ℕ) (rid : ℕ) where
  claimed_converts : claims_target p vector (Id (record { 0 = rid })) ≡ something (converted p vector rid)
  unfolding converted converted_by_bus
  claimed_converts =
      by_something (claims_target p vector (Id (record { 0 = rid }))) (enabled_in p.fpb Mechanism-as-Rid && in_secondary_range p rid)
      (bus_claims p.bridge rid && eqb (bus_of rid) p.bridge.secondary) (eqb p.kind upstream || with_ari p || eqb (device_of rid) 0)

  pub takes_what : takes (converted p vector rid)
      ≡ (claims_target p vector (Id (record { 0 = rid }))
      && (enabled_in p.fpb Mechanism-as-Rid && in_secondary_range p rid || bus_claims p.bridge rid && eqb (bus_of rid) p.bridge.secondary))
  unfolding converted converted_by_bus
  takes_what =
      by_taken (claims_target p vector (Id (record { 0 = rid }))) (enabled_in p.fpb Mechanism-as-Rid && in_secondary_range p rid)
      (bus_claims p.bridge rid && eqb (bus_of rid) p.bridge.secondary) (eqb p.kind upstream || with_ari p || eqb (device_of rid) 0)

pub converts : (s : List ℕ) (vector : ℕ → Mechanism → List ℕ) (q : ℕ) (rid : Rid)
    → (chassis_with s vector).claims q (Id rid) ≡ true → (chassis_with s vector).conversion q (Id rid) ≡ NotClaimed → ⊥
unfolding something
converts s vector q rid claimed none =
    never_both_values (claims_target (port_at s q) (vector q) (Id rid)) claimed
    (rw none at (claimed_converts (port_at s q) (vector q) rid.0))
