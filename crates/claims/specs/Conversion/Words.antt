-- The words of Conversion, from where they are defined.
pub use Rattle.std.specs.Prelude.{ℕ, ◌+◌, ◌/◌, ◌^◌, Bool, cond, ◌&&◌, ◌||◌, List, eqb}
pub use Rattle.ids.specs.declared.Target.{Target}
pub use Rattle.ids.specs.declared.Target.TheVariants.{Id, Addr}
pub use Rattle.ids.specs.Ids.{bus_of, device_of, unit_of}
pub use Rattle.chassis.specs.declared.Conversion.{Conversion}
pub use Rattle.chassis.specs.declared.Conversion.TheVariants.{NotClaimed, Type0, Type1, Unsupported}
pub use Rattle.chassis.specs.Tree.{upstream}
pub use Rattle.registers.specs.declared.Fpb.{Fpb}
pub use Rattle.registers.specs.declared.Port.{Port}
pub use Rattle.registers.specs.declared.Mechanism.{Mechanism}
pub use Rattle.registers.specs.declared.Mechanism.TheVariants.{Rid}
pub use Rattle.registers.specs.Vectors.{field, enabled_in}
pub use Rattle.registers.specs.Rules.{with_ari}
pub use Rattle.claims.specs.Decoders.{between, bus_claims, claims_target}
