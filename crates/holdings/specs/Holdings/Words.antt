-- The words of Holdings, from where they are defined.
pub use Rattle.std.specs.Prelude.{ℕ, ◌+◌, ◌-◌, ◌*◌, ◌^◌, ◌<◌, Bool, false, not, cond, ◌&&◌, eqb}
pub use Rattle.ids.specs.declared.Space.{Space}
pub use Rattle.ids.specs.declared.Space.TheVariants.{Ids, Addresses}
pub use Rattle.chassis.specs.Chassis.{space_size}
pub use Rattle.registers.specs.declared.Bridge.{Bridge}
pub use Rattle.registers.specs.declared.Fpb.{Fpb}
pub use Rattle.registers.specs.declared.Port.{Port}
pub use Rattle.registers.specs.declared.Mechanism.{Mechanism}
pub use Rattle.registers.specs.declared.Mechanism.TheVariants.{Rid, Low, High}
pub use Rattle.registers.specs.Vectors.{enabled_in, settings_of}
pub use Rattle.claims.specs.Decoders.{base_of, limit_of, upper_of, memory_space_enabled}
pub use Rattle.spans.specs.declared.Reach.{Reach}
pub use Rattle.spans.specs.declared.grids.Grid.{Grid}
pub use Rattle.spans.specs.declared.ranges.Range.{Range}
