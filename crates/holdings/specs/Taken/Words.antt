-- The words of Taken, from where they are defined.
pub use Rattle.std.specs.Prelude.{ℕ, ◌+◌, ◌-◌, ◌*◌, ◌/◌, ◌^◌, min, max, Bool, true, false, not, cond, ◌&&◌, eqb, leb}
pub use Rattle.ids.specs.declared.Space.{Space}
pub use Rattle.ids.specs.declared.Space.TheVariants.{Ids, Addresses}
pub use Rattle.chassis.specs.Tree.{upstream}
pub use Rattle.registers.specs.declared.Bridge.{Bridge}
pub use Rattle.registers.specs.declared.Port.{Port}
pub use Rattle.registers.specs.declared.Mechanism.TheVariants.{Rid, High}
pub use Rattle.registers.specs.Rules.{with_ari}
pub use Rattle.registers.specs.Vectors.{enabled_in, settings_of}
pub use Rattle.claims.specs.Conversion.{secondary_start, num_sec_dev}
pub use Rattle.spans.specs.declared.Reach.{Reach}
pub use Rattle.spans.specs.declared.ranges.Range.{Range}
pub use Rattle.holdings.specs.Holdings.{range_if, grid_if, bus_range, address_reach, reach_of}
pub use Rattle.holdings.specs.declared.Looked.{Looked}
pub use Rattle.holdings.specs.declared.Looked.TheVariants.{Taken, Held}
