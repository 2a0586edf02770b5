-- The words of Check, from where they are defined.
pub use Rattle.std.specs.Prelude.{ℕ, Bool, true, false, not, cond, ◌&&◌, List, [], ◌∷◌, eqb, Option, Some, None}
pub use Rattle.ids.specs.declared.PortNo.{PortNo}
pub use Rattle.ids.specs.declared.Space.{Space}
pub use Rattle.ids.specs.declared.Space.TheVariants.{Ids, Addresses}
pub use Rattle.ids.specs.declared.Target.{Target}
pub use Rattle.ids.specs.declared.Target.TheVariants.{Id, Addr}
pub use Rattle.ids.specs.Ids.{port_no, no_port}
pub use Rattle.least.specs.Least.{first_in}
pub use Rattle.chassis.specs.declared.Conversion.{Conversion}
pub use Rattle.chassis.specs.declared.Conversion.TheVariants.{NotClaimed, Type0, Type1, Unsupported}
pub use Rattle.chassis.specs.declared.Fault.{Fault}
pub use Rattle.chassis.specs.declared.Fault.TheVariants.{Shared as OfShared, Stray as OfStray, Taken as OfTaken}
pub use Rattle.chassis.specs.declared.Row.{Row}
pub use Rattle.chassis.specs.declared.Row.TheVariants.{At as RowAt, Lost as RowLost}
pub use Rattle.chassis.specs.declared.Verdict.{Verdict}
pub use Rattle.chassis.specs.declared.Verdict.TheVariants.{Clear, Shared, Stray, Lost, Taken}
pub use Rattle.chassis.specs.Chassis.{Chassis, is_own, holds, hold_of, target_in, space_size}
pub use Rattle.chassis.specs.Tree.{root_port, stands_at, any_below}
