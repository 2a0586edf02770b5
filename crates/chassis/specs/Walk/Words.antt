-- The words of Walk, from where they are defined.
pub use Rattle.std.specs.Prelude.{ℕ, ◌%◌, ◌^◌, Bool, true, false, not, cond, ◌&&◌, List, [], ◌∷◌, ◌≡◌, eqb}
pub use Rattle.ids.specs.declared.PortNo.{PortNo}
pub use Rattle.ids.specs.declared.Target.{Target}
pub use Rattle.ids.specs.declared.Target.TheVariants.{Id, Addr}
pub use Rattle.chassis.specs.declared.Conversion.{Conversion}
pub use Rattle.chassis.specs.declared.Conversion.TheVariants.{NotClaimed, Type0 as AsType0, Type1 as AsType1, Unsupported as Refuses}
pub use Rattle.chassis.specs.declared.End.{End}
pub use Rattle.chassis.specs.declared.End.TheVariants.{Device, Function, Host, Unsupported, Doubled}
pub use Rattle.chassis.specs.declared.Holders.{Holders}
pub use Rattle.chassis.specs.declared.Holders.TheVariants.{Nobody, Only, Both}
pub use Rattle.chassis.specs.declared.Packet.{Packet}
pub use Rattle.chassis.specs.declared.Packet.TheVariants.{Plain, Config}
pub use Rattle.chassis.specs.declared.Step.{Step}
pub use Rattle.chassis.specs.declared.Step.TheVariants.{Stop, Cross}
pub use Rattle.chassis.specs.declared.Whereabouts.{Whereabouts}
pub use Rattle.chassis.specs.declared.Whereabouts.TheVariants.{Root, Into, From, Redirected, Type0, Type1}
pub use Rattle.ids.specs.Ids.{port_no}
pub use Rattle.chassis.specs.Chassis.{Chassis, is_own, holds, lowest_at}
pub use Rattle.chassis.specs.Tree.{root, is_device_port}
