-- The words of OneEnd, from where they are defined.
pub use Rattle.std.specs.Prelude.{ℕ, ◌≤◌, ◌<◌, ◌^◌, true, false, List, [], ◌∷◌, ◌++◌, ◌≡◌, length}
pub use Rattle.ids.specs.declared.PortNo.{PortNo}
pub use Rattle.ids.specs.declared.Target.{Target}
pub use Rattle.ids.specs.declared.Target.TheVariants.{Id, Addr}
pub use Rattle.chassis.specs.declared.End.{End}
pub use Rattle.chassis.specs.declared.End.TheVariants.{Unsupported}
pub use Rattle.chassis.specs.declared.Holders.TheVariants.{Both}
pub use Rattle.chassis.specs.declared.Packet.{Packet}
pub use Rattle.chassis.specs.declared.Packet.TheVariants.{Plain}
pub use Rattle.chassis.specs.declared.Step.TheVariants.{Cross}
pub use Rattle.chassis.specs.declared.Whereabouts.{Whereabouts}
pub use Rattle.chassis.specs.declared.Whereabouts.TheVariants.{Root, Into, From, Redirected, Type0, Type1}
pub use Rattle.chassis.specs.Chassis.{Chassis, holds, lowest_at}
pub use Rattle.chassis.specs.Tree.{root, is_device_port}
pub use Rattle.chassis.specs.Walk.{starts_at, next, Walk}
