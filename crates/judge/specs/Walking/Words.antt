-- The words of Walking, from where they are defined.
pub use Rattle.std.specs.Prelude.{ℕ, Bool, true, false, not, cond, ◌||◌, List, [], ◌≡◌, eqb, ltb, Result, Ok, Err}
pub use Rattle.chassis.specs.declared.Packet.{Packet}
pub use Rattle.chassis.specs.declared.Packet.TheVariants.{Plain, Config}
pub use Rattle.chassis.specs.Chassis.{Chassis}
pub use Rattle.chassis.specs.Tree.{Tree, root, is_device_port}
pub use Rattle.chassis.specs.Walk.{starts_at}
pub use Rattle.paths.specs.Paths.{path_of}
pub use Rattle.picture.specs.declared.refusals.Refusal.{Refusal}
pub use Rattle.picture.specs.Reading.{reading}
pub use Rattle.claims.specs.Claims.{chassis_of}
pub use Rattle.routes.specs.declared.Walked.{Walked}
pub use Rattle.routes.specs.Routes.{Arrives}
pub use Rattle.judge.specs.Asking.{target_asked, id_too_large}
pub use Rattle.picture.specs.declared.refusals.Refusal.TheVariants.{AskedWrongly}
pub use Rattle.picture.specs.declared.Header.{Header}
pub use Rattle.chassis.specs.declared.End.{End}
