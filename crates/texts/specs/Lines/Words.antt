-- The words of Lines, from where they are defined.
pub use Rattle.std.specs.Prelude.{ℕ, Bool, cond, List, [], ◌∷◌, ◌++◌, eqb, take, Option, Some, None}
pub use Rattle.io.specs.Digits.{last_digits as digits}
pub use Rattle.ids.specs.declared.PortNo.{PortNo}
pub use Rattle.ids.specs.declared.Target.TheVariants.{Id, Addr}
pub use Rattle.chassis.specs.declared.Finding.{Finding}
pub use Rattle.chassis.specs.declared.Decoders.{Decoders}
pub use Rattle.chassis.specs.declared.Hold.{Hold}
pub use Rattle.chassis.specs.declared.Named.{Named}
pub use Rattle.chassis.specs.declared.Named.TheVariants.{NoPort, Port, Holder, Pair}
pub use Rattle.chassis.specs.declared.End.{End}
pub use Rattle.chassis.specs.declared.End.TheVariants.{Device, Function, Host, Unsupported, Doubled}
pub use Rattle.paths.specs.declared.Path.{Path}
pub use Rattle.texts.specs.Texts.{ascii, decimal}
pub use Rattle.ids.specs.declared.Target.{Target}
