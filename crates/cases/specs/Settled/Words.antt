-- The words of Settled, from where they are defined.
pub use Rattle.std.specs.Prelude.{ℕ, ◌+◌, ◌*◌, ◌^◌, Bool, true, false, not, ◌&&◌, List, [], ◌∷◌, eqb, Option, Some, None, Result, Ok, Err}
pub use Rattle.ids.specs.declared.Target.TheVariants.{Id}
pub use Rattle.vectors.specs.Vectors.{entry_of, hits}
pub use Rattle.chassis.specs.declared.Conversion.{Conversion}
pub use Rattle.chassis.specs.declared.Conversion.TheVariants.{NotClaimed, Type0, Type1, Unsupported}
pub use Rattle.chassis.specs.Walk.{function_number}
pub use Rattle.registers.specs.declared.Bridge.{Bridge}
pub use Rattle.registers.specs.declared.Fpb.{Fpb}
pub use Rattle.registers.specs.declared.Mechanism.TheVariants.{Rid, Low, High}
pub use Rattle.registers.specs.Vectors.{settings_of}
pub use Rattle.claims.specs.Decoders.{memory_claims, low_claims}
pub use Rattle.claims.specs.Claims.{chassis_of}
pub use Rattle.judge.specs.Converting.{convert_answer}
pub use Rattle.cases.specs.Chain.{chain_with}
pub use Rattle.picture.specs.declared.refusals.Refusal.{Refusal}
