-- The words of Reading, from where they are defined.
pub use Rattle.std.specs.Prelude.{ℕ, Bool, cond, List, length, Option, Some, None, Result, Ok, Err}
pub use Rattle.least.specs.Least.{first_in, or_else}
pub use Rattle.ids.specs.Ids.{port_no}
pub use Rattle.chassis.specs.Tree.{tree_broken, chain_too_long}
pub use Rattle.registers.specs.Record.{port_at}
pub use Rattle.registers.specs.Rules.{settings_wrong, start_wrong}
pub use Rattle.trees.specs.Trees.{count_of, tree_of}
pub use Rattle.picture.specs.declared.refusals.Rule.{Rule}
pub use Rattle.picture.specs.declared.refusals.Rule.TheVariants.{Tree, Chain, Settings, Start}
pub use Rattle.picture.specs.Header.{header_of, length_wrong, edition_wrong, count_wrong, total_wrong, offset_wrong}
pub use Rattle.picture.specs.Layout.{place_wrong, end_wrong}
pub use Rattle.picture.specs.declared.Header.{Header}
pub use Rattle.picture.specs.declared.refusals.Refusal.{Refusal}
pub use Rattle.ids.specs.declared.PortNo.{PortNo}
pub use Rattle.picture.specs.declared.refusals.Refusal.TheVariants.{Length, Edition, Count, Total, Offset, Breaks, Misplaced}
pub use Rattle.picture.specs.Refusals.{refusal_number}
