-- 01, "Numbers given back", 02, Item 2: the number of each refusal.
use Rattle.std.specs.Prelude.{ℕ}
use Rattle.picture.specs.declared.refusals.Refusal.{Refusal}
use Rattle.picture.specs.declared.refusals.Refusal.TheVariants.{
  Length,
  Edition,
  Count,
  Total,
  Offset,
  Breaks,
  Misplaced,
  AskedWrongly,
  PatchHeader,
  PatchPorts,
  PatchVectors,
}
use Rattle.picture.specs.declared.refusals.Rule.{Rule}
use Rattle.picture.specs.declared.refusals.Rule.TheVariants.{Tree, Chain, Settings, Start}

abbrev pub rule_number : Rule → ℕ
rule_number Tree = 6
rule_number Chain = 7
rule_number Settings = 8
rule_number Start = 9

abbrev pub refusal_number : Refusal → ℕ
refusal_number Length = 1
refusal_number Edition = 2
refusal_number Count = 3
refusal_number Total = 4
refusal_number Offset = 5
refusal_number (Breaks rule p) = rule_number rule
refusal_number (Misplaced p) = 10
refusal_number AskedWrongly = 16
refusal_number PatchHeader = 30
refusal_number PatchPorts = 31
refusal_number PatchVectors = 32
