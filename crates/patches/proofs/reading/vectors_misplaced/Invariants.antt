use Rattle.chassis.specs.Tree.{any_below}
use Rattle.std.proofs.Common.{false, ◌*◌, ◌+◌, ◌^◌, ◌≡◌, ◌≤◌}
use Rattle.patches.specs.Patch.{offset_misplaced, running_in}
use Rattle.patches.proofs.reading.vectors_misplaced.Given as goal

abbrev pub invariant-loop-i : goal.invariant-loop-i
invariant-loop-i l = (l.offset ≡ running_in l.s l.patch l.i) × (l.offset ≤ 2 ^ 36 + 12288 * l.i) × (any_below (offset_misplaced l.s l.patch) l.i ≡ false)
