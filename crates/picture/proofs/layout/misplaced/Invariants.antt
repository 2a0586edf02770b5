use Rattle.least.proofs.Laws.{NoneIn}
use Rattle.picture.specs.Layout.{place_wrong, running_offset}
use Rattle.std.proofs.Common.{◌*◌, ◌+◌, ◌^◌, ◌≡◌, ◌≤◌}
use Rattle.picture.proofs.layout.misplaced.Given as goal

abbrev pub invariant-loop-p : goal.invariant-loop-p
invariant-loop-p l =
    (l.offset ≡ running_offset l.s l.p) × (l.offset ≤ 2 ^ 22 + 12288 * l.p) × NoneIn (place_wrong l.s) 0 l.p
