use Rattle.std.proofs.Common.{◌≡◌, ◌++◌, length, drop}
use Rattle.changes.specs.Versions.{made_up_to}
use Rattle.fiswalend.proofs.version_call.fpb_history_version.Given as goal

abbrev pub invariant-loop-i : goal.invariant-loop-i
invariant-loop-i l = l.out ≡ made_up_to l.first l.room (l.first ++ drop (length l.first) l.fn.out) l.i
