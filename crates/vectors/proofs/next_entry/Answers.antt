use Rattle.std.proofs.Common.{arith, le_refl}
use Rattle.least.proofs.Laws.{none_join, none_part, at_is, none_is}
use Rattle.vectors.specs.Vectors.{entry_is}
use Rattle.vectors.proofs.Digits.{sees_none, sees_least}
use Rattle.vectors.proofs.next_entry.Goals as goal

pub overflow_add-found : goal.overflow_add-found
overflow_add-found c =
    let seen = c.look-seen.ensures in
    let found = sees_least (entry_is _ _) _ _ (omega arith) (seen.i_le_last, seen.by_index) in
    omega (arith, found.below)

pub returns-else-found-size : goal.returns-else-found-size
returns-else-found-size c =
    let seen = c.look-seen.ensures in
    let found = sees_least (entry_is _ _) _ _ (omega arith) (seen.i_le_last, seen.by_index) in
    none_is (none_part (le_refl _) (omega arith) (none_join c.loop-seen.invariant.1 found.first))

pub returns-then-found-size : goal.returns-then-found-size
returns-then-found-size c =
    let seen = c.look-seen.ensures in
    let found = sees_least (entry_is _ _) _ _ (omega arith) (seen.i_le_last, seen.by_index) in
    at_is (record { from = omega arith; below = omega arith; holds = found.holds; first = none_join c.loop-seen.invariant.1 found.first })

pub returns-then-size-seen : goal.returns-then-size-seen
returns-then-size-seen c =
    let seen = c.look-seen.ensures in
    let none = sees_none (entry_is _ _) _ _ (omega arith) (seen.i_le_last, seen.by_index) in
    none_is (none_part (le_refl _) (omega arith) (none_join c.loop-seen.invariant.1 none))

pub loop-seen-preserved : goal.loop-seen-preserved
loop-seen-preserved c =
    let seen = c.look-seen.ensures in
    let none = sees_none (entry_is _ _) _ _ (omega arith) (seen.i_le_last, seen.by_index) in
    (omega arith, none_join c.loop-seen.invariant.1 none)
