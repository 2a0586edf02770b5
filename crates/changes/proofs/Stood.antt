-- A run that is written into a room record by record stands there whole.
-- Assumes nothing.
use Prim.Native.Nat.{ℕ, zero, suc, ◌+◌, ◌≤◌}
use mathlib.Core.List.{List, [], ◌∷◌, ◌++◌}
use mathlib.Core.Path.{◌≡◌, refl, sym, ap, ◌∙◌}
use native.Mathlib.Nat.{zero-add, suc-add, not-suc-le-zero, le_of_suc-le-suc}
use native.Mathlib.Omega.{arith}
use lib.ListN.{length, set, length-set, take, drop}
use Rattle.changes.specs.declared.Change.{Change}
use Rattle.changes.specs.Versions.{change_at}
use Rattle.changes.specs.Adding.{behind}

-- the room with the first i changes of the run from a place on
unfoldable pub stood : List Change → List Change → ℕ → ℕ → List Change
stood room run from zero = room
stood room run from (suc i) = set (stood room run from i) (from + i) (change_at run i)

pub stood_length : (room run : List Change) (from i : ℕ) → length (stood room run from i) ≡ length room
unfolding stood
stood_length room run from zero = refl
stood_length room run from (suc i) = length-set (stood room run from i) (from + i) (change_at run i) ∙ stood_length room run from i

-- one record more before the place
further : (c : Change) (room run : List Change) (from i : ℕ) → stood (c ∷ room) run (suc from) i ≡ c ∷ stood room run from i
unfolding stood
further c room run from zero = refl
further c room run from (suc i) =
    ap (λ (l : List Change). set l (suc from + i) (change_at run i)) (further c room run from i)
    ∙ ap (λ (n : ℕ). set (c ∷ stood room run from i) n (change_at run i)) (suc-add from i)

-- one change more at the run's head
longer : (c d : Change) (room run : List Change) (i : ℕ) → stood (c ∷ room) (d ∷ run) 0 (suc i) ≡ d ∷ stood room run 0 i
unfolding stood change_at
longer c d room run zero = refl
longer c d room run (suc i) =
    ap (λ (l : List Change). set l (0 + suc i) (change_at (d ∷ run) (suc i))) (longer c d room run i)
    ∙ ap (λ (n : ℕ). set (d ∷ stood room run 0 i) n (change_at run i)) (zero-add (suc i))
    ∙ ap (λ (n : ℕ). d ∷ set (stood room run 0 i) n (change_at run i)) (sym (zero-add i))

from_start : (room run : List Change) → length run ≤ length room → stood room run 0 (length run) ≡ run ++ drop (length run) room
unfolding stood
from_start room [] l = refl
from_start [] (d ∷ run) l = absurd (not-suc-le-zero l)
from_start (c ∷ room) (d ∷ run) l = longer c d room run (length run) ∙ ap (λ (m : List Change). d ∷ m) (from_start room run (le_of_suc-le-suc l))

pub stands : (room run : List Change) (from : ℕ) → from + length run ≤ length room → stood room run from (length run) ≡ behind room from run
unfolding behind
stands room run zero l = from_start room run (omega (arith, l)) ∙ ap (λ (n : ℕ). run ++ drop n room) (sym (zero-add (length run)))
stands [] run (suc from) l = absurd (omega (arith, l))
stands (c ∷ room) run (suc from) l =
    further c room run from (length run) ∙ ap (λ (m : List Change). c ∷ m) (stands room run from (omega (arith, l)))
    ∙ ap (λ (n : ℕ). c ∷ (take from room ++ run ++ drop n (c ∷ room))) (sym (suc-add from (length run)))
