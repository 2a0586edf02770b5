-- What is so where adding ends with 0.
-- Assumes nothing.
use Prim.Native.Nat.{ℕ, ◌+◌, ◌≤◌, ◌<◌, ◌^◌}
use mathlib.Core.Bool.{Bool, true, false, cond}
use mathlib.Core.List.{List}
use mathlib.Core.Path.{◌≡◌, refl}
use native.Mathlib.Omega.{arith}
use borrow.Author.Tests.{eqb-true, eqb-false, ltb-false}
use lib.Dec.{eqb, ltb}
use lib.ListN.{length}
use Rattle.chassis.proofs.Bools.{or_false_parts}
use Rattle.picture.specs.Reading.{reading, number_of}
use Rattle.changes.specs.declared.Change.{Change}
use Rattle.changes.specs.Versions.{version}
use Rattle.changes.specs.Adding.{most_changes, room_full, run_number, adding_number}

pub record Added (first : List ℕ) (room run : List Change) (kept : ℕ) : Type 0 where
  pub read : number_of (reading first) ≡ 0
  pub run_right : run_number first (version first room kept) run (length run) ≡ 0
  pub room_left : room_full (length room) kept (length run) ≡ false

pub adding_zero : (first : List ℕ) (room run : List Change) (kept : ℕ) → adding_number first room run kept ≡ 0 → Added first room run kept
unfolding adding_number
adding_zero first room run kept z =
    go (eqb (number_of (reading first)) 0) refl (eqb (run_number first (version first room kept) run (length run)) 0) refl (room_full (length room) kept (length run)) refl z
  where
    go : (a : Bool) → eqb (number_of (reading first)) 0 ≡ a → (b : Bool) → eqb (run_number first (version first room kept) run (length run)) 0 ≡ b → (c : Bool) → room_full (length room) kept (length run) ≡ c
        → cond a (cond b (cond c 39 0) (run_number first (version first room kept) run (length run))) (number_of (reading first)) ≡ 0 → Added first room run kept
    go true ea true eb false ec z = record { read = eqb-true _ _ ea; run_right = eqb-true _ _ eb; room_left = ec }
    go true ea true eb true ec z = absurd (omega (arith, z))
    go true ea false eb c ec z = absurd (eqb-false _ _ eb z)
    go false ea b eb c ec z = absurd (eqb-false _ _ ea z)

-- a room that is not full has a record for each, and their number is one of 32 bits
pub records_left : (records kept count : ℕ) → room_full records kept count ≡ false → (kept + count ≤ records) × (kept + count < 2 ^ 32)
unfolding room_full
records_left records kept count e =
    let both = or_false_parts (ltb records (kept + count)) (ltb most_changes (kept + count)) e in
    (ltb-false records (kept + count) both.0, omega (arith, ltb-false most_changes (kept + count) both.1))
