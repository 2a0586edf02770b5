-- What the history calls leave behind where nothing refuses.
use Rattle.std.proofs.Common.{ℕ, ◌+◌, ◌≡◌, List, ◌++◌, length, take, drop, sym, ap, ◌∙◌, append_assoc}
use lib.Seq.{drop-drop}
use borrow.Rule.Slice.PartMut.{put_mid}
use Rattle.picture.specs.Reading.{reading, number_of}
use Rattle.changes.specs.declared.Change.{Change}
use Rattle.changes.specs.Versions.{made_up_to}
use Rattle.changes.specs.Adding.{behind}
use Rattle.changes.specs.ReadingBack.{read_back}
use Rattle.changes.proofs.BackRead.{read_back_is}
use Rattle.changes.proofs.Reading.{reads_zero}

-- a run that is copied into the room behind the changes kept
pub stands_behind : (room run copied : List Change) (kept n : ℕ) → copied ≡ run → n ≡ length run → put_mid kept n room copied ≡ behind room kept run
unfolding behind
stands_behind room run copied kept n is_run all =
    rw is_run
    (ap (λ l. take kept room ++ (run ++ l)) (drop-drop n kept room ∙ ap (λ m. drop (kept + m) room) all)
    ∙ sym (append_assoc (take kept room) run (drop (kept + length run) room)))

-- the buffer before the first change, and after the last
pub before_any : (first : List ℕ) (room : List Change) (before laid : List ℕ) → laid ≡ before → laid ≡ made_up_to first room before 0
unfolding made_up_to
before_any first room before laid e = e

pub after_all : (first : List ℕ) (room : List Change) (buffer : List ℕ) (k : ℕ) → number_of (reading first) ≡ 0
    → made_up_to first room (first ++ drop (length first) buffer) k ≡ read_back first room k buffer
after_all first room buffer k read = read_back_is first (reads_zero first read) room k buffer
