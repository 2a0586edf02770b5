-- The turns that a version is made in: what a turn knows, and what the buffer is after the last.
-- Assumes nothing.
use Prim.Native.Nat.{ℕ, ◌+◌, ◌<◌, ◌≤◌}
use native.Mathlib.Numerals.{add-one}
use Rattle.trees.specs.Trees.{count_of}
use mathlib.Core.Bool.{Bool, true, false, cond}
use mathlib.Core.List.{List, ◌++◌}
use mathlib.Core.Path.{◌≡◌, refl, sym, ◌∙◌}
use native.Mathlib.Omega.{arith}
use borrow.Author.Tests.{eqb-true}
use lib.Dec.{eqb}
use lib.ListN.{length, drop}
use Rattle.changes.specs.declared.Change.{Change}
use Rattle.changes.specs.Versions.{made, change_at, made_up_to}
use Rattle.changes.specs.ReadingBack.{version_number, read_back}
use Rattle.changes.proofs.Reading.{reads_zero, few_ports}
use Rattle.changes.proofs.BackRead.{read_back_is, back_zero}

-- the buffer before the first turn
abbrev pub laid : List ℕ → List ℕ → ℕ → List ℕ
laid first out number = cond (eqb number 0) (first ++ drop (length first) out) out

-- there is a turn only where no number refuses
pub no_refusal : (number k i : ℕ) → i < cond (eqb number 0) k 0 → (number ≡ 0) × (i < k)
no_refusal number k i l = go (eqb number 0) refl l
  where
    go : (b : Bool) → eqb number 0 ≡ b → i < cond b k 0 → (number ≡ 0) × (i < k)
    go true e l = (eqb-true number 0 e, l)
    go false e l = absurd (omega (arith, l))

pub after_all : (first : List ℕ) (room : List Change) (out : List ℕ) (kept k number : ℕ) → number ≡ version_number first (length room) (length out) kept k
    → made_up_to first room (laid first out number) (cond (eqb number 0) k 0) ≡ cond (eqb number 0) (read_back first room k out) out
unfolding made_up_to
after_all first room out kept k number is = go (eqb number 0) refl
  where
    go : (b : Bool) → eqb number 0 ≡ b → made_up_to first room (cond b (first ++ drop (length first) out) out) (cond b k 0) ≡ cond b (read_back first room k out) out
    go true e = read_back_is first (reads_zero first (back_zero first (length room) (length out) kept k (sym is ∙ eqb-true number 0 e)).read) room k out
    go false e = refl

pub before_any : (first : List ℕ) (room : List Change) (out : List ℕ) (number : ℕ) → laid first out number ≡ made_up_to first room (laid first out number) 0
unfolding made_up_to
before_any first room out number = refl

pub one_more : (first : List ℕ) (room : List Change) (before out : List ℕ) (c : Change) (i : ℕ) → c ≡ change_at room i → out ≡ made_up_to first room before i
    → made first c out ≡ made_up_to first room before (i + 1)
unfolding made_up_to
one_more first room before out c i is_c is_out = rw (add-one i, is_c, is_out) refl

-- what a turn knows
pub record Turn (first : List ℕ) (room : List Change) (i : ℕ) : Type 0 where
  pub there : i < length room
  pub few : count_of first ≤ 64

pub turn : (first : List ℕ) (room : List Change) (buffer kept k number n i : ℕ) → number ≡ version_number first (length room) buffer kept k
    → n ≡ cond (eqb number 0) k 0 → i < n → Turn first room i
turn first room buffer kept k number n i is is_n more =
    let no = no_refusal number k i (omega (arith, more, is_n)) in
    let back = back_zero first (length room) buffer kept k (sym is ∙ no.0) in
    record { there = omega (arith, no.1, back.no_later, back.all_there); few = few_ports first back.read }

pub after_turns : (first : List ℕ) (room : List Change) (out : List ℕ) (kept k number n i : ℕ) (left : List ℕ)
    → number ≡ version_number first (length room) (length out) kept k
    → n ≡ cond (eqb number 0) k 0 → i ≤ n → n ≤ i → left ≡ made_up_to first room (laid first out number) i
    → left ≡ cond (eqb number 0) (read_back first room k out) out
after_turns first room out kept k number n i left is is_n low high is_left =
    let all : i ≡ cond (eqb number 0) k 0 = omega (arith, low, high, is_n) in
    rw (is_left, all) (after_all first room out kept k number is)
