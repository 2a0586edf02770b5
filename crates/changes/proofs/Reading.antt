-- A picture with number 0 reads, and then has no more ports than can be.
-- Assumes nothing.
use borrow.Author.Tests.{eqb-true}
use lib.Dec.{eqb}
use Prim.Native.Nat.{ℕ, ◌<◌, ◌≤◌}
use mathlib.Core.Bool.{Bool, true, false, cond}
use mathlib.Core.List.{List}
use mathlib.Core.Path.{◌≡◌, refl, subst}
use native.Mathlib.Omega.{arith}
use lib.ListN.{length}
use Rattle.least.specs.Least.{first_in}
use Rattle.trees.specs.Trees.{count_of}
use Rattle.picture.proofs.WhatReads.{Reads, reads, count_read, count_few}
use Rattle.picture.specs.declared.Header.{Header}
use Rattle.picture.specs.declared.refusals.Rule.TheVariants.{Tree, Chain, Settings, Start}
use Rattle.picture.specs.Header.{header_of, length_wrong, edition_wrong, count_wrong, total_wrong, offset_wrong}
use Rattle.picture.specs.Reading.{breaks, misplaced_in, refused_if, refused_at, ports_reading, reading, number_of}
use Rattle.std.specs.Prelude.{Option, Some, None, Result, Ok}
use Rattle.picture.specs.declared.refusals.Refusal.{Refusal}
use Rattle.picture.specs.declared.refusals.Refusal.TheVariants.{Length, Edition, Count, Total, Offset, Breaks, Misplaced}
use Rattle.picture.specs.Refusals.{refusal_number}
use Rattle.ids.specs.declared.PortNo.{PortNo}
use Rattle.ids.specs.Ids.{port_no}

-- a picture that reads, with the header that is read
pub record Read-as (first : List ℕ) : Type 0 where
  pub header : Header
  pub all : Reads first header

-- with number 0 it is a header that was read
abbrev Sound : Result Header Refusal → Type 0
Sound got = number_of got ≡ 0 → (h : Header) × (got ≡ Ok h)

past_if : (wrong : Bool) (refusal : Refusal) (rest : Result Header Refusal) → 0 < refusal_number refusal → Sound rest → Sound (refused_if wrong refusal rest)
past_if true refusal rest more sound e = absurd (omega (arith, more, e))
past_if false refusal rest more sound e = sound e

past_at : (found : Option ℕ) (refusal : PortNo → Refusal) (rest : Result Header Refusal) → ((p : PortNo) → 0 < refusal_number (refusal p)) → Sound rest → Sound (refused_at found refusal rest)
past_at (Some p) refusal rest more sound e = absurd (omega (arith, more (port_no p), e))
past_at None refusal rest more sound e = sound e

sound : (first : List ℕ) → Sound (reading first)
unfolding reading ports_reading
sound first =
    past_if (length_wrong first) Length _ (omega arith)
    (past_if (edition_wrong (header_of first)) Edition _ (omega arith)
    (past_if (count_wrong (header_of first)) Count _ (omega arith)
    (past_if (total_wrong (length first) (header_of first)) Total _ (omega arith)
    (past_if (offset_wrong (length first) (header_of first)) Offset _ (omega arith)
    (past_at (first_in (breaks Tree first) 0 (count_of first)) (Breaks Tree) _ (λ p. omega arith)
    (past_at (first_in (breaks Chain first) 0 (count_of first)) (Breaks Chain) _ (λ p. omega arith)
    (past_at (first_in (breaks Settings first) 0 (count_of first)) (Breaks Settings) _ (λ p. omega arith)
    (past_at (first_in (breaks Start first) 0 (count_of first)) (Breaks Start) _ (λ p. omega arith)
    (past_at (misplaced_in first) Misplaced _ (λ p. omega arith) (λ e. (header_of first, refl)))))))))))

pub reads_zero : (first : List ℕ) → number_of (reading first) ≡ 0 → Read-as first
reads_zero first e = let got = sound first e in record { header = got.0; all = reads first got.0 got.1 }

-- what a loop that goes as far as the reading lets it knows in each turn
pub reads_far : (first : List ℕ) (m i : ℕ) → i < cond (eqb (number_of (reading first)) 0) m 0 → number_of (reading first) ≡ 0
reads_far first m i l = go (eqb (number_of (reading first)) 0) refl l
  where
    go : (b : Bool) → eqb (number_of (reading first)) 0 ≡ b → i < cond b m 0 → number_of (reading first) ≡ 0
    go true e l = eqb-true _ _ e
    go false e l = absurd (omega (arith, l))

pub few_ports : (first : List ℕ) → number_of (reading first) ≡ 0 → count_of first ≤ 64
few_ports first e = let got = sound first e in subst (λ (n : ℕ). n ≤ 64) (count_read first got.0 got.1) (count_few first got.0 got.1)
