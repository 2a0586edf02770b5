-- What the walk call returns and leaves is as its definition says, and is all that it may. Assumes nothing.
use Prim.Native.Nat.{ℕ, ◌<◌, ◌≤◌}
use mathlib.Core.Bool.{Bool, true, false}
use mathlib.Core.List.{List, ◌++◌}
use mathlib.Core.Path.{◌≡◌, refl, sym, ap, subst, ◌∙◌}
use native.Mathlib.Nat.{le_trans}
use native.Mathlib.Omega.{arith}
use lib.ListN.{length, drop, get_or}
use Rattle.chassis.specs.Walk.{starts_at}
use Rattle.chassis.proofs.Steps.{left_most}
use Rattle.chassis.proofs.Walks.{walk_short}
use Rattle.paths.specs.Paths.{path_of}
use Rattle.picture.specs.declared.Header.{Header}
use Rattle.picture.specs.Reading.{reading}
use Rattle.claims.specs.Claims.{chassis_of}
use Rattle.trees.specs.Trees.{tree_of}
use Rattle.answers.specs.Answers.{head_bytes, answer_bytes}
use Rattle.judge.specs.Ends.{outcome_number}
use Rattle.judge.specs.Walking.{packet_of, asked_wrongly, AskedGives, ReadGives, WalkGives}
use Rattle.judge.specs.Trying.{TriedGives, TrialGives}
use Rattle.judge.proofs.Trials.{trial_only}
use Rattle.judge.proofs.Walks.{walk_only, within_start}
use Rattle.picture.proofs.WhatReads.{sane_read}
use Rattle.patches.specs.Patched.{patched}
use Rattle.patches.specs.Reading.{reading_with}
use Rattle.chassis.specs.declared.End.{End}
use Rattle.chassis.specs.declared.End.TheVariants.{Device, Function, Host, Unsupported, Doubled}
use Rattle.picture.specs.declared.refusals.Refusal.{Refusal}
use Rattle.judge.specs.Refusals.{refusal_finding}
use Rattle.fiswalend.specs.Walked.{end_head, walk_bytes}
use Rattle.fiswalend.specs.Calls.{too_short, WalkLeaves, WalkCall, TrialWalkCall}
use Rattle.fiswalend.proofs.Forty.{under_40, has_40}
use Rattle.fiswalend.proofs.CheckCalls.{first_byte as finding-number}
use Rattle.std.specs.Prelude.{Result, Ok, Err, IfOk}
use Rattle.routes.specs.declared.Walked.{Walked}

-- a walk crosses at most 32 ports, so that the count fits its byte
module _ (s : List ℕ) (kind start target : ℕ) (a : Result Walked Refusal) where
  asked_short : (h : Header) → reading s ≡ Ok h → (wrong : Bool) → asked_wrongly (tree_of s) kind start target ≡ wrong
      → AskedGives wrong (chassis_of s) kind start target a → IfOk a (λ w. w.path.count ≤ 32)
  unfolding path_of
  asked_short h read true asked gives = rw gives tt
  asked_short h read false asked gives =
      let short = walk_short (chassis_of s) (packet_of kind target) (sane_read s h read) (within_start (chassis_of s) (sane_read s h read) kind start target asked (packet_of kind target) refl) gives.1.walk in
      rw (gives.2, gives.1.named) (le_trans short (left_most (chassis_of s) (starts_at (chassis_of s) (packet_of kind target) start)))

  pub crossings_few : WalkGives s kind start target a → IfOk a (λ w. w.path.count ≤ 32)
  crossings_few = go (reading s) refl
    where
      go : (got : Result Header Refusal) → reading s ≡ got → ReadGives got s kind start target a → IfOk a (λ w. w.path.count ≤ 32)
      go (Err r) read gives = rw gives tt
      go (Ok h) read gives = asked_short h read (asked_wrongly (tree_of s) kind start target) refl gives

-- in a trial too
pub trial_crossings_few : (s patch : List ℕ) (kind start target : ℕ) (a : Result Walked Refusal) → TrialGives s patch kind start target a → IfOk a (λ w. w.path.count ≤ 32)
trial_crossings_few s patch kind start target a = go (reading_with s patch)
  where
    go : (got : Result Header Refusal) → TriedGives got (patched s patch) kind start target a → IfOk a (λ w. w.path.count ≤ 32)
    go (Err r) gives = rw gives tt
    go (Ok h) gives = crossings_few (patched s patch) kind start target a gives

pub fits_its_byte : (a : Result Walked Refusal) → IfOk a (λ w. w.path.count ≤ 32) → IfOk a (λ w. w.path.count < 256)
fits_its_byte (Err r) few = tt
fits_its_byte (Ok w) few = omega arith

-- the first byte is the number
pub first_byte : (a : Result Walked Refusal) → get_or (walk_bytes a) 0 0 ≡ outcome_number a
unfolding walk_bytes answer_bytes head_bytes refusal_finding
first_byte (Err r) = finding-number (refusal_finding r)
first_byte (Ok w) = ended w.end
  where
    ended : (e : End) → (end_head e w.path.count).number ≡ 0
    ended (Device p function) = refl
    ended (Function p) = refl
    ended Host = refl
    ended (Unsupported p) = refl
    ended (Doubled p q) = refl

module _ (Gives : Result Walked Refusal → Type 0) (before : List ℕ) (number : ℕ) (after : List ℕ) where
  leaves : (short : Bool) → too_short before ≡ short → WalkLeaves short Gives before number after → WalkLeaves (too_short before) Gives before number after
  leaves short e w = subst (λ (b : Bool). WalkLeaves b Gives before number after) (sym e) w

  pub leaves_17 : length before < 40 → number ≡ 17 → after ≡ before → WalkLeaves (too_short before) Gives before number after
  leaves_17 l is-17 untouched = leaves true (under_40 before l) (is-17, untouched)

  pub leaves_40 : (forty : List ℕ) (a : Result Walked Refusal) → 40 ≤ length before → Gives a → forty ≡ walk_bytes a
      → number ≡ get_or forty 0 0 → after ≡ forty ++ drop 40 before → WalkLeaves (too_short before) Gives before number after
  leaves_40 forty a l gives is first rest =
      leaves false (has_40 before l)
      (a, gives, first ∙ ap (λ (bytes : List ℕ). get_or bytes 0 0) is ∙ first_byte a, rest ∙ ap (λ (bytes : List ℕ). bytes ++ drop 40 before) is)

-- where one answer is given, the call has one number and leaves one buffer
pub leaves_only : (Gives : Result Walked Refusal → Type 0) → ((a b : Result Walked Refusal) → Gives a → Gives b → a ≡ b) → (before : List ℕ) (m n : ℕ) (x y : List ℕ)
    → WalkLeaves (too_short before) Gives before m x → WalkLeaves (too_short before) Gives before n y → (m ≡ n) × (x ≡ y)
leaves_only Gives one before m n x y = go (too_short before)
  where
    go : (short : Bool) → WalkLeaves short Gives before m x → WalkLeaves short Gives before n y → (m ≡ n) × (x ≡ y)
    go true v w = (v.0 ∙ sym w.0, v.1 ∙ sym w.1)
    go false v w =
        let same = one v.0 w.0 v.1 w.1 in
        (v.2 ∙ ap (λ (a : Result Walked Refusal). outcome_number a) same ∙ sym w.2, v.3 ∙ ap (λ (a : Result Walked Refusal). walk_bytes a ++ drop 40 before) same ∙ sym w.3)

pub walk_call_only : (s : List ℕ) (kind start target : ℕ) (before : List ℕ) (m n : ℕ) (x y : List ℕ)
    → WalkCall s kind start target before m x → WalkCall s kind start target before n y → (m ≡ n) × (x ≡ y)
walk_call_only s kind start target = leaves_only (WalkGives s kind start target) (walk_only s kind start target)

pub trial_call_only : (s patch : List ℕ) (kind start target : ℕ) (before : List ℕ) (m n : ℕ) (x y : List ℕ)
    → TrialWalkCall s patch kind start target before m x → TrialWalkCall s patch kind start target before n y → (m ≡ n) × (x ≡ y)
trial_call_only s patch kind start target = leaves_only (TrialGives s patch kind start target) (trial_only s patch kind start target)
