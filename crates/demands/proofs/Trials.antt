-- The demands of a picture and a patch. Assumes nothing.
use Prim.Native.Nat.{ℕ, ◌<◌}
use mathlib.Core.List.{List}
use mathlib.Core.Path.{◌≡◌, refl, ◌∙◌}
use borrow.Author.Tests.{lt-ltb}
use Rattle.least.proofs.Laws.{impossible}
use Rattle.chassis.specs.declared.Verdict.{Verdict}
use Rattle.chassis.specs.Check.{verdict_of}
use Rattle.chassis.specs.OneEnd.{OneEnd}
use Rattle.ids.specs.declared.PortNo.{PortNo}
use Rattle.chassis.specs.Walk.{Walk, starts_at}
use Rattle.registers.specs.declared.Mechanism.{Mechanism}
use Rattle.registers.specs.Record.{port_at}
use Rattle.trees.specs.Trees.{count_of}
use Rattle.picture.specs.declared.Header.{Header}
use Rattle.picture.specs.Layout.{vector_of}
use Rattle.patches.specs.Parts.{place_of, part_at}
use Rattle.patches.specs.Patched.{patched}
use Rattle.patches.specs.Reading.{reading_with}
use Rattle.patches.proofs.Accepted.{accepted}
use Rattle.patches.proofs.PatchedReads.{port_patched, vector_patched, vector_told}
use Rattle.claims.specs.Claims.{chassis_of}
use Rattle.judge.specs.Checking.{check_finding}
use Rattle.judge.specs.Refusals.{refusal_finding}
use Rattle.judge.specs.Trying.{tried_check, trial_check, TriedGives, tried_part, trial_part}
use Rattle.judge.specs.Walking.{packet_of}
use Rattle.judge.proofs.Trials.{count_tried, patched_read, trial_only}
use Rattle.demands.specs.Demands.{Names, Trial1, Trial2, Trial3, TrialOverlap}
use Rattle.demands.proofs.Demands.{walks_in, tried, demand_2, demand_3, fails_exactly, judged, judged_only}
use Rattle.demands.proofs.Numbers.{tried_never_zero, tried_in_table, trial_check_numbered, trial_walk_numbered, trial_part_numbered}
use Rattle.std.specs.Prelude.{Result, Ok, Err}
use Rattle.picture.specs.declared.refusals.Refusal.{Refusal}
use Rattle.routes.specs.declared.Walked.{Walked}

pub trial_1 : (s patch : List ℕ) → Trial1 s patch
trial_1 s patch =
    record {
      reads = tried_in_table s patch;
      check = trial_check_numbered s patch;
      walk = trial_walk_numbered s patch;
      part = trial_part_numbered s patch;
    }

module _ (s patch : List ℕ) where
  abbrev s' : List ℕ
  s' = patched s patch

  module _ (h : Header) (is : reading_with s patch ≡ Ok h) (port : ℕ) (below : port < h.count) where
    there : port < count_of s
    there = rw (← count_tried s patch h is) below

    registers_kept : port_at s' port ≡ port_at s port
    registers_kept = port_patched s patch h (accepted s patch h is) port there

    lies_there : (m : Mechanism) → trial_part s patch port m ≡ Ok (place_of s patch port m)
    unfolding tried_part
    lies_there m = rw (is, lt-ltb port h.count below)

    handed_out : (m : Mechanism) → vector_of s' port m ≡ part_at (place_of s patch port m) s patch
    handed_out m = vector_patched s patch h (accepted s patch h is) port there m ∙ vector_told s patch h is port m

  named_in : (kind start target : ℕ) (w : Walked) (got : Result Header Refusal) → TriedGives got s' kind start target (Ok w)
      → (crossed : List PortNo) × Walk (chassis_of s') (packet_of kind target) (starts_at (chassis_of s') (packet_of kind target) start) crossed w.end × Names w.path crossed
  named_in kind start target w (Err r) gives = impossible (cc)
  named_in kind start target w (Ok h) gives = (walks_in s').named kind start target w gives

  pub trial_2 : Trial2 s patch
  trial_2 =
      record {
        reads = patched_read s patch;
        registers = registers_kept;
        lies = lies_there;
        vectors = handed_out;
        picture = demand_2 s';
        walks =
            record {
              answers = tried s patch;
              only = trial_only s patch;
              named = λ kind start target w gives. named_in kind start target w (reading_with s patch) gives;
            };
      }

  pub trial_3 : Trial3 s patch
  unfolding tried_check check_finding refusal_finding
  trial_3 passed t range = go (reading_with s patch) refl passed
    where
      go : (got : Result Header Refusal) → reading_with s patch ≡ got → (check_finding (tried_check got s')).number ≡ 0 → OneEnd (chassis_of s') t
      go (Err r) is none = absurd (tried_never_zero s patch r is none)
      go (Ok h) is none = demand_3 s' none t range

  judges : (h : Header) → reading_with s patch ≡ Ok h → trial_check s patch ≡ Ok (verdict_of (chassis_of s'))
  unfolding tried_check
  judges h is = rw is (judged s' h (patched_read s patch h is))

  judges_only : (v : Verdict) → trial_check s patch ≡ Ok v → verdict_of (chassis_of s') ≡ v
  unfolding tried_check
  judges_only v = go (reading_with s patch)
    where
      go : (got : Result Header Refusal) → tried_check got s' ≡ Ok v → verdict_of (chassis_of s') ≡ v
      go (Err r) e = impossible (cc)
      go (Ok h) e = judged_only s' v e

  pub trial_overlap : TrialOverlap s patch
  trial_overlap = fails_exactly (reading_with s patch) (trial_check s patch) (chassis_of s') judges judges_only
