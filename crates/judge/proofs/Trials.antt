-- The trial calls answer as the calls over the picture with the patch's vectors put in. Assumes nothing.
use Prim.Native.Nat.{ℕ, ◌≤◌}
use mathlib.Core.Bool.{Bool, true, false}
use mathlib.Core.List.{List}
use mathlib.Core.Path.{◌≡◌, refl, sym, ap, subst, ◌∙◌}
use Rattle.chassis.specs.Check.{verdict_of}
use Rattle.chassis.specs.declared.Packet.{Packet}
use Rattle.chassis.specs.declared.Whereabouts.{Whereabouts}
use Rattle.chassis.specs.Walk.{Walk, starts_at}
use Rattle.chassis.proofs.Alike.{Alike, verdict_alike}
use Rattle.chassis.proofs.AlikeTrees.{device_alike}
use Rattle.chassis.proofs.AlikeWalks.{walk_alike, starts_alike}
use Rattle.chassis.proofs.Tree.{Sane}
use Rattle.picture.specs.declared.Header.{Header}
use Rattle.picture.specs.declared.refusals.Refusal.{Refusal}
use Rattle.picture.specs.Reading.{reading}
use Rattle.picture.proofs.Laws.{count_of_lem}
use Rattle.picture.proofs.WhatReads.{reads_sane}
use Rattle.trees.specs.Trees.{count_of, tree_of}
use Rattle.patches.specs.Patched.{patched}
use Rattle.patches.specs.Reading.{reading_with}
use Rattle.patches.proofs.Accepted.{Accepted, accepted}
use Rattle.patches.proofs.PatchedReads.{trees_patched, patched_reads}
use Rattle.claims.specs.Claims.{chassis_of}
use Rattle.claims.specs.Over.{chassis_over}
use Rattle.claims.proofs.Over.{alike_patched, redirect_patched}
use Rattle.judge.specs.Checking.{check_of}
use Rattle.judge.specs.Trying.{tried_check, trial_check, TriedGives, TrialGives}
use Rattle.judge.specs.Walking.{packet_of, is_start, asked_wrongly, AskedGives}
use Rattle.judge.proofs.Walks.{walk_only, gives_read, started, within_start}
use Rattle.std.specs.Prelude.{Result, Ok, Err}
use Rattle.routes.specs.declared.Walked.{Walked}

module _ (s patch : List ℕ) (h : Header) (read : reading_with s patch ≡ Ok h) where
  abbrev taken : Accepted s patch h
  taken = accepted s patch h read

  abbrev s' : List ℕ
  s' = patched s patch

  pub sane_tried : Sane (tree_of s)
  sane_tried = reads_sane s h taken.picture_reads

  pub count_tried : h.count ≡ count_of s
  count_tried = count_of_lem s h taken.picture_reads.header

  pub few_tried : h.count ≤ 64
  few_tried = rw count_tried taken.few

  -- the picture with the vectors put in reads
  pub patched_read : reading s' ≡ Ok h
  patched_read = patched_reads s patch h taken

  alike : Alike (chassis_over s patch) (chassis_of s')
  alike = alike_patched s patch h taken

  -- the check's answer
  pub trial_judged : Ok (verdict_of (chassis_over s patch)) ≡ trial_check s patch
  unfolding tried_check check_of
  trial_judged =
      rw (read, patched_read) (ap Ok (verdict_alike (chassis_over s patch) (chassis_of s') alike sane_tried))

  module _ (kind start target : ℕ) where
    same_asked : asked_wrongly (tree_of s) kind start target ≡ asked_wrongly (tree_of s') kind start target
    unfolding asked_wrongly is_start
    same_asked = rw (device_alike (tree_of s) (tree_of s') (trees_patched s patch h taken) start)

    abbrev packet : Packet
    packet = packet_of kind target

    carried : (a : Result Walked Refusal) (wrong : Bool) → asked_wrongly (tree_of s) kind start target ≡ wrong
        → AskedGives wrong (chassis_over s patch) kind start target a → AskedGives wrong (chassis_of s') kind start target a
    carried a true asked gives = gives
    carried a false asked gives = (
      gives.0,
      record {
        crossed = gives.1.crossed;
        walk =
            subst (λ (from : Whereabouts). Walk (chassis_of s') packet from gives.1.crossed gives.0.end)
            (starts_alike (chassis_over s patch) (chassis_of s') alike (redirect_patched s patch h taken) packet start
            (started (chassis_over s patch) sane_tried kind start target asked))
            (walk_alike (chassis_over s patch) (chassis_of s') alike sane_tried packet (starts_at (chassis_over s patch) packet start)
            gives.1.crossed gives.0.end (within_start (chassis_over s patch) sane_tried kind start target asked packet refl) gives.1.walk);
        named = gives.1.named;
      },
      gives.2,
    )

    -- and the walk's
    pub trial_walked : (a : Result Walked Refusal) → AskedGives (asked_wrongly (tree_of s) kind start target) (chassis_over s patch) kind start target a
        → TrialGives s patch kind start target a
    trial_walked a gives =
        subst (λ (got : Result Header Refusal). TriedGives got s' kind start target a) (sym read)
        (gives_read s' kind start target a h patched_read
        (subst (λ (wrong : Bool). AskedGives wrong (chassis_of s') kind start target a) same_asked
        (carried a (asked_wrongly (tree_of s) kind start target) refl gives)))

-- a refused picture or patch
pub trial_unread : (s patch : List ℕ) (kind start target : ℕ) (a : Result Walked Refusal) (r : Refusal) → reading_with s patch ≡ Err r
    → a ≡ Err r → TrialGives s patch kind start target a
trial_unread s patch kind start target a r unread e =
    subst (λ (got : Result Header Refusal). TriedGives got (patched s patch) kind start target a) (sym unread) e

-- the trial walk has one answer
pub trial_only : (s patch : List ℕ) (kind start target : ℕ) (a b : Result Walked Refusal) → TrialGives s patch kind start target a
    → TrialGives s patch kind start target b → a ≡ b
trial_only s patch kind start target a b = go (reading_with s patch)
  where
    go : (got : Result Header Refusal) → TriedGives got (patched s patch) kind start target a → TriedGives got (patched s patch) kind start target b → a ≡ b
    go (Err r) x y = x ∙ sym y
    go (Ok h) x y = walk_only (patched s patch) kind start target a b x y
