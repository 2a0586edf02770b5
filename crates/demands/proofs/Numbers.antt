-- Every number that a call gives is one of the table's. Assumes nothing.
use Prim.Native.Nat.{ℕ}
use mathlib.Core.Bool.{Bool, true, false, ◌||◌}
use mathlib.Core.List.{List, [], ◌∷◌, ◌++◌}
use mathlib.Core.Logic.{◌⊎◌, inl, inr, ⊎_elim}
use mathlib.Core.Path.{◌≡◌, refl, subst}
use lib.ListN.{length}
use lib.Dec.{eqb, ltb}
use Rattle.least.proofs.Laws.{impossible}
use Rattle.ids.specs.declared.Target.TheVariants.{Id, Addr}
use Rattle.least.specs.Least.{first_in}
use Rattle.chassis.specs.declared.Verdict.{Verdict}
use Rattle.chassis.specs.declared.Verdict.TheVariants.{Clear, Shared, Stray, Lost, Taken}
use Rattle.chassis.specs.Check.{verdict_of}
use Rattle.chassis.specs.Table.{finding_of}
use Rattle.trees.specs.Trees.{count_of}
use Rattle.picture.specs.declared.Header.{Header}
use Rattle.picture.specs.declared.refusals.Refusal.{Refusal}
use Rattle.picture.specs.declared.refusals.Rule.TheVariants.{Tree, Chain, Settings, Start}
use Rattle.picture.specs.Header.{header_of, length_wrong, edition_wrong, count_wrong, total_wrong, offset_wrong}
use Rattle.picture.specs.Reading.{breaks, misplaced_in, refused_if, refused_at, ports_reading, reading, number_of}
use Rattle.claims.specs.Claims.{chassis_of}
use Rattle.judge.specs.Checking.{check_of, check_answer, check_finding, check_number}
use Rattle.judge.specs.Claiming.{claim_asked_wrongly, claim_of, claim_answer, claim_number}
use Rattle.judge.specs.Converting.{convert_asked_wrongly, convert_of, convert_answer, convert_number}
use Rattle.judge.specs.Ends.{outcome_number}
use Rattle.judge.specs.Refusals.{refusal_finding}
use Rattle.judge.specs.Walking.{asked_wrongly, AskedGives, ReadGives, WalkGives}
use Rattle.registers.specs.declared.Mechanism.{Mechanism}
use Rattle.patches.specs.Patch.{header_misfits, ports_misplaced, vectors_misplaced}
use Rattle.patches.specs.Patched.{patched}
use Rattle.patches.specs.Reading.{patch_reading, reading_with}
use Rattle.judge.specs.Trying.{tried_check, trial_check, TriedGives, TrialGives, tried_part, trial_part, part_number}
use Rattle.demands.specs.Demands.{one_of, of_reading, of_check, of_asking, of_patch}
use Rattle.std.specs.Prelude.{Option, Some, None, Result, Ok, Err}
use Rattle.routes.specs.declared.Walked.{Walked}
use Rattle.picture.specs.declared.refusals.Refusal.TheVariants.{Length, Edition, Count, Total, Offset, Breaks, Misplaced, PatchHeader, PatchPorts, PatchVectors}
use Rattle.picture.specs.Refusals.{refusal_number}
use Rattle.ids.specs.declared.PortNo.{PortNo}
use Rattle.ids.specs.Ids.{port_no}

-- a number of one list is one of a longer list
pub in_more : (xs ys : List ℕ) (n : ℕ) → one_of xs n ≡ true → one_of (xs ++ ys) n ≡ true
in_more [] ys n e = impossible (cc)
in_more (x ∷ xs) ys n e = go (eqb n x) (in_more xs ys n) e
  where
    go : (b : Bool) → (one_of xs n ≡ true → one_of (xs ++ ys) n ≡ true) → (b || one_of xs n) ≡ true → (b || one_of (xs ++ ys) n) ≡ true
    go true more e = refl
    go false more e = more e

-- the numbers of a picture that does not read
abbrev refusals : List ℕ
refusals = 1 ∷ 2 ∷ 3 ∷ 4 ∷ 5 ∷ 6 ∷ 7 ∷ 8 ∷ 9 ∷ 10 ∷ []

abbrev Numbered : Result Header Refusal → Type 0
Numbered (Ok h) = Unit {0}
Numbered (Err r) = one_of refusals (refusal_number r) ≡ true

numbered_if : (wrong : Bool) (refusal : Refusal) (rest : Result Header Refusal) → one_of refusals (refusal_number refusal) ≡ true → Numbered rest → Numbered (refused_if wrong refusal rest)
numbered_if true refusal rest is other = is
numbered_if false refusal rest is other = other

numbered_at : (found : Option ℕ) (refusal : PortNo → Refusal) (rest : Result Header Refusal) → ((p : PortNo) → one_of refusals (refusal_number (refusal p)) ≡ true) → Numbered rest → Numbered (refused_at found refusal rest)
numbered_at (Some p) refusal rest is other = is (port_no p)
numbered_at None refusal rest is other = other

reading_numbered : (s : List ℕ) → Numbered (reading s)
unfolding reading ports_reading
reading_numbered s =
    numbered_if (length_wrong s) Length _ refl
    (numbered_if (edition_wrong (header_of s)) Edition _ refl
    (numbered_if (count_wrong (header_of s)) Count _ refl
    (numbered_if (total_wrong (length s) (header_of s)) Total _ refl
    (numbered_if (offset_wrong (length s) (header_of s)) Offset _ refl
    (numbered_at (first_in (breaks Tree s) 0 (count_of s)) (Breaks Tree) _ (λ p. refl)
    (numbered_at (first_in (breaks Chain s) 0 (count_of s)) (Breaks Chain) _ (λ p. refl)
    (numbered_at (first_in (breaks Settings s) 0 (count_of s)) (Breaks Settings) _ (λ p. refl)
    (numbered_at (first_in (breaks Start s) 0 (count_of s)) (Breaks Start) _ (λ p. refl)
    (numbered_at (misplaced_in s) Misplaced _ (λ p. refl) tt)))))))))

-- a refusal of the reading is one of 1 to 10, so one of every call's numbers, and never 0
refusal_of_table : (others : List ℕ) (n : ℕ) → one_of refusals n ≡ true → one_of (of_reading ++ others) n ≡ true
refusal_of_table others n e = in_more of_reading others n (zero_too (eqb n 0) e)
  where
    zero_too : (b : Bool) → one_of refusals n ≡ true → (b || one_of refusals n) ≡ true
    zero_too true e = refl
    zero_too false e = e

pub never_zero : (s : List ℕ) (r : Refusal) → reading s ≡ Err r → (refusal_number r) ≡ 0 → ⊥
never_zero s r e none =
    let told : one_of refusals (refusal_number r) ≡ true = subst Numbered e (reading_numbered s) in
    let zero : one_of refusals 0 ≡ true = subst (λ (n : ℕ). one_of refusals n ≡ true) none told in
    impossible (cc)

verdict_numbered : (v : Verdict) → one_of of_check (finding_of v).number ≡ true
verdict_numbered Clear = refl
verdict_numbered (Shared (Id rid) p q) = refl
verdict_numbered (Shared (Addr a) p q) = refl
verdict_numbered (Stray (Id rid) p) = refl
verdict_numbered (Stray (Addr a) p) = refl
verdict_numbered (Lost p) = refl
verdict_numbered (Taken t p) = refl

module _ (s : List ℕ) where
  pub reading_in_table : one_of of_reading (number_of (reading s)) ≡ true
  reading_in_table = go (reading s) (reading_numbered s)
    where
      either : (n : ℕ) (b : Bool) → one_of refusals n ≡ true → (b || one_of refusals n) ≡ true
      either n true told = refl
      either n false told = told

      go : (got : Result Header Refusal) → Numbered got → one_of of_reading (number_of got) ≡ true
      go (Err r) told = either (refusal_number r) (eqb (refusal_number r) 0) told
      go (Ok h) told = refl

  pub check_numbered : one_of of_check (check_number (check_answer s)) ≡ true
  unfolding check_of check_finding refusal_finding
  check_numbered = go (reading s) (reading_numbered s)
    where
      go : (got : Result Header Refusal) → Numbered got → one_of of_check (check_number (check_of got s)) ≡ true
      go (Err r) told = refusal_of_table (11 ∷ 12 ∷ 13 ∷ 14 ∷ 15 ∷ 18 ∷ []) (refusal_number r) told
      go (Ok h) told = verdict_numbered (verdict_of (chassis_of s))

  pub claim_numbered : (port kind target : ℕ) → one_of of_asking (claim_number (claim_answer s port kind target)) ≡ true
  unfolding claim_of
  claim_numbered port kind target = go (reading s) (reading_numbered s)
    where
      asked : (wrong : Bool) (h : Header) → claim_asked_wrongly h.count port kind target ≡ wrong
          → one_of of_asking (claim_number (claim_of (Ok h) s port kind target)) ≡ true
      asked true h e = rw e
      asked false h e = rw e

      go : (got : Result Header Refusal) → Numbered got → one_of of_asking (claim_number (claim_of got s port kind target)) ≡ true
      go (Err r) told = refusal_of_table (16 ∷ []) (refusal_number r) told
      go (Ok h) told = asked (claim_asked_wrongly h.count port kind target) h refl

  pub convert_numbered : (port target : ℕ) → one_of of_asking (convert_number (convert_answer s port target)) ≡ true
  unfolding convert_of
  convert_numbered port target = go (reading s) (reading_numbered s)
    where
      asked : (wrong : Bool) (h : Header) → convert_asked_wrongly h.count port target ≡ wrong
          → one_of of_asking (convert_number (convert_of (Ok h) s port target)) ≡ true
      asked true h e = rw e
      asked false h e = rw e

      go : (got : Result Header Refusal) → Numbered got → one_of of_asking (convert_number (convert_of got s port target)) ≡ true
      go (Err r) told = refusal_of_table (16 ∷ []) (refusal_number r) told
      go (Ok h) told = asked (convert_asked_wrongly h.count port target) h refl

  pub walk_numbered : (kind start target : ℕ) (a : Result Walked Refusal) → WalkGives s kind start target a → one_of of_asking (outcome_number a) ≡ true
  walk_numbered kind start target a = go (reading s) (reading_numbered s)
    where
      asked : (wrong : Bool) → AskedGives wrong (chassis_of s) kind start target a → one_of of_asking (outcome_number a) ≡ true
      asked true e = rw e
      asked false e = rw e.2

      go : (got : Result Header Refusal) → Numbered got → ReadGives got s kind start target a → one_of of_asking (outcome_number a) ≡ true
      go (Err r) told e = rw e (refusal_of_table (16 ∷ []) (refusal_number r) told)
      go (Ok h) told e = asked (asked_wrongly (chassis_of s).tree kind start target) e

-- the numbers of a patch beside those of a list
in-patch : (xs : List ℕ) (n : ℕ) → one_of of_patch n ≡ true → one_of (xs ++ of_patch) n ≡ true
in-patch [] n e = e
in-patch (x ∷ xs) n e = go (eqb n x) (in-patch xs n e)
  where
    go : (b : Bool) → one_of (xs ++ of_patch) n ≡ true → (b || one_of (xs ++ of_patch) n) ≡ true
    go true other = refl
    go false other = other

-- a refusal of picture or patch is one of 1 to 10 or one of 30 to 32
abbrev Tried : Result Header Refusal → Type 0
Tried (Ok h) = Unit {0}
Tried (Err r) = (one_of refusals (refusal_number r) ≡ true) ⊎ (one_of of_patch (refusal_number r) ≡ true)

tried_if : (wrong : Bool) (refusal : Refusal) (rest : Result Header Refusal) → one_of of_patch (refusal_number refusal) ≡ true → Tried rest → Tried (refused_if wrong refusal rest)
tried_if true refusal rest is other = inr is
tried_if false refusal rest is other = other

reading_tried : (s patch : List ℕ) → Tried (reading_with s patch)
unfolding patch_reading
reading_tried s patch = go (reading s) (reading_numbered s)
  where
    go : (got : Result Header Refusal) → Numbered got → Tried (patch_reading got s patch)
    go (Err r) told = inl told
    go (Ok h) told =
        tried_if (header_misfits patch) PatchHeader _ refl
        (tried_if (ports_misplaced h.count patch) PatchPorts _ refl
        (tried_if (vectors_misplaced s patch) PatchVectors _ refl tt))

tried_of_table : (others : List ℕ) (n : ℕ) → (one_of refusals n ≡ true) ⊎ (one_of of_patch n ≡ true) → one_of ((of_reading ++ others) ++ of_patch) n ≡ true
tried_of_table others n told =
    ⊎_elim (λ e. in_more (of_reading ++ others) of_patch n (refusal_of_table others n e)) (λ e. in-patch (of_reading ++ others) n e) told

pub tried_never_zero : (s patch : List ℕ) (r : Refusal) → reading_with s patch ≡ Err r → (refusal_number r) ≡ 0 → ⊥
tried_never_zero s patch r e none =
    ⊎_elim (λ told. let zero : one_of refusals 0 ≡ true = subst (λ (n : ℕ). one_of refusals n ≡ true) none told in impossible (cc))
    (λ told. let zero : one_of of_patch 0 ≡ true = subst (λ (n : ℕ). one_of of_patch n ≡ true) none told in impossible (cc))
    (subst Tried e (reading_tried s patch))

module _ (s patch : List ℕ) where
  pub tried_in_table : one_of (of_reading ++ of_patch) (number_of (reading_with s patch)) ≡ true
  tried_in_table = go (reading_with s patch) (reading_tried s patch)
    where
      go : (got : Result Header Refusal) → Tried got → one_of (of_reading ++ of_patch) (number_of got) ≡ true
      go (Err r) told = tried_of_table [] (refusal_number r) told
      go (Ok h) told = refl

  pub trial_check_numbered : one_of (of_check ++ of_patch) (check_number (trial_check s patch)) ≡ true
  unfolding tried_check check_finding refusal_finding
  trial_check_numbered = go (reading_with s patch) (reading_tried s patch)
    where
      go : (got : Result Header Refusal) → Tried got → one_of (of_check ++ of_patch) (check_number (tried_check got (patched s patch))) ≡ true
      go (Err r) told = tried_of_table (11 ∷ 12 ∷ 13 ∷ 14 ∷ 15 ∷ 18 ∷ []) (refusal_number r) told
      go (Ok h) told = in_more of_check of_patch (check_number (check_answer (patched s patch))) (check_numbered (patched s patch))

  pub trial_walk_numbered : (kind start target : ℕ) (a : Result Walked Refusal) → TrialGives s patch kind start target a
      → one_of (of_asking ++ of_patch) (outcome_number a) ≡ true
  trial_walk_numbered kind start target a = go (reading_with s patch) (reading_tried s patch)
    where
      go : (got : Result Header Refusal) → Tried got → TriedGives got (patched s patch) kind start target a
          → one_of (of_asking ++ of_patch) (outcome_number a) ≡ true
      go (Err r) told e = rw e (tried_of_table (16 ∷ []) (refusal_number r) told)
      go (Ok h) told e = in_more of_asking of_patch (outcome_number a) (walk_numbered (patched s patch) kind start target a e)

  pub trial_part_numbered : (port : ℕ) (m : Mechanism) → one_of (of_asking ++ of_patch) (part_number (trial_part s patch port m)) ≡ true
  unfolding tried_part
  trial_part_numbered port m = go (reading_with s patch) (reading_tried s patch)
    where
      below : (b : Bool) (h : Header) → ltb port h.count ≡ b → one_of (of_asking ++ of_patch) (part_number (tried_part (Ok h) s patch port m)) ≡ true
      below true h e = rw e
      below false h e = rw e

      go : (got : Result Header Refusal) → Tried got → one_of (of_asking ++ of_patch) (part_number (tried_part got s patch port m)) ≡ true
      go (Err r) told = tried_of_table (16 ∷ []) (refusal_number r) told
      go (Ok h) told = below (ltb port h.count) h refl
