-- The three demands, proved of the definitions that the public calls promise. Assumes nothing.
use Prim.Native.Nat.{ℕ, ◌-◌, ◌≤◌}
use Rattle.least.proofs.Laws.{impossible}
use Rattle.chassis.proofs.Bools.{never_both_values}
use mathlib.Core.Bool.{Bool, true, false}
use mathlib.Core.List.{List, ◌++◌}
use mathlib.Core.Logic.{◌⊎◌, inl, inr, ⊎_elim}
use mathlib.Core.Path.{◌≡◌, refl, sym, ap, subst, ◌∙◌}
use native.Mathlib.Nat.{le_trans}
use native.Mathlib.Omega.{arith}
use lib.ListN.{length, drop, length-append, length-replicate}
use Rattle.ids.specs.declared.PortNo.{PortNo}
use Rattle.ids.specs.declared.Target.{Target}
use Rattle.ids.specs.declared.Target.TheVariants.{Id, Addr}
use Rattle.chassis.specs.declared.Verdict.{Verdict}
use Rattle.chassis.specs.declared.Verdict.TheVariants.{Clear, Shared, Stray, Lost, Taken}
use Rattle.chassis.specs.declared.Fault.TheVariants.{Shared as Faulty-as-Shared, Stray as Faulty-as-Stray}
use Rattle.chassis.specs.declared.Hold.{Hold}
use Rattle.chassis.specs.Chassis.{Chassis, holds, at_least_one, hold_of, is_held}
use Rattle.chassis.proofs.NamedHold.{pair_held, itself_held, stray_held, taken_held, taken_not_own}
use Rattle.chassis.specs.Check.{faulty, verdict_of}
use Rattle.chassis.specs.Table.{finding_of}
use Rattle.chassis.specs.Findings.{NoneWith, Says}
use Rattle.chassis.specs.Walk.{Walk, starts_at}
use Rattle.chassis.proofs.CheckLaws.{shared_true}
use Rattle.chassis.proofs.Demand3.{clean_one_end}
use Rattle.chassis.proofs.Steps.{left_most}
use Rattle.chassis.proofs.Verdicts.{verdict_says}
use Rattle.chassis.proofs.Walks.{walk_exists, walk_short}
use Rattle.paths.specs.declared.Path.{Path}
use Rattle.ids.specs.Ids.{no_port}
use Rattle.paths.specs.Paths.{path_of}
use Rattle.picture.specs.declared.Header.{Header}
use Rattle.picture.specs.Reading.{reading}
use Rattle.trees.specs.Trees.{tree_of}
use Rattle.claims.specs.Claims.{chassis_of}
use Rattle.routes.specs.declared.Walked.{Walked}
use Rattle.judge.specs.Checking.{check_of, check_answer, check_finding, check_number}
use Rattle.judge.specs.Asking.{target_asked}
use Rattle.judge.specs.Claiming.{claim_asked_wrongly, claim_of, claim_answer}
use Rattle.judge.specs.Converting.{convert_asked_wrongly, convert_of, convert_answer}
use Rattle.judge.specs.Refusals.{refusal_finding}
use Rattle.picture.specs.declared.refusals.Refusal.TheVariants.{AskedWrongly}
use Rattle.judge.specs.Walking.{packet_of, asked_wrongly, AskedGives, ReadGives, WalkGives}
use Rattle.judge.specs.Trying.{trial_check, TriedGives, TrialGives}
use Rattle.judge.proofs.Trials.{trial_only}
use Rattle.judge.proofs.Walks.{walk_only, within_start}
use Rattle.picture.proofs.WhatReads.{sane_read}
use Rattle.patches.specs.Patched.{patched}
use Rattle.patches.specs.Reading.{reading_with}
use Rattle.fiswalend.specs.Calls.{CheckCall, too_short, returned, written, WalkLeaves}
use Rattle.fiswalend.specs.Found.{finding_bytes}
use Rattle.fiswalend.specs.Walked.{walk_bytes}
use Rattle.judge.specs.Ends.{outcome_number}
use Rattle.fiswalend.proofs.Forty.{under_40}
use Rattle.fiswalend.proofs.WalkCalls.{leaves_only}
use Rattle.demands.specs.Demands.{Demand1, OneBuffer, Demand1Buffer, Names, WalksIn, Demand2, Demand3, Overlap, FailsExactly, OverlapExactly}
use Rattle.demands.proofs.Numbers.{reading_in_table, check_numbered, claim_numbered, convert_numbered, walk_numbered, never_zero}
use Rattle.std.specs.Prelude.{Result, Ok, Err}
use Rattle.picture.specs.declared.refusals.Refusal.{Refusal}

pub demand_1 : (s : List ℕ) → Demand1 s
demand_1 s =
    record { reads = reading_in_table s; check = check_numbered s; walk = walk_numbered s; claim = claim_numbered s; convert = convert_numbered s }

-- a path of at most 32 ports has 32 places, and names them first
names : (path : Path) (crossed : List PortNo) → length crossed ≤ 32 → path ≡ path_of crossed → Names path crossed
unfolding path_of
names path crossed short is =
    record {
      count = ap (λ (p : Path). p.count) is;
      places = (32 - length crossed, ap (λ (p : Path). p.places) is, ap (λ (p : Path). length p.places) is ∙ whole);
    }
  where
    whole : length (crossed ++ lib.ListN.replicate (32 - length crossed) no_port) ≡ 32
    whole = simp (length-append, length-replicate) (omega arith)

module _ (s : List ℕ) where
  claims_it : (h : Header) → reading s ≡ Ok h → (port kind target : ℕ) → claim_asked_wrongly h.count port kind target ≡ false
      → claim_answer s port kind target ≡ Ok (hold_of (chassis_of s) (target_asked kind target) port)
  unfolding claim_of
  claims_it h is port kind target right = rw (is, right)

  held_it : (port : ℕ) (t : Target) → holds (chassis_of s) t port ≡ is_held (hold_of (chassis_of s) t port)
  unfolding holds is_held
  held_it port t = refl

  converts_it : (h : Header) → reading s ≡ Ok h → (port target : ℕ) → convert_asked_wrongly h.count port target ≡ false
      → convert_answer s port target ≡ Ok ((chassis_of s).conversion port (Id (record { 0 = target })))
  unfolding convert_of
  converts_it h is port target right = rw (is, right)

module _ (s : List ℕ) (kind start target : ℕ) where
  -- the walk's answer: a refusal, or where the rules lead
  answered : (a : Result Walked Refusal) × WalkGives s kind start target a
  answered = read (reading s) refl
    where
      asked : (h : Header) → reading s ≡ Ok h → (wrong : Bool) → asked_wrongly (tree_of s) kind start target ≡ wrong
          → (a : Result Walked Refusal) × AskedGives wrong (chassis_of s) kind start target a
      asked h is true wrong = (Err AskedWrongly, refl)
      asked h is false right =
          let w = walk_exists (chassis_of s) (packet_of kind target) (sane_read s h is) (starts_at (chassis_of s) (packet_of kind target) start) (within_start (chassis_of s) (sane_read s h is) kind start target right (packet_of kind target) refl) in
          let walked : Walked = record { path = path_of w.path; end = w.end } in
          (Ok walked, (walked, record { crossed = w.path; walk = w.walk; named = refl }, refl))

      read : (got : Result Header Refusal) → reading s ≡ got → (a : Result Walked Refusal) × ReadGives got s kind start target a
      read (Err r) is = (Err r, refl)
      read (Ok h) is = asked h is (asked_wrongly (tree_of s) kind start target) refl

  Named : Walked → Type 0
  Named w = (crossed : List PortNo) × Walk (chassis_of s) (packet_of kind target) (starts_at (chassis_of s) (packet_of kind target) start) crossed w.end × Names w.path crossed

  asked_named : (w : Walked) (h : Header) → reading s ≡ Ok h → (wrong : Bool) → asked_wrongly (tree_of s) kind start target ≡ wrong
      → AskedGives wrong (chassis_of s) kind start target (Ok w) → Named w
  unfolding Named
  asked_named w h is true wrong gives = impossible (cc)
  asked_named w h is false right given =
      let arrives = given.1 in
      let gives = given.2 in
      let same : given.0 ≡ w = cc in
      let within = within_start (chassis_of s) (sane_read s h is) kind start target right (packet_of kind target) refl in
      let short = le_trans (walk_short (chassis_of s) (packet_of kind target) (sane_read s h is) within arrives.walk) (left_most (chassis_of s) (starts_at (chassis_of s) (packet_of kind target) start)) in
      subst Named same (arrives.crossed, arrives.walk, names given.0.path arrives.crossed short arrives.named)

  read_named : (w : Walked) (got : Result Header Refusal) → reading s ≡ got → ReadGives got s kind start target (Ok w) → Named w
  read_named w (Err r) is gives = impossible (cc)
  read_named w (Ok h) is gives = asked_named w h is (asked_wrongly (tree_of s) kind start target) refl gives

pub walks_in : (s : List ℕ) → WalksIn (chassis_of s) (WalkGives s)
unfolding Named
walks_in s =
    record {
      answers = answered s;
      only = walk_only s;
      named = λ kind start target w gives. read_named s kind start target w (reading s) refl gives;
    }

-- a buffer under 40 bytes, and one that the answer fits in
module _ (before : List ℕ) where
  one_check : (a : Result Verdict Refusal) → OneBuffer before (CheckCall a before)
  unfolding returned written
  one_check a =
      record {
        short = λ l number after call. (call.0 ∙ rw (under_40 before l), call.1 ∙ rw (under_40 before l));
        answers = (returned before (check_number a), written before (finding_bytes (check_finding a)), (refl, refl));
        only = λ m n x y v w. (v.0 ∙ sym w.0, v.1 ∙ sym w.1);
      }

  one_walk : (Gives : Result Walked Refusal → Type 0) → ((a b : Result Walked Refusal) → Gives a → Gives b → a ≡ b) → (a : Result Walked Refusal) → Gives a
      → OneBuffer before (WalkLeaves (too_short before) Gives before)
  one_walk Gives one a gives =
      record {
        short = λ l number after call. subst (λ (b : Bool). WalkLeaves b Gives before number after) (under_40 before l) call;
        answers = called (too_short before) refl;
        only = leaves_only Gives one before;
      }
    where
      called : (short : Bool) → too_short before ≡ short → (number : ℕ) × (after : List ℕ) × WalkLeaves (too_short before) Gives before number after
      called true short = (17, before, subst (λ (b : Bool). WalkLeaves b Gives before 17 before) (sym short) (refl, refl))
      called false long = (
        outcome_number a,
        walk_bytes a ++ drop 40 before,
        subst (λ (b : Bool). WalkLeaves b Gives before (outcome_number a) (walk_bytes a ++ drop 40 before)) (sym long)
            (a, gives, refl, refl),
      )

pub tried : (s patch : List ℕ) (kind start target : ℕ) → (a : Result Walked Refusal) × TrialGives s patch kind start target a
tried s patch kind start target = go (reading_with s patch)
  where
    go : (got : Result Header Refusal) → (a : Result Walked Refusal) × TriedGives got (patched s patch) kind start target a
    go (Err r) = (Err r, refl)
    go (Ok h) = answered (patched s patch) kind start target

pub demand_1_buffer : (s before : List ℕ) → Demand1Buffer s before
demand_1_buffer s before =
    record {
      check = one_check before (check_answer s);
      walk = λ kind start target.
          let a = answered s kind start target in
          one_walk before (WalkGives s kind start target) (walk_only s kind start target) a.0 a.1;
      trial_check = λ patch. one_check before (trial_check s patch);
      trial_walk = λ patch kind start target.
          let a = tried s patch kind start target in
          one_walk before (TrialGives s patch kind start target) (trial_only s patch kind start target) a.0 a.1;
    }

pub demand_2 : (s : List ℕ) → Demand2 s
demand_2 s = record { claims = claims_it s; joined = λ port t. refl; held = held_it s; converts = converts_it s; walks = walks_in s }

-- a verdict of number 0 is Clear
clear_only : (v : Verdict) → (finding_of v).number ≡ 0 → v ≡ Clear
clear_only Clear e = refl
clear_only (Shared (Id rid) p q) e = absurd (omega arith)
clear_only (Shared (Addr a) p q) e = absurd (omega arith)
clear_only (Stray (Id rid) p) e = absurd (omega arith)
clear_only (Stray (Addr a) p) e = absurd (omega arith)
clear_only (Lost p) e = absurd (omega arith)
clear_only (Taken t p) e = absurd (omega arith)

-- a picture that passes reads, and nothing is at fault in it
pub passed_clear : (s : List ℕ) → check_number (check_answer s) ≡ 0 → (h : Header) × (reading s ≡ Ok h) × Says (chassis_of s) Clear
unfolding check_of check_finding refusal_finding
passed_clear s passed = go (reading s) refl passed
  where
    go : (got : Result Header Refusal) → reading s ≡ got → (check_finding (check_of got s)).number ≡ 0 → (h : Header) × (reading s ≡ Ok h) × Says (chassis_of s) Clear
    go (Err r) is none = absurd (never_zero s r is none)
    go (Ok h) is none =
        let clear = clear_only (verdict_of (chassis_of s)) none in
        (h, is, subst (Says (chassis_of s)) clear (verdict_says (chassis_of s)))

pub demand_3 : (s : List ℕ) → Demand3 s
demand_3 s passed t range =
    let clear = passed_clear s passed in
    clean_one_end (chassis_of s) t (sane_read s clear.0 clear.1)
    (record { unshared = clear.2.0 Faulty-as-Shared t range; unstrayed = clear.2.0 Faulty-as-Stray t range })

-- the answer for a picture that reads is the verdict of its chassis
pub judged : (s : List ℕ) (h : Header) → reading s ≡ Ok h → check_answer s ≡ Ok (verdict_of (chassis_of s))
unfolding check_of
judged s h is = rw is

abbrev Either : ℕ → Type 0
Either n = (n ≡ 11) ⊎ (n ≡ 12)

module _ (c : Chassis) where
  unseen : {A : Type 0} → Overlap c → NoneWith Faulty-as-Shared c → A
  unseen o none =
      never_both_values (faulty Faulty-as-Shared c o.target) ((shared_true c o.target).1 o.clashing) (none o.target o.in_range)

  -- 11 and 12 are the numbers of a shared target, and no other verdict leaves one unseen
  overlap_told : (v : Verdict) → Says c v → Either (finding_of v).number → Overlap c
  overlap_told (Shared t p q) says e =
      record { target = t; in_range = says.0.in_range; clashing = (shared_true c t).0 says.0.passes }
  overlap_told Clear says e = ⊎_elim (λ x. absurd (omega arith)) (λ x. absurd (omega arith)) e
  overlap_told (Stray (Id rid) p) says e = ⊎_elim (λ x. absurd (omega arith)) (λ x. absurd (omega arith)) e
  overlap_told (Stray (Addr a) p) says e = ⊎_elim (λ x. absurd (omega arith)) (λ x. absurd (omega arith)) e
  overlap_told (Lost p) says e = ⊎_elim (λ x. absurd (omega arith)) (λ x. absurd (omega arith)) e
  overlap_told (Taken t p) says e = ⊎_elim (λ x. absurd (omega arith)) (λ x. absurd (omega arith)) e

  overlap_given : Overlap c → (v : Verdict) → Says c v → Either (finding_of v).number
  overlap_given o (Shared (Id rid) p q) says = inl refl
  overlap_given o (Shared (Addr a) p q) says = inr refl
  overlap_given o Clear says = unseen o (says.0 Faulty-as-Shared)
  overlap_given o (Stray t p) says = unseen o says.0
  overlap_given o (Lost p) says = unseen o says.0
  overlap_given o (Taken t p) says = unseen o says.0

-- a check that gives the verdict of a chassis where the lent bytes read
pub fails_exactly : (got : Result Header Refusal) (a : Result Verdict Refusal) (c : Chassis) → ((h : Header) → got ≡ Ok h → a ≡ Ok (verdict_of c))
    → ((v : Verdict) → a ≡ Ok v → verdict_of c ≡ v) → FailsExactly got a c
unfolding check_finding
fails_exactly got a c judges same =
    record {
      exactly = λ h is. (
        λ e. overlap_told c (verdict_of c) (verdict_says c) (subst Either (ap check_number (judges h is)) e),
        λ o. subst Either (sym (ap check_number (judges h is))) (overlap_given c o (verdict_of c) (verdict_says c)),
      );
      shown = λ v e. subst (Says c) (same v e) (verdict_says c);
    }

pub judged_only : (s : List ℕ) (v : Verdict) → check_answer s ≡ Ok v → verdict_of (chassis_of s) ≡ v
unfolding check_of
judged_only s v = go (reading s)
  where
    go : (got : Result Header Refusal) → check_of got s ≡ Ok v → verdict_of (chassis_of s) ≡ v
    go (Err r) e = impossible (cc)
    go (Ok h) e = cc

pub overlap_exactly : (s : List ℕ) → OverlapExactly s
overlap_exactly s = fails_exactly (reading s) (check_answer s) (chassis_of s) (judged s) (judged_only s)

-- each port that 11 to 14 name holds the target, a port that is a pair with itself owns it and claims it, and one that 18 names claims it and does not own it
module _ (s : List ℕ) (t : Target) where
  pub pair_named : (h k : Hold) → check_answer s ≡ Ok (Shared t h k) → (is_held h ≡ true) × (is_held k ≡ true)
  pair_named h k is = pair_held (chassis_of s) (λ p u. refl) t h k ((overlap_exactly s).shown (Shared t h k) is)

  pub itself_named : (h k : Hold) → check_answer s ≡ Ok (Shared t h k) → h.port.0 ≡ k.port.0
      → (h.own ≡ true) × (at_least_one h.decoders ≡ true)
  itself_named h k is same = itself_held (chassis_of s) (λ p u. refl) t h k ((overlap_exactly s).shown (Shared t h k) is) same

  pub stray_named : (h : Hold) → check_answer s ≡ Ok (Stray t h) → is_held h ≡ true
  stray_named h is = stray_held (chassis_of s) (λ p u. refl) t h ((overlap_exactly s).shown (Stray t h) is)

  pub taken_named : (h : Hold) → check_answer s ≡ Ok (Taken t h) → (h.own ≡ false) × (at_least_one h.decoders ≡ true)
  taken_named h is =
      let says = (overlap_exactly s).shown (Taken t h) is in
      (taken_not_own (chassis_of s) (λ p u. refl) t h says, taken_held (chassis_of s) (λ p u. refl) t h says)
