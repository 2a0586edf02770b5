-- Every port is found: in a picture that passes, alone or with a patch, the host's configuration request for the own ID of a port ends at
-- that port's Function. Assumes nothing.
use Prim.Native.Nat.{ℕ, ◌+◌, ◌<◌, ◌^◌}
use mathlib.Core.Bool.{false}
use mathlib.Core.List.{List}
use mathlib.Core.Path.{◌≡◌, refl, sym, subst}
use native.Mathlib.Omega.{arith}
use borrow.Author.Tests.{lt-leb}
use Rattle.ids.specs.Ids.{port_no}
use Rattle.ids.specs.declared.Target.TheVariants.{Id}
use Rattle.lent.specs.Lent.{u16_at}
use Rattle.chassis.specs.declared.End.TheVariants.{Function}
use Rattle.chassis.specs.declared.Fault.TheVariants.{Shared, Stray, Taken}
use Rattle.chassis.specs.Walk.{come_to}
use Rattle.chassis.proofs.EveryPort.{HostFinds, host_finds}
use Rattle.registers.specs.declared.Port.{Port}
use Rattle.registers.specs.Record.{port_at, record_in}
use Rattle.trees.specs.Trees.{tree_of, count_of}
use Rattle.paths.specs.Paths.{path_of}
use Rattle.picture.specs.declared.Header.{Header}
use Rattle.picture.specs.Layout.{vector_of}
use Rattle.picture.specs.Reading.{reading}
use Rattle.picture.proofs.WhatReads.{sane_read, count_read}
use Rattle.patches.specs.Patched.{patched}
use Rattle.patches.specs.Reading.{reading_with}
use Rattle.claims.specs.Claims.{chassis_of}
use Rattle.claims.proofs.Converts.{converts}
use Rattle.routes.specs.declared.Walked.{Walked}
use Rattle.judge.specs.Asking.{id_too_large}
use Rattle.judge.specs.Checking.{check_answer, check_finding, check_number}
use Rattle.judge.specs.Refusals.{refusal_finding}
use Rattle.judge.specs.Trying.{tried_check, TriedGives}
use Rattle.judge.specs.Walking.{packet_of, is_start, asked_wrongly, WalkGives}
use Rattle.judge.proofs.Trials.{patched_read}
use Rattle.demands.specs.Demands.{Bytes, EveryPortFound, TrialEveryPortFound}
use Rattle.demands.proofs.Demands.{passed_clear}
use Rattle.demands.proofs.Numbers.{tried_never_zero}
use Rattle.demands.proofs.Trials.{trial_2}
use Rattle.std.specs.Prelude.{Result, Ok, Err}
use Rattle.picture.specs.declared.refusals.Refusal.{Refusal}

-- an own ID has 16 bits
own_small : (s : List ℕ) → Bytes s → (p : ℕ) → (port_at s p).own_id.0 < 2 ^ 16
unfolding port_at u16_at
own_small s bytes p = omega (arith, bytes (record_in s p + 2), bytes (record_in s p + 2 + 1))

module _ (s : List ℕ) (p : ℕ) (small : (chassis_of s).own_id p < 2 ^ 16) where
  asked_rightly : asked_wrongly (tree_of s) 2 255 ((chassis_of s).own_id p) ≡ false
  unfolding asked_wrongly id_too_large is_start
  asked_rightly = rw (lt-leb (2 ^ 16) ((chassis_of s).own_id p) small)

  Found : Type 0
  Found = (w : Walked) × WalkGives s 2 255 ((chassis_of s).own_id p) (Ok w) × (w.end ≡ Function (port_no p))

  answered : (h : Header) → reading s ≡ Ok h → HostFinds (chassis_of s) (record { 0 = (chassis_of s).own_id p }) (Function (port_no p)) → Found
  unfolding Found packet_of come_to
  answered h is finds =
      let walked : Walked = record { path = path_of finds.path; end = Function (port_no p) } in
      (walked, rw is (rw asked_rightly (walked, record { crossed = finds.path; walk = finds.walk; named = refl }, refl)), refl)

  found : check_number (check_answer s) ≡ 0 → p < count_of s → Found
  found passed l =
      let clear = passed_clear s passed in
      answered clear.0 clear.1
      (host_finds (chassis_of s) (sane_read s clear.0 clear.1) (converts s (vector_of s)) p l
      (record { unshared = clear.2.0 Shared (Id (record { 0 = (chassis_of s).own_id p })) small; unstrayed = clear.2.0 Stray (Id (record { 0 = (chassis_of s).own_id p })) small })
      (clear.2.0 Taken (Id (record { 0 = (chassis_of s).own_id p })) small) (clear.2.1 p l))

pub every_port_found : (s : List ℕ) → EveryPortFound s
unfolding Found
every_port_found s bytes passed p l = found s p (own_small s bytes p) passed l

pub trial_every_port_found : (s patch : List ℕ) → TrialEveryPortFound s patch
unfolding Found tried_check check_finding refusal_finding
trial_every_port_found s patch bytes passed p l = go (reading_with s patch) refl passed
  where
    go : (got : Result Header Refusal) → reading_with s patch ≡ got → (check_finding (tried_check got (patched s patch))).number ≡ 0
        → (w : Walked) × TriedGives got (patched s patch) 2 255 ((chassis_of (patched s patch)).own_id p) (Ok w) × (w.end ≡ Function (port_no p))
    go (Err r) is none = absurd (tried_never_zero s patch r is none)
    go (Ok h) is none =
        let there : p < h.count = rw (count_read (patched s patch) h (patched_read s patch h is)) l in
        let small = subst (λ (port : Port). port.own_id.0 < 2 ^ 16) (sym ((trial_2 s patch).registers h is p there)) (own_small s bytes p) in
        found (patched s patch) p small none l
