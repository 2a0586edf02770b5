-- Worked trials, so that no statement about a picture and a patch is empty: the worked chassis with the patch of no ports passes, and a
-- picture of one port, which passes, fails with a patch that sets the entry of its own ID. Assumes nothing.
use Prim.Native.Nat.{ℕ}
use mathlib.Core.Bool.{Bool, true, false, and-false}
use mathlib.Core.Logic.{◌⊎◌}
use mathlib.Core.Path.{◌≡◌, refl, ap, ◌∙◌}
use native.Mathlib.Omega.{arith}
use lib.Dec.{eqb}
use borrow.Author.Tests.{ne_eqb}
use Rattle.ids.specs.declared.Target.{Target}
use Rattle.ids.specs.declared.Target.TheVariants.{Id, Addr}
use Rattle.ids.specs.Ids.{port_no}
use Rattle.least.specs.Least.{first_of, first_in}
use Rattle.lent.specs.Lent.{u16_at, u32_at}
use Rattle.vectors.specs.Vectors.{is_set, hits}
use Rattle.chassis.specs.declared.Fault.{Fault}
use Rattle.chassis.specs.declared.Fault.TheVariants.{Shared, Stray, Taken}
use Rattle.chassis.specs.declared.Hold.{Hold}
use Rattle.chassis.specs.declared.Verdict.TheVariants.{Clear, Shared as Found-as-Shared}
use Rattle.chassis.specs.Chassis.{at_least_one}
use Rattle.chassis.specs.Check.{clash, clashes_with, strays_at, own_id_lost, taken_at, faulty}
use Rattle.chassis.specs.Findings.{Lowest, Earlier, NoneWith, Says, with_itself}
use Rattle.chassis.specs.OneEnd.{InRange, OneEnd}
use Rattle.chassis.specs.Tree.{any_below, tree_broken, one_above, above, chain_too_long}
use Rattle.chassis.proofs.Ports.{any_below_false}
use Rattle.chassis.proofs.Verdicts.{verdict_exactly}
use Rattle.registers.specs.Record.{bridge_at, fpb_at, port_at, record_at}
use Rattle.registers.specs.Rules.{size_reserved, granularity_allowed, mechanism_wrong, memory_bits_wrong, settings_wrong, with_ari, start_broken, start_wrong}
use Rattle.registers.specs.Vectors.{settings_of, vector_bytes}
use Rattle.picture.specs.Header.{header_of, length_wrong, edition_wrong, count_wrong, total_wrong, offset_wrong}
use Rattle.picture.specs.Layout.{running_offset, place_wrong, end_wrong, vector_of}
use Rattle.picture.specs.declared.Header.{Header}
use Rattle.picture.specs.Reading.{breaks, misplaced_in, ports_reading, reading}
use Rattle.patches.specs.Patch.{row_at, port_in, offset_at, running_in, header_misfits, not_rising, port_misplaced, ports_misplaced, offset_misplaced, vectors_misplaced}
use Rattle.patches.specs.Patched.{put_in, new_vectors, patched_to, patched}
use Rattle.patches.specs.Reading.{patch_reading, reading_with}
use Rattle.claims.specs.Decoders.{bus_claims, vector_claims, memory_space_enabled, id_decoders, address_decoders}
use Rattle.claims.specs.Claims.{chassis_of}
use Rattle.claims.proofs.Joined.{claims_id}
use Rattle.judge.specs.Checking.{check_of, check_answer, check_finding, check_number}
use Rattle.judge.specs.Trying.{tried_check, trial_check}
use Rattle.demands.specs.Demands.{Overlap}
use Rattle.demands.specs.Worked.{zeros, u16, u32, worked, nothing, one_port, own_entry}
use Rattle.demands.proofs.Trials.{trial_2, trial_3, trial_overlap}
use Rattle.demands.proofs.FourPorts.{four_ports, id}
use Rattle.demands.proofs.Worked.{worked_reads, worked_passes}
use Rattle.demands.proofs.Zeros.{clear}
use Rattle.std.specs.Prelude.{Ok}

-- the patch of no ports is accepted
pub nothing_accepted : reading_with worked nothing ≡ Ok four_ports
unfolding u16 u32 u16_at u32_at row_at running_in header_misfits ports_misplaced vectors_misplaced any_below patch_reading
nothing_accepted = rw worked_reads

-- it changes nothing
unchanged : patched worked nothing ≡ worked
unfolding u16 u32 u16_at u32_at patched_to
unchanged = refl

-- so the trial passes, as the picture does
pub nothing_passes : check_number (trial_check worked nothing) ≡ 0
unfolding tried_check
nothing_passes = rw (nothing_accepted, unchanged) worked_passes

-- what demand 3 says of picture and patch
pub nothing_one_end : (t : Target) → InRange t → OneEnd (chassis_of (patched worked nothing)) t
nothing_one_end = trial_3 worked nothing nothing_passes

-- one port, and one vector of 32 bytes
abbrev pub one_vector : Header
one_vector = record { edition = 1; count = 1; total = 104; records_at = 16; vectors_at = 72 }

-- the picture of one port reads
pub one_reads : reading one_port ≡ Ok one_vector
unfolding zeros u16 u32 one_port reading ports_reading misplaced_in breaks running_offset place_wrong end_wrong header_of length_wrong edition_wrong count_wrong total_wrong offset_wrong size_reserved granularity_allowed mechanism_wrong memory_bits_wrong settings_wrong with_ari start_broken start_wrong settings_of vector_bytes bridge_at fpb_at port_at record_at tree_broken one_above above chain_too_long first_of first_in u16_at u32_at
one_reads = refl

-- its entries are clear, so the port claims no ID
unclaimed : (n : ℕ) → (chassis_of one_port).claims 0 (id n) ≡ false
unfolding zeros u16 u32 one_port u16_at u32_at bridge_at fpb_at port_at record_at vector_bytes vector_of bus_claims vector_claims
unclaimed n = claims_id _ _ n ∙ clear 32 _ n

-- nothing is at fault
says_clear : Says (chassis_of one_port) Clear
unfolding zeros u16 u32 one_port u16_at u32_at bridge_at port_at record_at memory_space_enabled address_decoders at_least_one any_below clash clashes_with strays_at own_id_lost taken_at faulty
says_clear = (no_fault, (any_below_false (own_id_lost (chassis_of one_port)) 1).0 refl)
  where
    no_fault : (fault : Fault) → NoneWith fault (chassis_of one_port)
    no_fault Shared (Id rid) l = rw (unclaimed rid.0) (and-false (eqb 0x0008 rid.0))
    no_fault Shared (Addr a) l = refl
    no_fault Stray (Id rid) l = refl
    no_fault Stray (Addr a) l = refl
    no_fault Taken (Id rid) l = refl
    no_fault Taken (Addr a) l = refl

-- so it passes
pub one_passes : check_number (check_answer one_port) ≡ 0
unfolding check_of check_finding
one_passes = rw one_reads (rw ((verdict_exactly (chassis_of one_port) Clear).1 says_clear))

-- the patch of its own entry is accepted
pub own_accepted : reading_with one_port own_entry ≡ Ok one_vector
unfolding zeros u16 u32 one_port own_entry u16_at u32_at fpb_at port_at record_at vector_bytes row_at port_in offset_at running_in header_misfits not_rising port_misplaced ports_misplaced offset_misplaced vectors_misplaced any_below patch_reading
own_accepted = rw one_reads

-- with its vector put in, the port claims its own ID
pub own_overlaps : Overlap (chassis_of (patched one_port own_entry))
unfolding zeros u16 u32 one_port own_entry u16_at u32_at bridge_at fpb_at port_at record_at settings_of vector_bytes row_at port_in offset_at put_in new_vectors patched_to vector_of is_set hits bus_claims vector_claims id_decoders at_least_one
own_overlaps =
    record {
      target = id 0x0008;
      in_range = omega arith;
      clashing =
          record {
            first = 0;
            second = 0;
            first_below = omega arith;
            second_below = omega arith;
            clashing = with_itself refl (record { own = refl; claimed = refl });
          };
    }

-- so the trial fails for overlap
pub own_fails : (check_number (trial_check one_port own_entry) ≡ 11) ⊎ (check_number (trial_check one_port own_entry) ≡ 12)
own_fails = ((trial_overlap one_port own_entry).exactly one_vector own_accepted).1 own_overlaps

-- the port holds its own ID as such, and by its RID vector alone
abbrev pub own_by_rid : Hold
own_by_rid =
    record {
      port = port_no 0;
      own = true;
      decoders = record { bus = false; rid = true; mem = false; pref = false; low = false; high = false; vga = false };
    }

-- no ID below its own is at fault, and there is only this port
says_own : Says (chassis_of (patched one_port own_entry)) (Found-as-Shared (id 0x0008) own_by_rid own_by_rid)
unfolding zeros u16 u32 one_port own_entry u16_at u32_at bridge_at fpb_at port_at record_at settings_of vector_bytes row_at port_in offset_at put_in new_vectors patched_to vector_of is_set hits bus_claims vector_claims id_decoders at_least_one any_below clash clashes_with faulty
says_own = (record { in_range = omega arith; passes = refl; first = first; port = sole refl }, sole refl, refl, refl)
  where
    first : (u : Target) → Earlier u (id 0x0008) → faulty Shared (chassis_of (patched one_port own_entry)) u ≡ false
    first (Id m) below = rw (ne_eqb 0x0008 m.0 (λ (e : 0x0008 ≡ m.0). omega (arith, e, below)))
    first (Addr a) none = absurd none

    sole : {test : ℕ → Bool} → test 0 ≡ true → Lowest test 1 (port_no 0)
    sole passes = record { below = omega arith; passes = passes; first = λ q l. absurd (omega (arith, l)) }

-- the least such target is shown, with its port
pub own_shown : trial_check one_port own_entry ≡ Ok (Found-as-Shared (id 0x0008) own_by_rid own_by_rid)
unfolding tried_check check_of
own_shown =
    rw (own_accepted, (trial_2 one_port own_entry).reads one_vector own_accepted)
    (ap Ok ((verdict_exactly (chassis_of (patched one_port own_entry)) (Found-as-Shared (id 0x0008) own_by_rid own_by_rid)).1 says_own))
