-- The worked chassis reads and passes the check, so demand 3 speaks of it. Assumes nothing.
use Prim.Native.Nat.{ℕ, ◌^◌}
use mathlib.Core.Bool.{false, not, ◌&&◌, ◌||◌, and_comm, and-false, or-false}
use mathlib.Core.Path.{◌≡◌, refl, ◌∙◌}
use native.Mathlib.Omega.{arith}
use lib.Dec.{eqb, leb, ltb}
use Rattle.ids.specs.declared.Target.{Target}
use Rattle.ids.specs.declared.Target.TheVariants.{Id, Addr}
use Rattle.ids.specs.Ids.{bus_of}
use Rattle.lent.specs.Lent.{u16_at, u32_at}
use Rattle.chassis.specs.declared.Fault.{Fault}
use Rattle.chassis.specs.declared.Fault.TheVariants.{Shared, Stray, Taken}
use Rattle.chassis.specs.declared.Verdict.TheVariants.{Clear}
use Rattle.chassis.specs.Chassis.{Chassis, holds, at_least_one}
use Rattle.chassis.specs.Check.{clash, clashes_with, strays_at, own_id_lost, takes, taken_at, faulty}
use Rattle.chassis.specs.Findings.{NoneWith, Says}
use Rattle.chassis.specs.OneEnd.{InRange, OneEnd}
use Rattle.chassis.specs.Tree.{any_below}
use Rattle.chassis.proofs.CheckLaws.{no_address_taken}
use Rattle.chassis.proofs.Ports.{any_below_false}
use Rattle.chassis.proofs.Verdicts.{verdict_exactly}
use Rattle.picture.specs.Reading.{reading}
use Rattle.registers.specs.Record.{bridge_at, fpb_at, port_at, record_at}
use Rattle.registers.specs.Rules.{with_ari}
use Rattle.claims.specs.Decoders.{between, bus_claims, vector_claims, memory_claims, prefetchable_claims, low_claims, high_claims, vga_enabled, video_claims, memory_space_enabled, id_decoders, address_decoders}
use Rattle.claims.specs.Conversion.{in_secondary_range, converted_by_bus, converted}
use Rattle.claims.specs.Claims.{chassis_of}
use Rattle.claims.proofs.Converts.{takes_what}
use Rattle.claims.proofs.Joined.{claims_id}
use Rattle.judge.specs.Checking.{check_of, check_answer, check_finding, check_number}
use Rattle.demands.specs.Worked.{zeros, u16, u32, header_in, record_of, switch_with, worked}
use Rattle.demands.proofs.Demands.{demand_3}
use Rattle.demands.proofs.Tests.{either_or, empty, apart, within, elsewhere, never_both}
use Rattle.demands.proofs.FourPorts.{four_ports, reads, id, unshared_where}
use Rattle.std.specs.Prelude.{Ok}

abbrev c : Chassis
c = chassis_of worked

pub worked_reads : reading worked ≡ Ok four_ports
worked_reads = reads 4

-- what each port claims: its buses, and the one window or none
buses : (n : ℕ)
    → (c.claims 0 (id n) ≡ between 1 4 (bus_of n))
    × (c.claims 1 (id n) ≡ between 2 4 (bus_of n))
    × (c.claims 2 (id n) ≡ between 3 3 (bus_of n))
    × (c.claims 3 (id n) ≡ between 4 4 (bus_of n))
unfolding zeros u16 u32 header_in record_of switch_with u16_at u32_at bridge_at fpb_at port_at record_at bus_claims vector_claims
buses n = (claims_id _ _ n ∙ or-false _, claims_id _ _ n ∙ or-false _, claims_id _ _ n ∙ or-false _, claims_id _ _ n ∙ or-false _)

windows : (a : ℕ)
    → (c.claims 0 (Addr a) ≡ between 0xE0000000 0xE00FFFFF a)
    × (c.claims 1 (Addr a) ≡ between 0xE0000000 0xE00FFFFF a)
    × (c.claims 2 (Addr a) ≡ between 0xE0000000 0xE00FFFFF a)
    × (c.claims 3 (Addr a) ≡ false)
unfolding zeros u16 u32 header_in record_of switch_with u16_at u32_at bridge_at fpb_at port_at record_at vector_claims memory_claims prefetchable_claims low_claims high_claims vga_enabled video_claims memory_space_enabled address_decoders at_least_one
windows a = (only_window, only_window, only_window, refl)
  where
    only_window : ((((between 0xE0000000 0xE00FFFFF a || between 0xFFF00000 0x000FFFFF a) || ltb a (2 ^ 32) && false) || leb (2 ^ 32) a && false) || false)
        ≡ between 0xE0000000 0xE00FFFFF a
    only_window = simp (empty 0xFFF00000 0x000FFFFF a (omega arith), and-false, or-false)

-- no ID is held by the two downstream ports, and what a port holds is claimed by its parent
module _ (n : ℕ) where
  held_apart : (holds c (id n) 2 && holds c (id n) 3) ≡ false
  unfolding zeros u16 u32 header_in record_of switch_with u16_at u32_at bridge_at fpb_at port_at record_at bus_claims vector_claims id_decoders at_least_one holds
  held_apart =
      either_or 0x0200 n (λ m. c.claims 2 (id m)) (λ m. holds c (id m) 3) refl
      (and_comm (c.claims 2 (id n)) (holds c (id n) 3)
      ∙ either_or 0x0208 n (λ m. c.claims 3 (id m)) (λ m. c.claims 2 (id m)) refl
      (and_comm (c.claims 3 (id n)) (c.claims 2 (id n))
      ∙ rw ((buses n).2, (buses n).3) (apart 3 3 4 4 (bus_of n) (omega arith))))

  unshared_id : faulty Shared c (id n) ≡ false
  unfolding zeros u16 u32 header_in record_of switch_with u16_at u32_at bridge_at fpb_at port_at record_at bus_claims vector_claims id_decoders at_least_one
  unshared_id = unshared_where 4 n refl held_apart

  unstrayed_id : faulty Stray c (id n) ≡ false
  unfolding zeros u16 u32 header_in record_of switch_with u16_at u32_at bridge_at fpb_at port_at record_at bus_claims vector_claims id_decoders at_least_one holds any_below strays_at faulty
  unstrayed_id =
      simp (
        either_or 0x0100 n (λ m. c.claims 1 (id m)) (λ m. not (c.claims 0 (id m))) refl
            (rw ((buses n).0, (buses n).1) (within 2 4 1 4 (bus_of n) (omega arith) (omega arith))),
        either_or 0x0200 n (λ m. c.claims 2 (id m)) (λ m. not (c.claims 1 (id m))) refl
            (rw ((buses n).1, (buses n).2) (within 3 3 2 4 (bus_of n) (omega arith) (omega arith))),
        either_or 0x0208 n (λ m. c.claims 3 (id m)) (λ m. not (c.claims 1 (id m))) refl
            (rw ((buses n).1, (buses n).3) (within 4 4 2 4 (bus_of n) (omega arith) (omega arith))),
      )

  -- what the two ports with children take: their bus Secondary
  taken_buses : (takes (c.conversion 0 (id n)) ≡ (c.claims 0 (id n) && (between 1 4 (bus_of n) && eqb (bus_of n) 1)))
      × (takes (c.conversion 1 (id n)) ≡ (c.claims 1 (id n) && (between 2 4 (bus_of n) && eqb (bus_of n) 2)))
  unfolding zeros u16 u32 header_in record_of switch_with u16_at u32_at bridge_at fpb_at port_at record_at bus_claims
  taken_buses = (takes_what _ _ n, takes_what _ _ n)

  untaken_id : faulty Taken c (id n) ≡ false
  unfolding zeros u16 u32 header_in record_of switch_with u16_at u32_at bridge_at fpb_at port_at record_at any_below taken_at faulty
  untaken_id =
      rw (taken_buses.0, taken_buses.1, (buses n).1, (buses n).2, (buses n).3)
      (simp (
        elsewhere 2 4 1 (bus_of n) (c.claims 0 (id n)) (between 1 4 (bus_of n)) (omega arith),
        elsewhere 3 3 2 (bus_of n) (between 2 4 (bus_of n)) (between 2 4 (bus_of n)) (omega arith),
        elsewhere 4 4 2 (bus_of n) (between 2 4 (bus_of n)) (between 2 4 (bus_of n)) (omega arith),
      ))

  unshared_address : faulty Shared c (Addr n) ≡ false
  unfolding zeros u16 u32 header_in record_of switch_with u16_at u32_at port_at record_at holds any_below clash clashes_with faulty
  unshared_address = simp ((windows n).3, and-false)

  unstrayed_address : faulty Stray c (Addr n) ≡ false
  unfolding zeros u16 u32 header_in record_of switch_with u16_at u32_at port_at record_at holds any_below strays_at faulty
  unstrayed_address = simp ((windows n).0, (windows n).1, (windows n).2, (windows n).3, never_both)

-- no own ID is lost
kept : any_below (own_id_lost c) c.tree.count ≡ false
unfolding zeros u16 u32 header_in record_of switch_with u16_at u32_at bridge_at fpb_at port_at record_at with_ari bus_claims vector_claims id_decoders at_least_one in_secondary_range converted_by_bus converted any_below own_id_lost
kept = refl

says_clear : Says c Clear
says_clear = (no_fault, (any_below_false (own_id_lost c) c.tree.count).0 kept)
  where
    no_fault : (fault : Fault) → NoneWith fault c
    no_fault Shared (Id rid) l = unshared_id rid.0
    no_fault Shared (Addr a) l = unshared_address a
    no_fault Stray (Id rid) l = unstrayed_id rid.0
    no_fault Stray (Addr a) l = unstrayed_address a
    no_fault Taken (Id rid) l = untaken_id rid.0
    no_fault Taken (Addr a) l = no_address_taken c a

pub worked_passes : check_number (check_answer worked) ≡ 0
unfolding check_of check_finding
worked_passes = rw worked_reads (rw ((verdict_exactly c Clear).1 says_clear))

-- what demand 3 says of it
pub worked_one_end : (t : Target) → InRange t → OneEnd (chassis_of worked) t
worked_one_end = demand_3 worked worked_passes
