-- The picture that differs from the worked one in one port's buses fails: ID 0300h is the least that two ports hold. Assumes nothing.
use Prim.Native.Nat.{ℕ, ◌<◌, zero-le}
use mathlib.Core.Bool.{true, false, ◌&&◌}
use mathlib.Core.Logic.{inl}
use mathlib.Core.Path.{◌≡◌, refl}
use native.Mathlib.Omega.{arith}
use borrow.Author.Tests.{lt-leb}
use Rattle.ids.specs.declared.Target.TheVariants.{Id}
use Rattle.ids.specs.declared.Space.TheVariants.{Ids}
use Rattle.ids.specs.Ids.{bus_of, port_no}
use Rattle.least.specs.Least.{first_of, first_in}
use Rattle.lent.specs.Lent.{u16_at, u32_at}
use Rattle.chassis.specs.declared.Hold.{Hold}
use Rattle.chassis.specs.declared.Verdict.TheVariants.{Shared}
use Rattle.chassis.specs.Chassis.{Chassis, holds, at_least_one, hold_of}
use Rattle.chassis.specs.Check.{clash, clashes_with, faulty, least_target, lowest_port, first_of_pair, row_of, or_next, verdict_of}
use Rattle.chassis.specs.declared.Fault.TheVariants.{Shared as Faulty-as-Shared}
use Rattle.chassis.specs.Tree.{any_below}
use Rattle.chassis.proofs.LeastTarget.{least_target_is}
use Rattle.registers.specs.Record.{bridge_at, fpb_at, port_at, record_at}
use Rattle.claims.specs.Decoders.{bus_claims, vector_claims, id_decoders}
use Rattle.claims.specs.Claims.{chassis_of}
use Rattle.judge.specs.Checking.{check_of, check_answer, check_finding, check_number}
use Rattle.demands.specs.Demands.{Overlap}
use Rattle.demands.specs.Worked.{zeros, u16, u32, header_in, record_of, switch_with, doubled}
use Rattle.demands.proofs.Demands.{overlap_exactly}
use Rattle.demands.proofs.Tests.{either_or}
use Rattle.demands.proofs.FourPorts.{four_ports, reads, id, unshared_where}
use Rattle.std.specs.Prelude.{Some, Ok}

abbrev c : Chassis
c = chassis_of doubled

-- below 0300h no ID is held by two ports, and none is claimed by the port whose own it is
module _ (n : ℕ) (below : n < 0x0300) where
  unclaimed : c.claims 2 (id n) ≡ false
  unfolding zeros u16 u32 header_in record_of switch_with u16_at u32_at bridge_at fpb_at port_at record_at bus_claims vector_claims id_decoders at_least_one
  unclaimed = rw (lt-leb 3 (bus_of n) (omega arith))

  held_apart : (holds c (id n) 2 && holds c (id n) 3) ≡ false
  unfolding zeros u16 u32 header_in record_of switch_with u16_at u32_at bridge_at fpb_at port_at record_at bus_claims vector_claims id_decoders at_least_one holds
  held_apart = either_or 0x0200 n (λ m. c.claims 2 (id m)) (λ m. holds c (id m) 3) refl (rw unclaimed)

  unshared : faulty Faulty-as-Shared c (id n) ≡ false
  unfolding zeros u16 u32 header_in record_of switch_with u16_at u32_at bridge_at fpb_at port_at record_at bus_claims vector_claims id_decoders at_least_one
  unshared = unshared_where 3 n refl held_apart

both_hold : faulty Faulty-as-Shared c (id 0x0300) ≡ true
unfolding zeros u16 u32 header_in record_of switch_with u16_at u32_at bridge_at fpb_at port_at record_at bus_claims vector_claims id_decoders at_least_one holds any_below clash clashes_with faulty
both_hold = refl

least : least_target (faulty Faulty-as-Shared c) Ids ≡ Some 0x0300
least =
    (least_target_is (faulty Faulty-as-Shared c) Ids (Some 0x0300)).1
    (record { from = zero-le; below = omega arith; holds = both_hold; first = record { none = λ n l below. unshared n below } })

pair : (first_of_pair c (id 0x0300) ≡ port_no 2) × (lowest_port c (clash c (id 0x0300) 2) ≡ port_no 3)
unfolding zeros u16 u32 header_in record_of switch_with u16_at u32_at bridge_at fpb_at port_at record_at bus_claims vector_claims id_decoders at_least_one holds any_below clash clashes_with first_of first_in
pair = (refl, refl)

-- each holds it by its bus pair alone
abbrev pub by_bus : ℕ → Hold
by_bus p =
    record {
      port = port_no p;
      own = false;
      decoders = record { bus = true; rid = false; mem = false; pref = false; low = false; high = false; vga = false };
    }

by_bus_lem : (hold_of c (id 0x0300) 2 ≡ by_bus 2) × (hold_of c (id 0x0300) 3 ≡ by_bus 3)
unfolding zeros u16 u32 header_in record_of switch_with u16_at u32_at bridge_at fpb_at port_at record_at bus_claims vector_claims id_decoders
by_bus_lem = (refl, refl)

-- the least such target is shown, with its ports and by what they hold it
pub doubled_shown : check_answer doubled ≡ Ok (Shared (Id (record { 0 = 0x0300 })) (by_bus 2) (by_bus 3))
unfolding check_of verdict_of row_of or_next
doubled_shown = rw (reads 3) (rw (least, pair.0, pair.1, by_bus_lem.0, by_bus_lem.1))

pub doubled_fails : check_number (check_answer doubled) ≡ 11
unfolding check_finding
doubled_fails = rw doubled_shown

-- and by the other half of demand 3 it has an overlap
pub doubled_overlaps : Overlap (chassis_of doubled)
doubled_overlaps = ((overlap_exactly doubled).exactly four_ports (reads 3)).0 (inl doubled_fails)
