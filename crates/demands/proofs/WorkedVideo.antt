-- The picture of two displays fails: A0000h is the least address that two ports hold, each by the video range alone. Assumes nothing.
use Prim.Native.Nat.{ℕ, zero, suc, ◌<◌, ◌^◌}
use mathlib.Core.Bool.{Bool, true, false, ◌&&◌, ◌||◌, and-false, or-false}
use mathlib.Core.Path.{◌≡◌, refl, ap}
use native.Mathlib.Omega.{arith}
use lib.Dec.{eqb, leb, ltb}
use borrow.Author.Tests.{lt-leb}
use Rattle.ids.specs.declared.Target.{Target}
use Rattle.ids.specs.declared.Target.TheVariants.{Id, Addr}
use Rattle.ids.specs.Ids.{port_no}
use Rattle.least.specs.Least.{first_of, first_in}
use Rattle.lent.specs.Lent.{u16_at, u32_at}
use Rattle.chassis.specs.declared.Fault.TheVariants.{Shared as Faulty-as-Shared}
use Rattle.chassis.specs.declared.Hold.{Hold}
use Rattle.chassis.specs.declared.Verdict.TheVariants.{Shared}
use Rattle.chassis.specs.Chassis.{Chassis, holds, at_least_one}
use Rattle.chassis.specs.Check.{clash, clashes_with, faulty}
use Rattle.chassis.specs.Findings.{Earlier, Lowest, Says}
use Rattle.chassis.specs.Tree.{any_below, tree_broken, one_above, above, chain_too_long}
use Rattle.chassis.proofs.Verdicts.{verdict_exactly}
use Rattle.registers.specs.Record.{bridge_at, fpb_at, port_at, record_at}
use Rattle.registers.specs.Rules.{size_reserved, granularity_allowed, mechanism_wrong, memory_bits_wrong, settings_wrong, with_ari, start_broken, start_wrong}
use Rattle.registers.specs.Vectors.{settings_of, vector_bytes}
use Rattle.picture.specs.Header.{header_of, length_wrong, edition_wrong, count_wrong, total_wrong, offset_wrong}
use Rattle.picture.specs.Layout.{running_offset, place_wrong, end_wrong}
use Rattle.picture.specs.declared.Header.{Header}
use Rattle.picture.specs.Reading.{breaks, misplaced_in, ports_reading, reading}
use Rattle.claims.specs.Decoders.{between, bus_claims, vector_claims, memory_claims, prefetchable_claims, low_claims, high_claims, vga_enabled, video_claims, memory_space_enabled, id_decoders, address_decoders}
use Rattle.claims.specs.Claims.{chassis_of}
use Rattle.judge.specs.Checking.{check_of, check_answer}
use Rattle.demands.specs.Worked.{zeros, u16, u32, header_in, display_of, displays}
use Rattle.demands.proofs.Tests.{just, empty}
use Rattle.demands.proofs.FourPorts.{id}
use Rattle.std.specs.Prelude.{Ok}

abbrev c : Chassis
c = chassis_of displays

-- two ports, and no vectors
abbrev two_ports : Header
two_ports = record { edition = 1; count = 2; total = 128; records_at = 16; vectors_at = 128 }

displays_read : reading displays ≡ Ok two_ports
unfolding zeros u16 u32 header_in display_of displays reading ports_reading misplaced_in breaks running_offset place_wrong end_wrong header_of length_wrong edition_wrong count_wrong total_wrong offset_wrong size_reserved granularity_allowed mechanism_wrong memory_bits_wrong settings_wrong with_ari start_broken start_wrong settings_of vector_bytes bridge_at fpb_at port_at record_at any_below tree_broken one_above above chain_too_long first_of first_in u16_at u32_at
displays_read = refl

-- below A0000h no address is claimed
unclaimed : (a : ℕ) → a < 0xA0000 → (c.claims 0 (Addr a) ≡ false) × (c.claims 1 (Addr a) ≡ false)
unfolding zeros u16 u32 header_in display_of displays u16_at u32_at bridge_at fpb_at port_at record_at vector_claims memory_claims prefetchable_claims low_claims high_claims vga_enabled video_claims memory_space_enabled address_decoders at_least_one
unclaimed a below = (nothing, nothing)
  where
    nothing : (((((between 0xFFF00000 0x000FFFFF a || between 0xFFF00000 0x000FFFFF a) || ltb a (2 ^ 32) && false) || leb (2 ^ 32) a && false)
        || between 0xA0000 0xBFFFF a))
        ≡ false
    nothing = simp (empty 0xFFF00000 0x000FFFFF a (omega arith), and-false, lt-leb 0xA0000 a below)

unshared_address : (a : ℕ) → a < 0xA0000 → faulty Faulty-as-Shared c (Addr a) ≡ false
unfolding zeros u16 u32 header_in display_of displays u16_at u32_at port_at record_at holds any_below clash clashes_with faulty
unshared_address a below = simp ((unclaimed a below).0, (unclaimed a below).1)

-- no ID is claimed, and each port has an ID of its own
unshared_id : (n : ℕ) → faulty Faulty-as-Shared c (id n) ≡ false
unfolding zeros u16 u32 header_in display_of displays u16_at u32_at bridge_at fpb_at port_at record_at bus_claims vector_claims id_decoders at_least_one holds any_below clash clashes_with faulty
unshared_id n = simp (and-false, or-false, just 0x0008 n (eqb 0x0010) refl, just 0x0010 n (eqb 0x0008) refl)

-- the lowest two ports
first_is : {test : ℕ → Bool} → test 0 ≡ true → Lowest test 2 (port_no 0)
first_is passes = record { below = omega arith; passes = passes; first = λ q l. absurd (omega (arith, l)) }

second_is : {test : ℕ → Bool} → test 0 ≡ false → test 1 ≡ true → Lowest test 2 (port_no 1)
second_is {test} before passes = record { below = omega arith; passes = passes; first = first }
  where
    first : (q : ℕ) → q < 1 → test q ≡ false
    first zero l = before
    first (suc q) l = absurd (omega (arith, l))

abbrev pub by_vga : ℕ → Hold
by_vga p =
    record {
      port = port_no p;
      own = false;
      decoders = record { bus = false; rid = false; mem = false; pref = false; low = false; high = false; vga = true };
    }

says_displays : Says c (Shared (Addr 0xA0000) (by_vga 0) (by_vga 1))
unfolding zeros u16 u32 header_in display_of displays u16_at u32_at bridge_at fpb_at port_at record_at vector_claims memory_claims prefetchable_claims low_claims high_claims vga_enabled video_claims memory_space_enabled address_decoders at_least_one holds any_below clash clashes_with faulty
says_displays = (record { in_range = omega arith; passes = refl; first = first; port = first_is refl }, second_is refl refl, refl, refl)
  where
    first : (u : Target) → Earlier u (Addr 0xA0000) → faulty Faulty-as-Shared c u ≡ false
    first (Id m) below = unshared_id m.0
    first (Addr a) below = unshared_address a below

-- the least such target is shown, with its ports and by what they hold it
pub displays_shown : check_answer displays ≡ Ok (Shared (Addr 0xA0000) (by_vga 0) (by_vga 1))
unfolding check_of
displays_shown = rw displays_read (ap Ok ((verdict_exactly c (Shared (Addr 0xA0000) (by_vga 0) (by_vga 1))).1 says_displays))
