-- Two chains of three ports that differ in the root port's Secondary Start. One passes, and the host finds every port; the other has number
-- 18 alone, and a request for the downstream port ends at the root port. Assumes nothing.
use Prim.Native.Nat.{ℕ, zero, suc, ◌<◌}
use mathlib.Core.Bool.{Bool, true, false, not, ◌&&◌, ◌||◌, or-false}
use mathlib.Core.List.{List, [], ◌∷◌}
use mathlib.Core.Path.{◌≡◌, refl, ap, ◌∙◌}
use native.Mathlib.Omega.{arith}
use lib.Dec.{eqb, ltb}
use borrow.Author.Tests.{lt-leb, eqb-true, ltb-true}
use Rattle.ids.specs.declared.Target.{Target}
use Rattle.ids.specs.declared.Target.TheVariants.{Id, Addr}
use Rattle.ids.specs.Ids.{bus_of, unit_of, port_no}
use Rattle.least.specs.Least.{first_of, first_in}
use Rattle.lent.specs.Lent.{u16_at, u32_at}
use Rattle.chassis.specs.declared.End.TheVariants.{Function, Unsupported}
use Rattle.chassis.specs.declared.Fault.{Fault}
use Rattle.chassis.specs.declared.Fault.TheVariants.{Shared, Stray, Taken}
use Rattle.chassis.specs.declared.Hold.{Hold}
use Rattle.chassis.specs.declared.Verdict.TheVariants.{Clear, Taken as Found-as-Taken}
use Rattle.chassis.specs.Chassis.{Chassis, holds, with_port, lowest_two, passes_at, at_least_one}
use Rattle.chassis.specs.Check.{clash, clashes_with, strays_at, own_id_lost, takes, taken_at, faulty}
use Rattle.chassis.specs.Findings.{Earlier, NoneWith, Says}
use Rattle.chassis.specs.Tree.{any_below, is_device_port, upstream_broken, downstream_broken, tree_broken, one_above, above, chain_too_long}
use Rattle.chassis.specs.Walk.{function_number, decided, downward, by_holders, sole_holder, device_or, come_to, is_redirected, under_type0, under_type1, next, ends, goes}
use Rattle.chassis.proofs.Bools.{and_true_parts}
use Rattle.chassis.proofs.CheckLaws.{no_address_taken}
use Rattle.chassis.proofs.Ports.{any_below_false}
use Rattle.chassis.proofs.Verdicts.{verdict_exactly}
use Rattle.registers.specs.Record.{bridge_at, fpb_at, port_at, record_at}
use Rattle.registers.specs.Rules.{size_reserved, granularity_allowed, mechanism_wrong, memory_bits_wrong, settings_wrong, with_ari, start_broken, start_wrong}
use Rattle.registers.specs.Vectors.{settings_of, vector_bytes}
use Rattle.vectors.specs.Vectors.{is_set, hits}
use Rattle.picture.specs.Header.{header_of, length_wrong, edition_wrong, count_wrong, total_wrong, offset_wrong}
use Rattle.picture.specs.Layout.{running_offset, place_wrong, end_wrong, vector_of}
use Rattle.picture.specs.declared.Header.{Header}
use Rattle.picture.specs.Reading.{breaks, misplaced_in, ports_reading, reading}
use Rattle.claims.specs.Decoders.{between, bus_claims, vector_claims, memory_space_enabled, id_decoders, address_decoders}
use Rattle.claims.specs.Conversion.{in_secondary_range, converted_by_bus, converted}
use Rattle.claims.specs.Claims.{chassis_of}
use Rattle.claims.proofs.Converts.{takes_what}
use Rattle.claims.proofs.Joined.{claims_id}
use Rattle.judge.specs.Asking.{id_too_large}
use Rattle.judge.specs.Checking.{check_of, check_answer, check_finding, check_number}
use Rattle.judge.specs.Walking.{packet_of, is_start, asked_wrongly, WalkGives}
use Rattle.demands.specs.Demands.{Bytes, FindsEach}
use Rattle.demands.specs.Worked.{zeros, u16, u32, bridge_of, chain_from, found_chain, taken_chain, ChainWalks}
use Rattle.demands.proofs.EveryPort.{every_port_found}
use Rattle.demands.proofs.Tests.{either_or, just, within, elsewhere}
use Rattle.demands.proofs.FourPorts.{id}
use Rattle.demands.proofs.WorkedWalks.{given}
use Rattle.demands.proofs.Zeros.{clear}
use Rattle.std.specs.Prelude.{Ok}

-- three ports, and one vector of 32 bytes
abbrev three_ports : Header
three_ports = record { edition = 1; count = 3; total = 216; records_at = 16; vectors_at = 184 }

pub chain_reads : (start : ℕ) → reading (chain_from start) ≡ Ok three_ports
unfolding zeros u16 u32 bridge_of chain_from reading ports_reading misplaced_in breaks running_offset place_wrong end_wrong header_of length_wrong edition_wrong count_wrong total_wrong offset_wrong size_reserved granularity_allowed mechanism_wrong memory_bits_wrong settings_wrong with_ari start_broken start_wrong settings_of vector_bytes bridge_at fpb_at port_at record_at any_below upstream_broken downstream_broken tree_broken one_above above chain_too_long first_of first_in u16_at u32_at
chain_reads start = refl

module _ (start : ℕ) where
  abbrev c : Chassis
  c = chassis_of (chain_from start)

  -- what each port claims: its buses, and no address
  buses : (n : ℕ)
      → (c.claims 0 (id n) ≡ between 1 3 (bus_of n))
      × (c.claims 1 (id n) ≡ between 2 3 (bus_of n))
      × (c.claims 2 (id n) ≡ between 3 3 (bus_of n))
  unfolding zeros u16 u32 bridge_of chain_from u16_at u32_at bridge_at fpb_at port_at record_at vector_bytes vector_of bus_claims vector_claims
  buses n = (
    claims_id _ _ n ∙ rw (clear 32 _ n) (or-false (between 1 3 (bus_of n))),
    claims_id _ _ n ∙ or-false _,
    claims_id _ _ n ∙ or-false _,
  )

  module _ (n : ℕ) where
    -- no port claims its own ID, and each stands alone
    unshared_id : faulty Shared c (id n) ≡ false
    unfolding zeros u16 u32 bridge_of chain_from u16_at u32_at bridge_at fpb_at port_at record_at settings_of vector_bytes vector_of is_set hits bus_claims vector_claims id_decoders at_least_one any_below clash clashes_with faulty
    unshared_id =
        simp (
          just 0x0008 n (λ m. c.claims 0 (id m)) refl,
          just 0x0100 n (λ m. c.claims 1 (id m)) refl,
          just 0x0200 n (λ m. c.claims 2 (id m)) refl,
        )

    unstrayed_id : faulty Stray c (id n) ≡ false
    unfolding zeros u16 u32 bridge_of chain_from u16_at u32_at bridge_at fpb_at port_at record_at settings_of vector_bytes vector_of is_set hits bus_claims vector_claims id_decoders at_least_one holds any_below strays_at faulty
    unstrayed_id =
        simp (
          either_or 0x0100 n (λ m. c.claims 1 (id m)) (λ m. not (c.claims 0 (id m))) refl
              (rw ((buses n).0, (buses n).1) (within 2 3 1 3 (bus_of n) (omega arith) (omega arith))),
          either_or 0x0200 n (λ m. c.claims 2 (id m)) (λ m. not (c.claims 1 (id m))) refl
              (rw ((buses n).1, (buses n).2) (within 3 3 2 3 (bus_of n) (omega arith) (omega arith))),
        )

    -- without Memory Space Enable no address is claimed
    unshared_address : faulty Shared c (Addr n) ≡ false
    unfolding zeros u16 u32 bridge_of chain_from u16_at u32_at bridge_at port_at record_at memory_space_enabled address_decoders at_least_one holds any_below clash clashes_with faulty
    unshared_address = refl

    unstrayed_address : faulty Stray c (Addr n) ≡ false
    unfolding zeros u16 u32 bridge_of chain_from u16_at u32_at bridge_at port_at record_at memory_space_enabled address_decoders at_least_one holds any_below strays_at faulty
    unstrayed_address = refl

  none_shared : NoneWith Shared c
  none_shared (Id rid) l = unshared_id rid.0
  none_shared (Addr a) l = unshared_address a

  none_stray : NoneWith Stray c
  none_stray (Id rid) l = unstrayed_id rid.0
  none_stray (Addr a) l = unstrayed_address a

-- what the two upper ports of the first chain take: the root port the unit 20h and bus 1, the upstream port bus 2
module _ (n : ℕ) where
  taken_ids : (takes ((chassis_of found_chain).conversion 0 (id n))
      ≡ ((chassis_of found_chain).claims 0 (id n) && (eqb (unit_of n) 0x20 || between 1 3 (bus_of n) && eqb (bus_of n) 1)))
      × (takes ((chassis_of found_chain).conversion 1 (id n))
      ≡ ((chassis_of found_chain).claims 1 (id n) && (between 2 3 (bus_of n) && eqb (bus_of n) 2)))
  unfolding zeros u16 u32 bridge_of chain_from u16_at u32_at bridge_at fpb_at port_at record_at with_ari bus_claims in_secondary_range
  taken_ids = (takes_what _ _ n, takes_what _ _ n)

  -- the unit 20h lies on bus 1
  off_the_unit : (a : Bool) → (between 2 3 (bus_of n) && (a && (eqb (unit_of n) 0x20 || between 1 3 (bus_of n) && eqb (bus_of n) 1))) ≡ false
  off_the_unit a = go (eqb (unit_of n) 0x20) refl
    where
      go : (same : Bool) → eqb (unit_of n) 0x20 ≡ same → (between 2 3 (bus_of n) && (a && (same || between 1 3 (bus_of n) && eqb (bus_of n) 1))) ≡ false
      go true e = rw (lt-leb 2 (bus_of n) (omega (arith, eqb-true (unit_of n) 0x20 e)))
      go false e = elsewhere 2 3 1 (bus_of n) a (between 1 3 (bus_of n)) (omega arith)

  untaken_id : faulty Taken (chassis_of found_chain) (id n) ≡ false
  unfolding zeros u16 u32 bridge_of chain_from u16_at u32_at bridge_at fpb_at port_at record_at any_below taken_at faulty
  untaken_id =
      rw (taken_ids.0, taken_ids.1, (buses 0x20 n).1, (buses 0x20 n).2)
      (simp (
        off_the_unit ((chassis_of found_chain).claims 0 (id n)),
        elsewhere 3 3 2 (bus_of n) (between 2 3 (bus_of n)) (between 2 3 (bus_of n)) (omega arith),
      ))

found_kept : any_below (own_id_lost (chassis_of found_chain)) 3 ≡ false
unfolding zeros u16 u32 bridge_of chain_from u16_at u32_at bridge_at fpb_at port_at record_at with_ari settings_of vector_bytes vector_of is_set hits bus_claims vector_claims id_decoders at_least_one in_secondary_range converted_by_bus converted any_below own_id_lost
found_kept = refl

taken_kept : any_below (own_id_lost (chassis_of taken_chain)) 3 ≡ false
unfolding zeros u16 u32 bridge_of chain_from u16_at u32_at bridge_at fpb_at port_at record_at with_ari settings_of vector_bytes vector_of is_set hits bus_claims vector_claims id_decoders at_least_one in_secondary_range converted_by_bus converted any_below own_id_lost
taken_kept = refl

says_found : Says (chassis_of found_chain) Clear
unfolding u16 chain_from u16_at
says_found = (no_fault, (any_below_false (own_id_lost (chassis_of found_chain)) 3).0 found_kept)
  where
    no_fault : (fault : Fault) → NoneWith fault (chassis_of found_chain)
    no_fault Shared t l = none_shared 0x20 t l
    no_fault Stray t l = none_stray 0x20 t l
    no_fault Taken (Id rid) l = untaken_id rid.0
    no_fault Taken (Addr a) l = no_address_taken (chassis_of found_chain) a

pub found_passes : check_number (check_answer found_chain) ≡ 0
unfolding check_of check_finding
found_passes = rw (chain_reads 0x20) (rw ((verdict_exactly (chassis_of found_chain) Clear).1 says_found))

-- what every_port_found says of it
all_bytes_lem : List ℕ → Bool
all_bytes_lem [] = true
all_bytes_lem (x ∷ xs) = ltb x 256 && all_bytes_lem xs

of_bytes : (s : List ℕ) → all_bytes_lem s ≡ true → Bytes s
unfolding all_bytes_lem
of_bytes [] all i = omega arith
of_bytes (x ∷ xs) all zero = ltb-true x 256 (and_true_parts (ltb x 256) (all_bytes_lem xs) all).0
of_bytes (x ∷ xs) all (suc i) = of_bytes xs (and_true_parts (ltb x 256) (all_bytes_lem xs) all).1 i

pub chain_found : FindsEach (check_answer found_chain) (chassis_of found_chain) (WalkGives found_chain)
unfolding zeros u16 u32 bridge_of chain_from all_bytes_lem
chain_found = every_port_found found_chain (of_bytes found_chain refl)

-- the upstream port claims ID 0200h by its bus pair
abbrev pub by_bus : Hold
by_bus =
    record {
      port = port_no 1;
      own = false;
      decoders = record { bus = true; rid = false; mem = false; pref = false; low = false; high = false; vga = false };
    }

-- below that ID neither lower port claims any
says_taken : Says (chassis_of taken_chain) (Found-as-Taken (id 0x0200) by_bus)
unfolding zeros u16 u32 bridge_of chain_from u16_at u32_at bridge_at fpb_at port_at record_at with_ari settings_of vector_bytes vector_of is_set hits bus_claims vector_claims id_decoders at_least_one in_secondary_range converted_by_bus converted any_below taken_at faulty
says_taken = (
  none_shared 0x40,
  none_stray 0x40,
  (any_below_false (own_id_lost (chassis_of taken_chain)) 3).0 taken_kept,
  record { in_range = omega arith; passes = refl; first = first; port = record { below = omega arith; passes = refl; first = lower } },
  refl,
)
  where
    first : (u : Target) → Earlier u (id 0x0200) → faulty Taken (chassis_of taken_chain) u ≡ false
    first (Addr a) none = absurd none
    first (Id m) below = simp (lt-leb 2 (bus_of m.0) (omega arith), lt-leb 3 (bus_of m.0) (omega arith))

    lower : (q : ℕ) → q < 1 → taken_at (chassis_of taken_chain) (id 0x0200) q ≡ false
    lower zero l = refl
    lower (suc q) l = absurd (omega (arith, l))

-- 18 is all that is wrong, and the least such ID is shown, with its port
pub taken_shown : check_answer taken_chain ≡ Ok (Found-as-Taken (id 0x0200) by_bus)
unfolding check_of
taken_shown = rw (chain_reads 0x40) (ap Ok ((verdict_exactly (chassis_of taken_chain) (Found-as-Taken (id 0x0200) by_bus)).1 says_taken))

pub chain_walks : ChainWalks
unfolding zeros u16 u32 bridge_of chain_from u16_at u32_at bridge_at fpb_at port_at record_at with_ari settings_of vector_bytes vector_of is_set hits bus_claims vector_claims id_decoders at_least_one in_secondary_range converted_by_bus converted holds with_port lowest_two passes_at any_below is_device_port function_number decided downward by_holders sole_holder device_or come_to is_redirected under_type0 under_type1 next packet_of id_too_large is_start asked_wrongly
chain_walks =
    record {
      upstream_found = given found_chain three_ports (chain_reads 0x20) 2 255 0x0100 (0 ∷ []) (Function (port_no 1)) refl (goes refl (ends refl));
      downstream_found = given found_chain three_ports (chain_reads 0x20) 2 255 0x0200 (0 ∷ 1 ∷ []) (Function (port_no 2)) refl (goes refl (goes refl (ends refl)));
      upstream_still = given taken_chain three_ports (chain_reads 0x40) 2 255 0x0100 (0 ∷ []) (Function (port_no 1)) refl (goes refl (ends refl));
      downstream_lost = given taken_chain three_ports (chain_reads 0x40) 2 255 0x0200 (0 ∷ []) (Unsupported (port_no 0)) refl (goes refl (ends refl));
    }
