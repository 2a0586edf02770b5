-- The picture of four ports, whichever bus port 3 has: it reads, and an ID is shared only if ports 2 and 3 both hold it.
use Prim.Native.Nat.{ℕ}
use mathlib.Core.Bool.{false, ◌&&◌, and_comm}
use mathlib.Core.Path.{◌≡◌, refl, ◌∙◌}
use Rattle.ids.specs.declared.Target.{Target}
use Rattle.ids.specs.declared.Target.TheVariants.{Id}
use Rattle.least.specs.Least.{first_of, first_in}
use Rattle.lent.specs.Lent.{u16_at, u32_at}
use Rattle.chassis.specs.Chassis.{holds, at_least_one}
use Rattle.chassis.specs.Check.{clash, clashes_with, faulty}
use Rattle.chassis.specs.declared.Fault.TheVariants.{Shared}
use Rattle.chassis.specs.Tree.{any_below, upstream_broken, downstream_broken, tree_broken, one_above, above, chain_too_long}
use Rattle.registers.specs.Record.{bridge_at, fpb_at, port_at, record_at}
use Rattle.registers.specs.Rules.{size_reserved, granularity_allowed, mechanism_wrong, memory_bits_wrong, settings_wrong, with_ari, start_broken, start_wrong}
use Rattle.registers.specs.Vectors.{settings_of, vector_bytes}
use Rattle.picture.specs.Header.{header_of, length_wrong, edition_wrong, count_wrong, total_wrong, offset_wrong}
use Rattle.picture.specs.Layout.{running_offset, place_wrong, end_wrong}
use Rattle.picture.specs.declared.Header.{Header}
use Rattle.picture.specs.Reading.{breaks, misplaced_in, ports_reading, reading}
use Rattle.claims.specs.Decoders.{bus_claims, vector_claims, id_decoders}
use Rattle.claims.specs.Claims.{chassis_of}
use Rattle.demands.specs.Worked.{zeros, u16, u32, header_in, record_of, switch_with}
use Rattle.demands.proofs.Tests.{just}
use Rattle.std.specs.Prelude.{Ok}

-- four ports, and no vectors
abbrev pub four_ports : Header
four_ports = record { edition = 1; count = 4; total = 240; records_at = 16; vectors_at = 240 }

pub reads : (bus : ℕ) → reading (switch_with bus) ≡ Ok four_ports
unfolding zeros u16 u32 header_in record_of switch_with reading ports_reading misplaced_in breaks running_offset place_wrong end_wrong header_of length_wrong edition_wrong count_wrong total_wrong offset_wrong size_reserved granularity_allowed mechanism_wrong memory_bits_wrong settings_wrong with_ari start_broken start_wrong settings_of vector_bytes bridge_at fpb_at port_at record_at any_below upstream_broken downstream_broken tree_broken one_above above chain_too_long first_of first_in u16_at u32_at
reads bus = refl

abbrev pub id : ℕ → Target
id n = Id (record { 0 = n })

-- port 3 must not claim its own ID; the others do not
pub unshared_where : (bus n : ℕ) → (chassis_of (switch_with bus)).claims 3 (id 0x0208) ≡ false
    → (holds (chassis_of (switch_with bus)) (id n) 2 && holds (chassis_of (switch_with bus)) (id n) 3) ≡ false
    → faulty Shared (chassis_of (switch_with bus)) (id n) ≡ false
unfolding zeros u16 u32 header_in record_of switch_with u16_at u32_at bridge_at fpb_at port_at record_at bus_claims vector_claims id_decoders at_least_one any_below clash clashes_with faulty
unshared_where bus n own apart =
    simp (
      just 0x0008 n (λ m. (chassis_of (switch_with bus)).claims 0 (id m)) refl,
      just 0x0100 n (λ m. (chassis_of (switch_with bus)).claims 1 (id m)) refl,
      just 0x0200 n (λ m. (chassis_of (switch_with bus)).claims 2 (id m)) refl,
      just 0x0208 n (λ m. (chassis_of (switch_with bus)).claims 3 (id m)) own,
      apart,
      and_comm (holds (chassis_of (switch_with bus)) (id n) 3) (holds (chassis_of (switch_with bus)) (id n) 2) ∙ apart,
    )
