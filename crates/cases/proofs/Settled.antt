-- The settled examples hold of the definitions. Assumes nothing.
use Prim.Native.Nat.{ℕ}
use mathlib.Core.Bool.{Bool, true, false, ◌&&◌}
use mathlib.Core.List.{List}
use mathlib.Core.Path.{◌≡◌, refl}
use native.Mathlib.Omega.{arith}
use borrow.Author.Tests.{leb-true, lt-leb}
use lib.Dec.{leb}
use Rattle.least.specs.Least.{first_of, first_in}
use Rattle.lent.specs.Lent.{u16_at, u32_at}
use Rattle.vectors.specs.Vectors.{entry_of, is_set, hits}
use Rattle.chassis.specs.Chassis.{at_least_one}
use Rattle.chassis.specs.Tree.{any_below, upstream_broken, downstream_broken, tree_broken, one_above, above, chain_too_long}
use Rattle.chassis.specs.Walk.{function_number}
use Rattle.registers.specs.declared.Fpb.{Fpb}
use Rattle.registers.specs.Record.{bridge_at, fpb_at, port_at, record_at}
use Rattle.registers.specs.Rules.{size_reserved, granularity_allowed, mechanism_wrong, memory_bits_wrong, settings_wrong, with_ari, start_broken, start_wrong}
use Rattle.registers.specs.Vectors.{settings_of, vector_bytes}
use Rattle.picture.specs.Header.{header_of, length_wrong, edition_wrong, count_wrong, total_wrong, offset_wrong}
use Rattle.picture.specs.Layout.{running_offset, place_wrong, end_wrong, vector_of}
use Rattle.picture.specs.Reading.{breaks, misplaced_in, ports_reading, reading}
use Rattle.claims.specs.Decoders.{bus_claims, vector_claims, memory_claims, low_claims, id_decoders}
use Rattle.claims.specs.Conversion.{in_secondary_range, converted_by_bus, converted}
use Rattle.judge.specs.Asking.{id_too_large}
use Rattle.judge.specs.Converting.{convert_asked_wrongly, convert_of}
use Rattle.cases.specs.Chain.{zeros, record_of, chain_with}
use Rattle.cases.specs.Settled.{memory_of, settled, all, c1, c2, c3, c4, c5, c6, c7, c8, c9, c10, c11, c12}

pub all_settled : all settled ≡ true
unfolding c1 c2 c3 c4 c5 c6 c7 c8 c9 c10 c11 c12 zeros record_of chain_with entry_of is_set hits settings_of vector_bytes bus_claims vector_claims memory_claims low_claims id_decoders at_least_one in_secondary_range converted_by_bus converted function_number id_too_large convert_asked_wrongly convert_of reading ports_reading misplaced_in breaks running_offset place_wrong end_wrong vector_of header_of length_wrong edition_wrong count_wrong total_wrong offset_wrong size_reserved granularity_allowed mechanism_wrong memory_bits_wrong settings_wrong with_ari start_broken start_wrong bridge_at fpb_at port_at record_at any_below upstream_broken downstream_broken tree_broken one_above above chain_too_long first_of first_in u16_at u32_at
all_settled = refl

-- C6 and C8 say "never" and "nothing": of any registers and any vector, and at every address
pub never_low : (f : Fpb) (v : List ℕ) → low_claims f v 0x100000000 ≡ false
unfolding low_claims
never_low f v = refl

pub nothing_claimed : (a : ℕ) → memory_claims (memory_of 0xE010 0xE000) a ≡ false
unfolding memory_claims
nothing_claimed a = go (leb 0xE0100000 a) refl
  where
    go : (reached : Bool) → leb 0xE0100000 a ≡ reached → (reached && leb a 0xE00FFFFF) ≡ false
    go true e = lt-leb a 0xE00FFFFF (omega (arith, leb-true 0xE0100000 a e))
    go false e = refl
