-- Walks through the worked chassis, computed step by step. Assumes nothing.
use Prim.Native.Nat.{ℕ}
use mathlib.Core.Bool.{false}
use mathlib.Core.List.{List, [], ◌∷◌}
use mathlib.Core.Path.{◌≡◌, refl}
use Rattle.lent.specs.Lent.{u16_at, u32_at}
use Rattle.chassis.specs.declared.End.{End}
use Rattle.chassis.specs.declared.End.TheVariants.{Device, Function, Host, Unsupported, Doubled}
use Rattle.ids.specs.Ids.{port_no}
use Rattle.chassis.specs.Chassis.{holds, with_port, lowest_two, passes_at, at_least_one}
use Rattle.chassis.specs.Tree.{any_below, is_device_port}
use Rattle.chassis.specs.Walk.{function_number, decided, downward, by_holders, sole_holder, device_or, come_to, is_redirected, starts_at, upward, from_below, under_type0, under_type1, next, Walk, ends, goes}
use Rattle.registers.specs.Record.{bridge_at, fpb_at, port_at, record_at}
use Rattle.registers.specs.Rules.{with_ari, with_redirect}
use Rattle.claims.specs.Decoders.{bus_claims, vector_claims, memory_claims, prefetchable_claims, low_claims, high_claims, vga_enabled, video_claims, memory_space_enabled, id_decoders, address_decoders}
use Rattle.claims.specs.Conversion.{in_secondary_range, converted_by_bus, converted}
use Rattle.claims.specs.Claims.{chassis_of}
use Rattle.picture.specs.declared.Header.{Header}
use Rattle.picture.specs.Reading.{reading}
use Rattle.judge.specs.Asking.{target_asked, id_too_large}
use Rattle.judge.specs.Walking.{packet_of, is_start, asked_wrongly, WalkGives}
use Rattle.paths.specs.Paths.{path_of}
use Rattle.trees.specs.Trees.{tree_of}
use Rattle.demands.specs.Worked.{zeros, u16, u32, header_in, record_of, switch_with, worked, doubled, port_nos, came_to, WorkedWalks}
use Rattle.demands.proofs.FourPorts.{four_ports, reads}
use Rattle.std.specs.Prelude.{Ok}

-- an answer that the rules lead to is given
pub given : (s : List ℕ) (h : Header) → reading s ≡ Ok h → (kind start target : ℕ) (crossed : List ℕ) (end : End)
    → asked_wrongly (tree_of s) kind start target ≡ false
    → Walk (chassis_of s) (packet_of kind target) (starts_at (chassis_of s) (packet_of kind target) start) (port_nos crossed) end
    → WalkGives s kind start target (came_to end crossed)
given s h is kind start target crossed end right walk =
    rw is
    (rw right (
      record { path = path_of (port_nos crossed); end = end },
      record { crossed = port_nos crossed; walk = walk; named = refl },
      refl,
    ))

pub worked_walks : WorkedWalks
unfolding zeros u16 u32 header_in record_of switch_with u16_at u32_at bridge_at fpb_at port_at record_at with_ari with_redirect bus_claims vector_claims memory_claims prefetchable_claims low_claims high_claims vga_enabled video_claims memory_space_enabled id_decoders at_least_one address_decoders in_secondary_range converted_by_bus converted holds with_port lowest_two passes_at any_below is_device_port function_number decided downward by_holders sole_holder device_or come_to is_redirected upward from_below under_type0 under_type1 next target_asked packet_of id_too_large is_start asked_wrongly
worked_walks =
    record {
      down = given worked four_ports (reads 4) 0 255 0x0300 (0 ∷ 1 ∷ 2 ∷ []) (Device (port_no 2) 0) refl (goes refl (goes refl (goes refl (ends refl))));
      across = given worked four_ports (reads 4) 0 3 0x0300 (3 ∷ 2 ∷ []) (Device (port_no 2) 0) refl (goes refl (goes refl (ends refl)));
      own_id = given worked four_ports (reads 4) 0 255 0x0200 (0 ∷ 1 ∷ []) (Function (port_no 2)) refl (goes refl (goes refl (ends refl)));
      own_device = given worked four_ports (reads 4) 1 2 0xE0000000 [] (Unsupported (port_no 2)) refl (ends refl);
      other_device = given worked four_ports (reads 4) 1 3 0xE0000000 (3 ∷ 2 ∷ []) (Device (port_no 2) 0) refl (goes refl (goes refl (ends refl)));
      up = given worked four_ports (reads 4) 1 2 0 (2 ∷ 1 ∷ 0 ∷ []) Host refl (goes refl (goes refl (goes refl (ends refl))));
      configures = given worked four_ports (reads 4) 2 255 0x0300 (0 ∷ 1 ∷ 2 ∷ []) (Device (port_no 2) 0) refl (goes refl (goes refl (goes refl (ends refl))));
      refuses = given worked four_ports (reads 4) 2 255 0x0308 (0 ∷ 1 ∷ []) (Unsupported (port_no 2)) refl (goes refl (goes refl (ends refl)));
      doubles = given doubled four_ports (reads 3) 0 255 0x0300 (0 ∷ 1 ∷ []) (Doubled (port_no 2) (port_no 3)) refl (goes refl (goes refl (ends refl)));
    }
