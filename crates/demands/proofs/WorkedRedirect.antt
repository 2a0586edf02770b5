-- The worked chassis in edition 2: it reads and passes as the one in edition 1 does, and walks through it are computed step by step.
-- Assumes nothing.
use Prim.Native.Nat.{ℕ, zero, suc, ◌<◌}
use mathlib.Core.Bool.{false}
use mathlib.Core.List.{List, [], ◌∷◌}
use mathlib.Core.Path.{◌≡◌, refl, ap}
use native.Mathlib.Omega.{arith}
use Rattle.ids.specs.Ids.{port_no}
use Rattle.ids.specs.declared.Target.{Target}
use Rattle.ids.specs.declared.Target.TheVariants.{Id, Addr}
use Rattle.least.specs.Least.{first_of, first_in}
use Rattle.lent.specs.Lent.{u16_at, u32_at}
use Rattle.chassis.specs.declared.End.{End}
use Rattle.chassis.specs.declared.End.TheVariants.{Device, Host, Unsupported}
use Rattle.chassis.specs.Chassis.{Chassis, holds, with_port, lowest_two, passes_at, at_least_one}
use Rattle.chassis.specs.OneEnd.{InRange, OneEnd}
use Rattle.chassis.specs.Tree.{any_below, is_device_port, upstream_broken, downstream_broken, tree_broken, one_above, above, chain_too_long}
use Rattle.chassis.specs.Walk.{function_number, decided, downward, by_holders, sole_holder, device_or, come_to, is_redirected, starts_at, towards_root, upward, from_below, under_type0, under_type1, next, Walk, ends, goes}
use Rattle.chassis.proofs.Alike.{Alike, verdict_alike}
use Rattle.registers.specs.Record.{bridge_at, fpb_at, port_at, record_at}
use Rattle.registers.specs.Rules.{size_reserved, granularity_allowed, mechanism_wrong, memory_bits_wrong, settings_wrong, with_ari, with_redirect, start_broken, start_wrong}
use Rattle.registers.specs.Vectors.{settings_of, vector_bytes}
use Rattle.picture.specs.declared.Header.{Header}
use Rattle.picture.specs.Header.{header_of, length_wrong, edition_wrong, count_wrong, total_wrong, offset_wrong}
use Rattle.picture.specs.Layout.{running_offset, place_wrong, end_wrong, vector_of}
use Rattle.picture.specs.Reading.{breaks, misplaced_in, ports_reading, reading}
use Rattle.picture.proofs.WhatReads.{sane_read}
use Rattle.claims.specs.Decoders.{bus_claims, vector_claims, memory_claims, prefetchable_claims, low_claims, high_claims, vga_enabled, video_claims, memory_space_enabled, id_decoders, address_decoders}
use Rattle.claims.specs.Conversion.{in_secondary_range, converted_by_bus, converted}
use Rattle.claims.specs.Claims.{chassis_of}
use Rattle.judge.specs.Asking.{target_asked, id_too_large}
use Rattle.judge.specs.Checking.{check_of, check_answer, check_number}
use Rattle.judge.specs.Walking.{packet_of, is_start, asked_wrongly, WalkGives}
use Rattle.trees.specs.Trees.{tree_of}
use Rattle.demands.specs.Worked.{zeros, u16, u32, header_in, record_of, switch_with, worked, redirecting, port_nos, came_to, RedirectWalks}
use Rattle.demands.proofs.Demands.{demand_3}
use Rattle.demands.proofs.FourPorts.{four_ports, reads}
use Rattle.demands.proofs.Worked.{worked_reads, worked_passes}
use Rattle.demands.proofs.WorkedWalks.{given}
use Rattle.std.specs.Prelude.{Ok}

-- four ports of 60 bytes, and no vectors
abbrev pub four_longer : Header
four_longer = record { edition = 2; count = 4; total = 256; records_at = 16; vectors_at = 256 }

pub redirecting_reads : (acs : ℕ) → reading (redirecting acs) ≡ Ok four_longer
unfolding zeros u16 u32 header_in record_of redirecting reading ports_reading misplaced_in breaks running_offset place_wrong end_wrong header_of length_wrong edition_wrong count_wrong total_wrong offset_wrong size_reserved granularity_allowed mechanism_wrong memory_bits_wrong settings_wrong with_ari start_broken start_wrong settings_of vector_bytes bridge_at fpb_at port_at record_at any_below upstream_broken downstream_broken tree_broken one_above above chain_too_long first_of first_in u16_at u32_at
redirecting_reads acs = refl

module _ (acs : ℕ) where
  walks : (kind start target : ℕ) (crossed : List ℕ) (end : End) → asked_wrongly (tree_of (redirecting acs)) kind start target ≡ false
      → Walk (chassis_of (redirecting acs)) (packet_of kind target) (starts_at (chassis_of (redirecting acs)) (packet_of kind target) start) (port_nos crossed) end
      → WalkGives (redirecting acs) kind start target (came_to end crossed)
  walks = given (redirecting acs) four_longer (redirecting_reads acs)

pub redirect_walks : RedirectWalks
unfolding zeros u16 u32 header_in record_of redirecting u16_at u32_at bridge_at fpb_at port_at record_at with_ari with_redirect bus_claims vector_claims memory_claims prefetchable_claims low_claims high_claims vga_enabled video_claims memory_space_enabled id_decoders at_least_one address_decoders in_secondary_range converted_by_bus converted holds with_port lowest_two passes_at any_below is_device_port function_number decided downward by_holders sole_holder device_or come_to is_redirected towards_root upward from_below under_type0 under_type1 next target_asked packet_of id_too_large is_start asked_wrongly
redirect_walks =
    record {
      down_again = walks 4 1 3 0xE0000000 (3 ∷ 1 ∷ 0 ∷ 0 ∷ 1 ∷ 2 ∷ []) (Device (port_no 2) 0) refl
          (goes refl (goes refl (goes refl (goes refl (goes refl (goes refl (ends refl)))))));
      to_host = walks 4 1 3 0 (3 ∷ 1 ∷ 0 ∷ []) Host refl (goes refl (goes refl (goes refl (ends refl))));
      other_bits = walks 0xFFFB 1 3 0xE0000000 (3 ∷ 2 ∷ []) (Device (port_no 2) 0) refl (goes refl (goes refl (ends refl)));
      own_device = walks 4 1 2 0xE0000000 [] (Unsupported (port_no 2)) refl (ends refl);
      id_across = walks 4 0 3 0x0300 (3 ∷ 2 ∷ []) (Device (port_no 2) 0) refl (goes refl (goes refl (ends refl)));
      config_refused = walks 4 2 3 0x0300 [] (Unsupported (port_no 3)) refl (ends refl);
      from_host = walks 4 1 255 0xE0000000 (0 ∷ 1 ∷ 2 ∷ []) (Device (port_no 2) 0) refl (goes refl (goes refl (goes refl (ends refl))));
    }

-- the ports of both editions are alike, and so the check gives both the same verdict
module _ (acs : ℕ) where
  abbrev c : Chassis
  c = chassis_of worked

  abbrev d : Chassis
  d = chassis_of (redirecting acs)

  -- what is so of four ports is so of each
  each : (P : ℕ → Type 0) → P 0 → P 1 → P 2 → P 3 → (p : ℕ) → p < 4 → P p
  each P first second third fourth zero l = first
  each P first second third fourth (suc zero) l = second
  each P first second third fourth (suc (suc zero)) l = third
  each P first second third fourth (suc (suc (suc zero))) l = fourth
  each P first second third fourth (suc (suc (suc (suc p)))) l = absurd (omega (arith, l))

  same_decoders : (t : Target) (p : ℕ) → p < 4 → c.decoders p t ≡ d.decoders p t
  unfolding zeros u16 u32 header_in record_of switch_with redirecting u16_at u32_at bridge_at fpb_at port_at record_at vector_bytes vector_of id_decoders address_decoders
  same_decoders (Id rid) = each (λ (p : ℕ). c.decoders p (Id rid) ≡ d.decoders p (Id rid)) refl refl refl refl
  same_decoders (Addr a) = each (λ (p : ℕ). c.decoders p (Addr a) ≡ d.decoders p (Addr a)) refl refl refl refl

  same_conversion : (t : Target) (p : ℕ) → p < 4 → c.conversion p t ≡ d.conversion p t
  unfolding zeros u16 u32 header_in record_of switch_with redirecting u16_at u32_at bridge_at fpb_at port_at record_at vector_bytes vector_of with_ari id_decoders in_secondary_range converted_by_bus converted
  same_conversion (Id rid) = each (λ (p : ℕ). c.conversion p (Id rid) ≡ d.conversion p (Id rid)) refl refl refl refl
  same_conversion (Addr a) = λ p l. refl

  alike : Alike c d
  unfolding zeros u16 u32 header_in record_of switch_with redirecting u16_at u32_at port_at record_at with_ari
  alike =
      record {
        trees =
            record {
              count = refl;
              kind = each (λ (p : ℕ). c.tree.kind p ≡ d.tree.kind p) refl refl refl refl;
              parent = each (λ (p : ℕ). c.tree.parent p ≡ d.tree.parent p) refl refl refl refl;
            };
        own_id = each (λ (p : ℕ). c.own_id p ≡ d.own_id p) refl refl refl refl;
        ari = each (λ (p : ℕ). c.ari p ≡ d.ari p) refl refl refl refl;
        decoders = λ p l t. same_decoders t p l;
        claims = λ p l t. ap at_least_one (same_decoders t p l);
        conversion = λ p l t. same_conversion t p l;
      }

  pub redirecting_passes : check_number (check_answer (redirecting acs)) ≡ 0
  unfolding check_of
  redirecting_passes =
      rw (redirecting_reads acs) (rw (← verdict_alike c d alike (sane_read worked four_ports (reads 4))) (rw worked_reads at worked_passes))

  -- what demand 3 says of it
  pub redirecting_one_end : (t : Target) → InRange t → OneEnd d t
  redirecting_one_end = demand_3 (redirecting acs) redirecting_passes
