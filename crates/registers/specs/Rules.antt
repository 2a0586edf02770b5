-- 01, "Numbers given back", and 02, Item 8: numbers 8 and 9, and what two bits say, of one port's registers.
use Rattle.std.specs.Prelude.{◌+◌, ◌%◌, ◌^◌, Bool, not, ◌&&◌, ◌||◌, eqb, leb, ltb}
use Rattle.chassis.specs.Tree.{upstream}
use Rattle.registers.specs.declared.Bridge.{Bridge}
use Rattle.registers.specs.declared.Fpb.{Fpb}
use Rattle.registers.specs.declared.Mechanism.{Mechanism}
use Rattle.registers.specs.declared.Mechanism.TheVariants.{Rid, Low, High}
use Rattle.registers.specs.declared.Port.{Port}
use Rattle.registers.specs.Vectors.{field, supported_in, enabled_in, size_code, granularity_code, settings_of}

-- "size codes: 0: 256, 2: 1,024, 5: 8,192; s = 0..4; s = 0..5"
unfoldable pub size_reserved : Fpb → Mechanism → Bool
size_reserved f Rid = not (eqb (size_code f Rid) 0 || eqb (size_code f Rid) 2 || eqb (size_code f Rid) 5)
size_reserved f Low = ltb 4 (size_code f Low)
size_reserved f High = ltb 5 (size_code f High)

-- "allowed together: size 0: 0, 3, 5; size 2: 0, 3; size 5: 0; g ≤ 4 − s; any" of g = 0..7
unfoldable pub granularity_allowed : Fpb → Mechanism → Bool
granularity_allowed f Rid =
    eqb (granularity_code f Rid) 0
    || eqb (granularity_code f Rid) 3 && (eqb (size_code f Rid) 0 || eqb (size_code f Rid) 2)
    || eqb (granularity_code f Rid) 5 && eqb (size_code f Rid) 0
granularity_allowed f Low = leb (granularity_code f Low + size_code f Low) 4
granularity_allowed f High = leb (granularity_code f High) 7

-- "enabled but not supported; a supported size reserved; an enabled granularity not allowed"
unfoldable pub mechanism_wrong : Fpb → Mechanism → Bool
mechanism_wrong f m =
    enabled_in f m && not (supported_in f m)
    || supported_in f m && size_reserved f m
    || enabled_in f m && not (granularity_allowed f m)

-- "Memory bits 3:0 not 0; Prefetchable bits 3:0 not 0 or 1, or unequal"
unfoldable pub memory_bits_wrong : Bridge → Bool
memory_bits_wrong b =
    not (eqb (b.memory_base % 16) 0)
    || not (eqb (b.memory_limit % 16) 0)
    || ltb 1 (b.prefetchable_base % 16)
    || not (eqb (b.prefetchable_base % 16) (b.prefetchable_limit % 16))

-- number 8; 02, Item 8: "nonzero bytes at 58 join number 8"
unfoldable pub settings_wrong : Port → Bool
settings_wrong p =
    mechanism_wrong p.fpb Rid
    || mechanism_wrong p.fpb Low
    || mechanism_wrong p.fpb High
    || memory_bits_wrong p.bridge
    || not (eqb p.zeros 0)

-- "Device Control 2 (2); bit 5 is ARI Forwarding Enable", "on a root or downstream port"
unfoldable pub with_ari : Port → Bool
with_ari p = not (eqb p.kind upstream) && eqb (field p.device_control_2 5 1) 1

-- 02, Item 8: "bit 2 (P2P Request Redirect)" of ACS Control
unfoldable pub with_redirect : Port → Bool
with_redirect p = eqb (field p.acs_control 2 1) 1

-- "Starts are multiples of the granularity."
unfoldable pub start_broken : Fpb → Mechanism → Bool
start_broken f m = enabled_in f m && not (eqb ((settings_of f m).start % 2 ^ (settings_of f m).scale) 0)

-- number 9: "an enabled start breaks its rule"; "With ARI set on a root or downstream port and RID decoding enabled, bits 23:19 of
-- RID Control 1 are zero."
unfoldable pub start_wrong : Port → Bool
start_wrong p =
    start_broken p.fpb Rid
    || start_broken p.fpb Low
    || start_broken p.fpb High
    || with_ari p && enabled_in p.fpb Rid && not (eqb (field p.fpb.rid_control_1 19 5) 0)
