-- 01, "The picture", and 02, Item 8: the record of a port, field by field. `r` is where the record starts.
use Rattle.std.specs.Prelude.{ℕ, ◌+◌, ◌*◌, cond, List, eqb, get_or}
use Rattle.lent.specs.Lent.{u16_at, u32_at}
use Rattle.registers.specs.declared.Bridge.{Bridge}
use Rattle.registers.specs.declared.Fpb.{Fpb}
use Rattle.registers.specs.declared.Port.{Port}

unfoldable pub bridge_at : List ℕ → ℕ → Bridge
bridge_at s r =
    record {
      command = u16_at s (r + 4);
      secondary = get_or s (r + 6) 0;
      subordinate = get_or s (r + 7) 0;
      memory_base = u16_at s (r + 8);
      memory_limit = u16_at s (r + 10);
      prefetchable_base = u16_at s (r + 12);
      prefetchable_limit = u16_at s (r + 14);
      prefetchable_base_upper = u32_at s (r + 16);
      prefetchable_limit_upper = u32_at s (r + 20);
      bridge_control = u16_at s (r + 26);
    }

unfoldable pub fpb_at : List ℕ → ℕ → Fpb
fpb_at s r =
    record {
      capabilities = u32_at s (r + 28);
      rid_control_1 = u32_at s (r + 32);
      rid_control_2 = u32_at s (r + 36);
      mem_low_control = u32_at s (r + 40);
      mem_high_control_1 = u32_at s (r + 44);
      mem_high_control_2 = u32_at s (r + 48);
    }

-- "Header of 16: edition (2 bytes, 1)"
abbrev pub edition_of : List ℕ → ℕ
edition_of s = u16_at s 0

-- "Then n records of 56"; 02, Item 8: "Edition 2 has records of 60 bytes"
abbrev pub record_bytes : ℕ → ℕ
record_bytes edition = cond (eqb edition 2) 60 56

-- where the record of port p starts in a picture of an edition, or where all records end if p is the count; and in the picture s
unfoldable pub record_at : ℕ → ℕ → ℕ
record_at edition p = 16 + record_bytes edition * p

abbrev pub record_in : List ℕ → ℕ → ℕ
record_in s p = record_at (edition_of s) p

-- a field that records of 60 bytes alone have: elsewhere it counts as 0
abbrev pub in_edition2 : ℕ → ℕ → ℕ
in_edition2 edition value = cond (eqb edition 2) value 0

-- 02, Item 8: "at 56 the ACS Control register (2 bytes), at 58 two zeros"
unfoldable pub port_at : List ℕ → ℕ → Port
port_at s p =
    record {
      kind = get_or s (record_in s p) 0;
      parent = record { 0 = get_or s (record_in s p + 1) 0 };
      own_id = record { 0 = u16_at s (record_in s p + 2) };
      device_control_2 = u16_at s (record_in s p + 24);
      bridge = bridge_at s (record_in s p);
      fpb = fpb_at s (record_in s p);
      vectors_at = u32_at s (record_in s p + 52);
      acs_control = in_edition2 (edition_of s) (u16_at s (record_in s p + 56));
      zeros = in_edition2 (edition_of s) (u16_at s (record_in s p + 58));
    }
