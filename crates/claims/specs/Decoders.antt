-- 01, "What a port claims": each decoder by its name, of one port's registers and vectors.
use Rattle.std.specs.Prelude.{ℕ, ◌+◌, ◌-◌, ◌*◌, ◌^◌, ◌%◌, Bool, false, not, cond, ◌&&◌, List, eqb, leb, ltb}
use Rattle.ids.specs.declared.Target.{Target}
use Rattle.ids.specs.declared.Target.TheVariants.{Id, Addr}
use Rattle.ids.specs.Ids.{bus_of}
use Rattle.chassis.specs.declared.Decoders.{Decoders}
use Rattle.chassis.specs.Chassis.{at_least_one}
use Rattle.vectors.specs.Vectors.{hits}
use Rattle.registers.specs.declared.Bridge.{Bridge}
use Rattle.registers.specs.declared.Fpb.{Fpb}
use Rattle.registers.specs.declared.Port.{Port}
use Rattle.registers.specs.declared.Mechanism.{Mechanism}
use Rattle.registers.specs.declared.Mechanism.TheVariants.{Rid, Low, High}
use Rattle.registers.specs.Vectors.{field, enabled_in, settings_of}

-- both ends belong to it
abbrev pub between : ℕ → ℕ → ℕ → Bool
between lo hi t = leb lo t && leb t hi

-- bus: "bus within Secondary..Subordinate"; "The pair 0, 0 claims nothing, and so does Secondary above Subordinate"
unfoldable pub bus_claims : Bridge → ℕ → Bool
bus_claims b rid =
    not (eqb b.secondary 0 && eqb b.subordinate 0) && between b.secondary b.subordinate (bus_of rid)

-- rid, low, high: "decoding enabled and the entry set"
unfoldable pub vector_claims : Fpb → Mechanism → List ℕ → ℕ → Bool
vector_claims f m v t = enabled_in f m && hits v (settings_of f m) t

-- "Register bits 15:4 are address bits 31:20; a limit fills its low 20 bits with ones; base above limit claims nothing."
abbrev pub base_of : ℕ → ℕ
base_of register = field register 4 12 * 2 ^ 20

abbrev pub limit_of : ℕ → ℕ
limit_of register = base_of register + (2 ^ 20 - 1)

-- mem: "Memory Base..Limit"
unfoldable pub memory_claims : Bridge → ℕ → Bool
memory_claims b a = between (base_of b.memory_base) (limit_of b.memory_limit) a

-- pref: "Prefetchable type 1 (bits 3:0) uses the upper words, type 0 ignores them."
abbrev pub upper_of : Bridge → ℕ → ℕ
upper_of b upper = cond (eqb (b.prefetchable_base % 16) 1) (upper * 2 ^ 32) 0

unfoldable pub prefetchable_claims : Bridge → ℕ → Bool
prefetchable_claims b a =
    between (upper_of b b.prefetchable_base_upper + base_of b.prefetchable_base)
    (upper_of b b.prefetchable_limit_upper + limit_of b.prefetchable_limit)
    a

-- low and high: "below 4 GiB an enabled Low entry; from 4 GiB up an enabled High entry"
unfoldable pub low_claims : Fpb → List ℕ → ℕ → Bool
low_claims f v a = ltb a (2 ^ 32) && vector_claims f Low v a

unfoldable pub high_claims : Fpb → List ℕ → ℕ → Bool
high_claims f v a = leb (2 ^ 32) a && vector_claims f High v a

-- vga, 02, Item 4: "With VGA Enable (bit 3 of Bridge Control) .. set, a port also claims A0000h to BFFFFh"
unfoldable pub vga_enabled : Bridge → Bool
vga_enabled b = eqb (field b.bridge_control 3 1) 1

unfoldable pub video_claims : Bridge → ℕ → Bool
video_claims b a = vga_enabled b && between 0xA0000 0xBFFFF a

-- "Command (2); bit 1 is Memory Space Enable"
unfoldable pub memory_space_enabled : Bridge → Bool
memory_space_enabled b = eqb (field b.command 1 1) 1

abbrev pub no_decoders : Decoders
no_decoders = record { bus = false; rid = false; mem = false; pref = false; low = false; high = false; vga = false }

-- 02, Item 3: "The claim answer must name all decoders that claim the target"
unfoldable pub id_decoders : Port → (Mechanism → List ℕ) → ℕ → Decoders
id_decoders p vector rid =
    record {
      bus = bus_claims p.bridge rid;
      rid = vector_claims p.fpb Rid (vector Rid) rid;
      mem = false;
      pref = false;
      low = false;
      high = false;
      vga = false;
    }

-- addresses "only with Memory Space Enable set". 02, Item 4, of 01's "These are all the decoders.": document 001 "lists more", of which
-- vga joins and "Enhanced Allocation stays out"
unfoldable pub address_decoders : Port → (Mechanism → List ℕ) → ℕ → Decoders
address_decoders p vector a =
    cond (memory_space_enabled p.bridge)
    (record {
      bus = false;
      rid = false;
      mem = memory_claims p.bridge a;
      pref = prefetchable_claims p.bridge a;
      low = low_claims p.fpb (vector Low) a;
      high = high_claims p.fpb (vector High) a;
      vga = video_claims p.bridge a;
    })
    no_decoders

abbrev pub decoders_of : Port → (Mechanism → List ℕ) → Target → Decoders
decoders_of p vector (Id rid) = id_decoders p vector rid.0
decoders_of p vector (Addr a) = address_decoders p vector a

-- "Everything that asked yes or no now means "at least one"."
abbrev pub claims_target : Port → (Mechanism → List ℕ) → Target → Bool
claims_target p vector t = at_least_one (decoders_of p vector t)
