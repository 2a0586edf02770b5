-- What a port claims beside the video range, in units: of 8 IDs, of a MiB, or of granules of MEM High. What is off is an empty range.
use Rattle.std.specs.Prelude.{ℕ, ◌+◌, ◌-◌, ◌*◌, ◌/◌, ◌%◌, ◌^◌, ◌≤◌, ◌<◌, Bool, false, not, cond, ◌&&◌, ◌||◌, List, eqb, leb, Option, Some, None}
use Rattle.vectors.specs.declared.Settings.{Settings}
use Rattle.vectors.specs.Vectors.{hits}
use Rattle.registers.specs.declared.Bridge.{Bridge}
use Rattle.registers.specs.declared.Port.{Port}
use Rattle.registers.specs.declared.Mechanism.{Mechanism}
use Rattle.registers.specs.declared.Mechanism.TheVariants.{Rid as OfRid, Low as OfLow, High as OfHigh}
use Rattle.registers.specs.Record.{port_at}
use Rattle.registers.specs.Vectors.{enabled_in, settings_of}
use Rattle.claims.specs.Decoders.{base_of, upper_of, memory_space_enabled}
use Rattle.spans.specs.declared.ranges.Range.{Range}
use Rattle.spans.specs.Ranges.{in_range}
use Rattle.holdings.specs.Holdings.{range_if}
use Rattle.patches.specs.Halves.{vector_over}
use Rattle.painted.specs.declared.units.Claimed.{Claimed}
use Rattle.painted.specs.declared.units.Window.{Window}
use Rattle.painted.specs.declared.units.Part.{Part}
use Rattle.painted.specs.declared.units.Part.TheVariants.{Ids, Low, High}

-- how many targets a unit has, as a power of 2, and the unit that a part begins with
abbrev pub unit_bits : Part → ℕ
unit_bits Ids = 3
unit_bits Low = 20
unit_bits (High w) = w.scale

abbrev pub base_unit : Part → ℕ
base_unit Ids = 0
base_unit Low = 0
base_unit (High w) = w.base

abbrev pub mechanism_of : Part → Mechanism
mechanism_of Ids = OfRid
mechanism_of Low = OfLow
mechanism_of (High w) = OfHigh

-- a window lies above 4 GiB, and its units have numbers that can be added to
abbrev pub FitsWindow : Window → Type 0
FitsWindow w = (28 ≤ w.scale) × (w.scale < 64) × (w.base < 2 ^ 62)

abbrev pub FitsPart : Part → Type 0
FitsPart Ids = Unit {0}
FitsPart Low = Unit {0}
FitsPart (High w) = FitsWindow w

-- each entry is whole units of 2^k targets
unfoldable pub whole_in : Settings → ℕ → Bool
whole_in g k = leb k g.scale && eqb (g.start / 2 ^ k * 2 ^ k % 2 ^ 64) g.start

abbrev pub in_units : Settings → ℕ → Settings
in_units g k = record { size = g.size; start = g.start / 2 ^ k; scale = g.scale - k }

unfoldable pub id_units : Port → Claimed
id_units p =
    record {
      first = range_if (not (eqb p.bridge.secondary 0 && eqb p.bridge.subordinate 0)) (p.bridge.secondary * 32) (p.bridge.subordinate * 32 + 31);
      second = record { lo = 1; hi = 0 };
      entries = cond (enabled_in p.fpb OfRid) (Some (in_units (settings_of p.fpb OfRid) 3)) None;
    }

unfoldable pub memory_units : Bool → Bridge → Range
memory_units on b = range_if on (base_of b.memory_base / 2 ^ 20) (base_of b.memory_limit / 2 ^ 20)

unfoldable pub prefetchable_units : Bool → Bridge → Range
prefetchable_units on b =
    range_if on ((upper_of b b.prefetchable_base_upper + base_of b.prefetchable_base) / 2 ^ 20)
    ((upper_of b b.prefetchable_limit_upper + base_of b.prefetchable_limit) / 2 ^ 20)

unfoldable pub address_units : Port → Claimed
address_units p =
    record {
      first = memory_units (memory_space_enabled p.bridge) p.bridge;
      second = prefetchable_units (memory_space_enabled p.bridge) p.bridge;
      entries = cond (memory_space_enabled p.bridge && enabled_in p.fpb OfLow) (Some (in_units (settings_of p.fpb OfLow) 20)) None;
    }

unfoldable pub high_units : Port → Window → Claimed
high_units p w =
    record {
      first = record { lo = 1; hi = 0 };
      second = record { lo = 1; hi = 0 };
      entries = cond (memory_space_enabled p.bridge && enabled_in p.fpb OfHigh && whole_in (settings_of p.fpb OfHigh) w.scale) (Some (in_units (settings_of p.fpb OfHigh) w.scale)) None;
    }

abbrev pub units_of : Port → Part → Claimed
units_of p Ids = id_units p
units_of p Low = address_units p
units_of p (High w) = high_units p w

-- v is the vector, whose entries count where there are settings
abbrev pub hits_if : List ℕ → Option Settings → ℕ → Bool
hits_if v (Some g) u = hits v g u
hits_if v None u = false

unfoldable pub claimed_by : Claimed → List ℕ → ℕ → Bool
claimed_by d v u = in_range d.first u || in_range d.second u || hits_if v d.entries u

-- unit u of a part, counted from its first, is claimed by port p of a picture and a patch
unfoldable pub claimed_in : List ℕ → List ℕ → ℕ → Part → ℕ → Bool
claimed_in s patch p part u = claimed_by (units_of (port_at s p) part) (vector_over s patch p (mechanism_of part)) (base_unit part + u)
