-- The IDs that a port takes, by its conversion, as ranges and a grid: of the Secondary range what it claims, and the bus Secondary.
mod Words
use Words.*

-- the IDs of the units lo..hi, and of a bus
abbrev pub unit_range : ℕ → ℕ → Range
unit_range lo hi = record { lo = lo * 2 ^ 3; hi = hi * 2 ^ 3 + (2 ^ 3 - 1) }

abbrev pub whole_bus : ℕ → Range
whole_bus bus = record { lo = bus * 2 ^ 8; hi = bus * 2 ^ 8 + (2 ^ 8 - 1) }

-- the IDs of the Secondary range (`in_secondary_range`)
unfoldable pub secondary_range : Port → Range
secondary_range p =
    cond (eqb p.kind upstream) (unit_range (secondary_start p.fpb) (secondary_start p.fpb + num_sec_dev p.fpb))
    (cond (with_ari p) (whole_bus (secondary_start p.fpb / 2 ^ 5)) (unit_range (secondary_start p.fpb) (secondary_start p.fpb)))

-- it counts with RID decoding enabled
abbrev pub secondary_if : Port → Range
secondary_if p = range_if (enabled_in p.fpb Rid) (secondary_range p).lo (secondary_range p).hi

-- the bus Secondary of a pair that claims
unfoldable pub secondary_bus : Bridge → Range
secondary_bus b =
    range_if (not (eqb b.secondary 0 && eqb b.subordinate 0) && leb b.secondary b.subordinate) (whole_bus b.secondary).lo
    (whole_bus b.secondary).hi

-- what two ranges have in common
unfoldable pub common : Range → Range → Range
common a b = record { lo = max a.lo b.lo; hi = min a.hi b.hi }

abbrev pub all_ids : Range
all_ids = record { lo = 0; hi = 2 ^ 16 - 1 }

unfoldable pub taken_reach : Port → Reach
taken_reach p =
    record {
      first = common (secondary_if p) (bus_range true p.bridge);
      second = secondary_bus p.bridge;
      one = record { within = common (secondary_if p) all_ids; settings = settings_of p.fpb Rid };
      other = grid_if false p.fpb High 1 0;
    }

-- no address is taken
abbrev pub taken_in : Port → Space → Reach
taken_in p Ids = taken_reach p
taken_in p Addresses = address_reach p false

-- what is looked at of a port: what it takes; or its own ID and what it claims, where those are
abbrev pub looked_at : Port → Space → Looked → Reach
looked_at p space Taken = taken_in p space
looked_at p space (Held own claims) = reach_of p space own claims
