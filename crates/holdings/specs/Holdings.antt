-- What a port holds or claims in one space beside the video range, as ranges and grids. What is off is an empty range.
mod Words
use Words.*

unfoldable pub range_if : Bool → ℕ → ℕ → Range
range_if on lo hi = cond on (record { lo = lo; hi = hi }) (record { lo = 1; hi = 0 })

-- a vector's entries count if its mechanism is enabled
unfoldable pub grid_if : Bool → Fpb → Mechanism → ℕ → ℕ → Grid
grid_if on f m lo hi = record { within = range_if (on && enabled_in f m) lo hi; settings = settings_of f m }

-- the IDs of the buses Secondary..Subordinate; the pair 0, 0 claims nothing
unfoldable pub bus_range : Bool → Bridge → Range
bus_range on b =
    range_if (on && not (eqb b.secondary 0 && eqb b.subordinate 0)) (b.secondary * 2 ^ 8) (b.subordinate * 2 ^ 8 + (2 ^ 8 - 1))

unfoldable pub memory_range : Bool → Bridge → Range
memory_range on b = range_if on (base_of b.memory_base) (limit_of b.memory_limit)

unfoldable pub prefetchable_range : Bool → Bridge → Range
prefetchable_range on b =
    range_if on (upper_of b b.prefetchable_base_upper + base_of b.prefetchable_base)
    (upper_of b b.prefetchable_limit_upper + limit_of b.prefetchable_limit)

unfoldable pub id_reach : Port → Bool → Bool → Reach
id_reach p own claims =
    record {
      first = bus_range claims p.bridge;
      second = range_if own p.own_id.0 p.own_id.0;
      one = grid_if claims p.fpb Rid 0 (2 ^ 16 - 1);
      other = grid_if false p.fpb High 1 0;
    }

unfoldable pub address_reach : Port → Bool → Reach
address_reach p on =
    record {
      first = memory_range on p.bridge;
      second = prefetchable_range on p.bridge;
      one = grid_if on p.fpb Low 0 (2 ^ 32 - 1);
      other = grid_if on p.fpb High (2 ^ 32) (2 ^ 64 - 1);
    }

-- the port's own ID, where `own`, and what it claims beside the video range, where `claims`; an own ID is no address
abbrev pub reach_of : Port → Space → Bool → Bool → Reach
reach_of p Ids own claims = id_reach p own claims
reach_of p Addresses own claims = address_reach p (claims && memory_space_enabled p.bridge)

-- the vectors of the two grids
abbrev pub one_of : Space → Mechanism
one_of Ids = Rid
one_of Addresses = Low

-- nothing lies past the last target of a space
abbrev pub EndsIn : Space → Reach → Type 0
EndsIn space d =
    (d.first.hi < space_size space)
    × (d.second.hi < space_size space)
    × (d.one.within.hi < space_size space)
    × (d.other.within.hi < space_size space)
