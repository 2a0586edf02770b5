-- What a port takes, as the search has it, is what the paper says, and so is what is looked at of a port. Assumes nothing.
use Prim.Native.Nat.{ℕ, ◌+◌, ◌-◌, ◌*◌, ◌/◌, ◌^◌, ◌≤◌, ◌<◌, min, max}
use mathlib.Core.Bool.{Bool, true, false, not, cond, ◌&&◌, ◌||◌, and-false, and-true}
use mathlib.Core.List.{List}
use mathlib.Core.Path.{◌≡◌, refl, sym, ◌∙◌}
use native.Mathlib.Decide.{dec_le, ℕ_discrete}
use native.Mathlib.Omega.{arith}
use lib.Dec.{eqb, leb}
use borrow.Author.Tests.{le-leb, lt-leb, eq-eqb, ne_eqb}
use Rattle.ids.specs.declared.Space.{Space}
use Rattle.ids.specs.declared.Space.TheVariants.{Ids, Addresses}
use Rattle.ids.specs.declared.Target.{Target}
use Rattle.ids.specs.Ids.{bus_of, unit_of}
use Rattle.chassis.specs.Chassis.{Chassis, target_in, space_size, is_own}
use Rattle.chassis.specs.Check.{takes, takes_at}
use Rattle.chassis.specs.Tree.{upstream}
use Rattle.vectors.specs.Vectors.{hits}
use Rattle.registers.specs.declared.Bridge.{Bridge}
use Rattle.registers.specs.declared.Port.{Port}
use Rattle.registers.specs.declared.Mechanism.{Mechanism}
use Rattle.registers.specs.declared.Mechanism.TheVariants.{Rid, High}
use Rattle.registers.specs.Record.{port_at}
use Rattle.registers.specs.Rules.{with_ari}
use Rattle.registers.specs.Vectors.{enabled_in, settings_of}
use Rattle.claims.specs.Decoders.{between, bus_claims, vector_claims}
use Rattle.claims.specs.Conversion.{secondary_start, num_sec_dev, in_secondary_range, converted}
use Rattle.claims.specs.Claims.{chassis_with}
use Rattle.claims.specs.Beside.{without_video}
use Rattle.claims.proofs.Converts.{takes_what}
use Rattle.claims.proofs.Joined.{claims_id}
use Rattle.claims.proofs.Laws.{same_leb}
use Rattle.spans.specs.declared.ranges.Range.{Range}
use Rattle.spans.specs.Ranges.{in_range}
use Rattle.spans.specs.Grids.{hit_in}
use Rattle.spans.specs.Reaches.{on_ranges, on_grids, reaches}
use Rattle.holdings.specs.Holdings.{bus_range, one_of}
use Rattle.holdings.specs.Taken.{unit_range, whole_bus, secondary_range, secondary_if, secondary_bus, common, all_ids, taken_reach, looked_at}
use Rattle.holdings.specs.declared.Looked.{Looked}
use Rattle.holdings.specs.declared.Looked.TheVariants.{Taken, Held}
use Rattle.holdings.proofs.Words.{range_in, grid_in, bus_between, bus_in, address_words, reach_words}

-- n + 1 units end with the last ID of the unit n
pub last_id : (start n : ℕ) → (start + (n + 1)) * 8 - 1 ≡ (start + n) * 2 ^ 3 + (2 ^ 3 - 1)
last_id start n = omega arith

-- what is later than both, and sooner than both
leb-max : (a b t : ℕ) → leb (max a b) t ≡ (leb a t && leb b t)
leb-max a b t = go (dec_le a t) (dec_le b t)
  where
    go : Dec (a ≤ t) → Dec (b ≤ t) → leb (max a b) t ≡ (leb a t && leb b t)
    go (yes l) (yes h) = rw (le-leb a t l, le-leb b t h, le-leb (max a b) t (omega arith))
    go (yes l) (no h) = rw (le-leb a t l, lt-leb b t (omega arith), lt-leb (max a b) t (omega arith))
    go (no l) h = rw (lt-leb a t (omega arith), lt-leb (max a b) t (omega arith))

leb-min : (t a b : ℕ) → leb t (min a b) ≡ (leb t a && leb t b)
leb-min t a b = go (dec_le t a) (dec_le t b)
  where
    go : Dec (t ≤ a) → Dec (t ≤ b) → leb t (min a b) ≡ (leb t a && leb t b)
    go (yes l) (yes h) = rw (le-leb t a l, le-leb t b h, le-leb t (min a b) (omega arith))
    go (yes l) (no h) = rw (le-leb t a l, lt-leb t b (omega arith), lt-leb t (min a b) (omega arith))
    go (no l) h = rw (lt-leb t a (omega arith), lt-leb t (min a b) (omega arith))

and_pairs : (a b x y : Bool) → ((a && b) && (x && y)) ≡ ((a && x) && (b && y))
and_pairs true true x y = refl
and_pairs true false x y = sym (and-false x)
and_pairs false b x y = refl

common_in : (a b : Range) (t : ℕ) → in_range (common a b) t ≡ (in_range a t && in_range b t)
unfolding common in_range
common_in a b t = rw (leb-max a.lo b.lo t, leb-min t a.hi b.hi) (and_pairs (leb a.lo t) (leb b.lo t) (leb t a.hi) (leb t b.hi))

-- the IDs of the units lo..hi are a range, and so are those of one
unit_between : (lo hi t : ℕ) → between (lo * 2 ^ 3) (hi * 2 ^ 3 + (2 ^ 3 - 1)) t ≡ between lo hi (unit_of t)
unit_between lo hi t =
    rw (same_leb (lo * 2 ^ 3) t lo (t / 2 ^ 3) (λ l. omega arith) (λ l. omega arith), same_leb t (hi * 2 ^ 3 + (2 ^ 3 - 1)) (t / 2 ^ 3) hi (λ l. omega arith) (λ l. omega arith))

only_between : (x t : ℕ) → between x x t ≡ eqb t x
only_between x t = go (ℕ_discrete t x) (dec_le x t)
  where
    go : Dec (t ≡ x) → Dec (x ≤ t) → between x x t ≡ eqb t x
    go (yes e) l = rw (le-leb x t (omega arith), le-leb t x (omega arith), eq-eqb t x e)
    go (no e) (yes l) = rw (le-leb x t l, lt-leb t x (omega arith), ne_eqb t x e)
    go (no e) (no l) = rw (lt-leb x t (omega arith), ne_eqb t x e)

-- the Secondary range, by whether the port is an upstream port and whether it has ARI
abbrev range_by : Bool → Bool → ℕ → ℕ → Range
range_by up ari start n = cond up (unit_range start (start + n)) (cond ari (whole_bus (start / 2 ^ 5)) (unit_range start start))

range_by_lem : (up ari : Bool) (start n t : ℕ) → t < 2 ^ 16
    → between (range_by up ari start n).lo (range_by up ari start n).hi t
    ≡ cond up (between start (start + n) (unit_of t)) (cond ari (eqb (bus_of t) (start / 2 ^ 5)) (eqb (unit_of t) start))
range_by_lem true ari start n t small = unit_between start (start + n) t
range_by_lem false true start n t small =
    bus_between (start / 2 ^ 5) (start / 2 ^ 5) t small ∙ only_between (start / 2 ^ 5) (bus_of t)
range_by_lem false false start n t small = unit_between start start t ∙ only_between start (unit_of t)

secondary_in : (p : Port) (t : ℕ) → t < 2 ^ 16 → in_range (secondary_if p) t ≡ (enabled_in p.fpb Rid && in_secondary_range p t)
unfolding secondary_range in_secondary_range
secondary_in p t small =
    rw (range_in (enabled_in p.fpb Rid) _ _ t, range_by_lem (eqb p.kind upstream) (with_ari p) (secondary_start p.fpb) (num_sec_dev p.fpb) t small)

all_in : (t : ℕ) → t < 2 ^ 16 → in_range all_ids t ≡ true
unfolding in_range
all_in t small = rw (le-leb 0 t (omega arith), le-leb t (2 ^ 16 - 1) (omega arith))

-- the bus Secondary of a pair that claims
first_bus : (on : Bool) (lo hi bus : ℕ) → ((on && leb lo hi) && eqb bus lo) ≡ ((on && between lo hi bus) && eqb bus lo)
first_bus on lo hi bus = go (ℕ_discrete bus lo)
  where
    go : Dec (bus ≡ lo) → ((on && leb lo hi) && eqb bus lo) ≡ ((on && between lo hi bus) && eqb bus lo)
    go (yes e) = rw (e, le-leb lo lo (omega arith))
    go (no e) = rw (ne_eqb bus lo e, and-false (on && leb lo hi), and-false (on && between lo hi bus))

bus_secondary_in : (b : Bridge) (t : ℕ) → t < 2 ^ 16 → in_range (secondary_bus b) t ≡ (bus_claims b t && eqb (bus_of t) b.secondary)
unfolding secondary_bus bus_claims
bus_secondary_in b t small =
    rw (range_in _ _ _ t, bus_between b.secondary b.secondary t small, only_between b.secondary (bus_of t))
    (first_bus (not (eqb b.secondary 0 && eqb b.subordinate 0)) b.secondary b.subordinate (bus_of t))

-- what is claimed of the Secondary range, or is on the bus Secondary
taken_ways : (on range bus first entry : Bool)
    → ((((on && range) && bus) || (bus && first)) || (((on && range) && entry) || false))
    ≡ ((bus || (on && entry)) && ((on && range) || (bus && first)))
taken_ways true true true first entry = refl
taken_ways true true false first true = refl
taken_ways true true false first false = refl
taken_ways true false true true entry = refl
taken_ways true false true false entry = refl
taken_ways true false false first true = refl
taken_ways true false false first false = refl
taken_ways false range true true entry = refl
taken_ways false range true false entry = refl
taken_ways false range false first entry = refl

module _ (p : Port) (vector : Mechanism → List ℕ) where
  taken_words : (t : ℕ) → t < 2 ^ 16 → reaches (taken_reach p) (vector Rid) (vector High) t ≡ takes (converted p vector t)
  unfolding reaches on_ranges on_grids hit_in taken_reach vector_claims
  taken_words t small =
      rw (
        takes_what p vector t,
        grid_in false p.fpb High (vector High) 1 0 t,
        common_in (secondary_if p) (bus_range true p.bridge) t,
        common_in (secondary_if p) all_ids t,
        secondary_in p t small,
        bus_in true p.bridge t small,
        bus_secondary_in p.bridge t small,
        claims_id p vector t,
        all_in t small,
        and-true (enabled_in p.fpb Rid && in_secondary_range p t),
      )
      (taken_ways (enabled_in p.fpb Rid) (in_secondary_range p t) (bus_claims p.bridge t) (eqb (bus_of t) p.bridge.secondary)
      (hits (vector Rid) (settings_of p.fpb Rid) t))

-- what is looked at of a picture's port with these vectors, in either space
module _ (s : List ℕ) (vector : ℕ → Mechanism → List ℕ) (n : ℕ) where
  abbrev c : Chassis
  c = without_video (chassis_with s vector)

  abbrev has_at : Looked → Target → Bool
  has_at Taken t = takes_at c t n
  has_at (Held own claims) t = own && is_own c t n || claims && c.claims n t

  pub looked_words : (space : Space) (what : Looked) (t : ℕ) → t < space_size space
      → reaches (looked_at (port_at s n) space what) (vector n (one_of space)) (vector n High) t ≡ has_at what (target_in space t)
  looked_words Ids Taken t l = taken_words (port_at s n) (vector n) t l
  looked_words Addresses Taken t l = address_words (port_at s n) (vector n) false false t l
  looked_words Ids (Held own claims) t l = reach_words s vector n Ids own claims t l
  looked_words Addresses (Held own claims) t l = reach_words s vector n Addresses own claims t l
