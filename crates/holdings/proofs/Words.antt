-- The search's words are the paper's: what a reach of a port reaches is what is its own or what it claims beside the video range.
-- Assumes nothing.
use Prim.Native.Nat.{ℕ, suc, ◌+◌, ◌-◌, ◌*◌, ◌/◌, ◌^◌, ◌≤◌, ◌<◌}
use mathlib.Core.Bool.{Bool, true, false, ◌&&◌, ◌||◌, and_assoc, and-false, and-true}
use mathlib.Core.List.{List}
use mathlib.Core.Path.{◌≡◌, refl, ◌∙◌, ap}
use native.Mathlib.Decide.{dec_le, ℕ_discrete}
use native.Mathlib.Nat.{mod-eq_of_lt}
use native.Mathlib.Omega.{arith}
use lib.Dec.{eqb, leb, ltb}
use borrow.Author.Tests.{le-leb, lt-leb, eq-eqb, ne_eqb}
use Rattle.ids.specs.declared.Space.{Space}
use Rattle.ids.specs.declared.Space.TheVariants.{Ids, Addresses}
use Rattle.ids.specs.Ids.{bus_of}
use Rattle.chassis.specs.Chassis.{target_in, space_size, is_own}
use Rattle.vectors.specs.Vectors.{hits}
use Rattle.registers.specs.declared.Bridge.{Bridge}
use Rattle.registers.specs.declared.Fpb.{Fpb}
use Rattle.registers.specs.declared.Port.{Port}
use Rattle.registers.specs.declared.Mechanism.{Mechanism}
use Rattle.registers.specs.declared.Mechanism.TheVariants.{Rid, Low, High}
use Rattle.registers.specs.Record.{port_at}
use Rattle.registers.specs.Vectors.{enabled_in, settings_of}
use Rattle.claims.specs.Decoders.{between, base_of, bus_claims, vector_claims, memory_claims, prefetchable_claims, low_claims, high_claims, memory_space_enabled, id_decoders, address_decoders}
use Rattle.claims.specs.Claims.{chassis_with}
use Rattle.claims.specs.Beside.{beside_video, without_video}
use Rattle.claims.proofs.Joined.{beside_id, beside_address}
use Rattle.claims.proofs.Laws.{same_leb}
use Rattle.spans.specs.declared.Reach.{Reach}
use Rattle.spans.specs.Ranges.{in_range}
use Rattle.spans.specs.Grids.{hit_in}
use Rattle.spans.specs.Reaches.{on_ranges, on_grids, reaches}
use Rattle.spans.proofs.OfRanges.{above}
use Rattle.holdings.specs.Holdings.{range_if, grid_if, bus_range, memory_range, prefetchable_range, id_reach, address_reach, reach_of, one_of, EndsIn}
use Rattle.holdings.proofs.Bools.{and_swap, either_way, four_ways}

-- a range or a grid that is off reaches nothing
pub range_in : (on : Bool) (lo hi t : ℕ) → in_range (range_if on lo hi) t ≡ (on && between lo hi t)
unfolding range_if in_range
range_in true lo hi t = refl
range_in false lo hi t = go (dec_le 1 t)
  where
    go : Dec (1 ≤ t) → (leb 1 t && leb t 0) ≡ false
    go (yes l) = rw (le-leb 1 t l, lt-leb t 0 l)
    go (no l) = rw (lt-leb 1 t (omega arith))

pub grid_in : (on : Bool) (f : Fpb) (m : Mechanism) (v : List ℕ) (lo hi t : ℕ)
    → hit_in v (grid_if on f m lo hi) t ≡ (on && (between lo hi t && vector_claims f m v t))
unfolding hit_in grid_if vector_claims
grid_in on f m v lo hi t =
    rw (range_in (on && enabled_in f m) lo hi t, and_assoc on (enabled_in f m) (between lo hi t), and_assoc on (enabled_in f m && between lo hi t) (hits v (settings_of f m) t), and_assoc (enabled_in f m) (between lo hi t) (hits v (settings_of f m) t))
    (ap (λ (b : Bool). on && b) (and_swap (enabled_in f m) (between lo hi t) (hits v (settings_of f m) t)))

-- the IDs of the buses lo..hi are a range
pub bus_between : (lo hi t : ℕ) → t < 2 ^ 16 → between (lo * 2 ^ 8) (hi * 2 ^ 8 + (2 ^ 8 - 1)) t ≡ between lo hi (bus_of t)
bus_between lo hi t small =
    let bus : bus_of t ≡ t / 2 ^ 8 = mod-eq_of_lt (omega arith) in
    rw (bus, same_leb (lo * 2 ^ 8) t lo (t / 2 ^ 8) (λ l. omega arith) (λ l. omega arith), same_leb t (hi * 2 ^ 8 + (2 ^ 8 - 1)) (t / 2 ^ 8) hi (λ l. omega arith) (λ l. omega arith))

between_one : (id t : ℕ) → between id id t ≡ eqb id t
between_one id t = go (ℕ_discrete id t) (dec_le id t)
  where
    go : Dec (id ≡ t) → Dec (id ≤ t) → between id id t ≡ eqb id t
    go (yes e) l = rw (le-leb id t (omega arith), le-leb t id (omega arith), eq-eqb id t e)
    go (no e) (yes l) = rw (le-leb id t l, lt-leb t id (omega arith), ne_eqb id t e)
    go (no e) (no l) = rw (lt-leb id t (omega arith), ne_eqb id t e)

-- a space, and the part of the addresses that a vector covers, from its first target or to its last
from_first : (last t : ℕ) → between 0 last t ≡ leb t last
from_first last t = rw (le-leb 0 t (omega arith))

to_last : (lo last t : ℕ) → t ≤ last → between lo last t ≡ leb lo t
to_last lo last t l = rw (le-leb t last l) (and-true (leb lo t))

below_four : (t : ℕ) → leb t (2 ^ 32 - 1) ≡ ltb t (2 ^ 32)
below_four t = same_leb t (2 ^ 32 - 1) (suc t) (2 ^ 32) (λ l. omega arith) (λ l. omega arith)

pub bus_in : (on : Bool) (b : Bridge) (t : ℕ) → t < 2 ^ 16 → in_range (bus_range on b) t ≡ (on && bus_claims b t)
unfolding bus_range bus_claims
bus_in on b t small = rw (range_in _ _ _ t, bus_between _ _ t small, and_assoc)

module _ (p : Port) (vector : Mechanism → List ℕ) (own claims : Bool) where
  id_words : (t : ℕ) → t < 2 ^ 16
      → reaches (id_reach p own claims) (vector Rid) (vector High) t ≡ (own && eqb p.own_id.0 t || claims && beside_video (id_decoders p vector t))
  unfolding reaches on_ranges on_grids id_reach
  id_words t small =
      rw (
        beside_id p vector t,
        bus_in claims p.bridge t small,
        range_in own _ _ t,
        between_one p.own_id.0 t,
        grid_in claims p.fpb Rid (vector Rid) 0 (2 ^ 16 - 1) t,
        grid_in false p.fpb High (vector High) 1 0 t,
        from_first (2 ^ 16 - 1) t,
        le-leb t (2 ^ 16 - 1) (omega arith),
      )
      (either_way claims (own && eqb p.own_id.0 t) (bus_claims p.bridge t) (vector_claims p.fpb Rid (vector Rid) t))

  pub address_words : (t : ℕ) → t < 2 ^ 64
      → reaches (address_reach p (claims && memory_space_enabled p.bridge)) (vector Low) (vector High) t ≡ (claims && beside_video (address_decoders p vector t))
  unfolding reaches on_ranges on_grids address_reach memory_range prefetchable_range memory_claims prefetchable_claims low_claims high_claims
  address_words t small =
      let on = claims && memory_space_enabled p.bridge in
      rw (
        beside_address p vector t,
        range_in on (base_of p.bridge.memory_base) _ t,
        range_in on _ _ t,
        grid_in on p.fpb Low (vector Low) 0 (2 ^ 32 - 1) t,
        grid_in on p.fpb High (vector High) (2 ^ 32) (2 ^ 64 - 1) t,
        from_first (2 ^ 32 - 1) t,
        below_four t,
        to_last (2 ^ 32) (2 ^ 64 - 1) t (omega arith),
      )
      (four_ways on _ _ _ _ ∙ and_assoc claims (memory_space_enabled p.bridge) _)

-- for a picture's port with these vectors, in either space
pub reach_words : (s : List ℕ) (vector : ℕ → Mechanism → List ℕ) (n : ℕ) (space : Space) (own claims : Bool) (t : ℕ) → t < space_size space
    → reaches (reach_of (port_at s n) space own claims) (vector n (one_of space)) (vector n High) t
    ≡ (own && is_own (without_video (chassis_with s vector)) (target_in space t) n || claims && (without_video (chassis_with s vector)).claims n (target_in space t))
reach_words s vector n Ids own claims t l = id_words (port_at s n) (vector n) own claims t l
reach_words s vector n Addresses own claims t l = rw and-false (address_words (port_at s n) (vector n) own claims t l)

-- nothing at or above a space's size is reached
pub none_past : (space : Space) (d : Reach) (v w : List ℕ) → EndsIn space d → (t : ℕ) → space_size space ≤ t → reaches d v w t ≡ false
unfolding reaches on_ranges on_grids hit_in
none_past space d v w ends t past =
    rw (
      above d.first t (omega arith),
      above d.second t (omega arith),
      above d.one.within t (omega arith),
      above d.other.within t (omega arith),
    )
