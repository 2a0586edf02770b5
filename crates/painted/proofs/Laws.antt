-- What is claimed is whole units, so a target is claimed exactly if its unit is. Assumes nothing.
use Prim.Native.Nat.{ℕ, suc, ◌+◌, ◌-◌, ◌*◌, ◌/◌, ◌%◌, ◌^◌, ◌≤◌, ◌<◌}
use mathlib.Core.Bool.{Bool, true, false, not, cond, ◌&&◌, ◌||◌, and_assoc, and-false, or-false}
use mathlib.Core.List.{List}
use mathlib.Core.Path.{◌≡◌, refl, sym, ap, ap₂, ◌∙◌, subst}
use native.Mathlib.Decide.{dec_le}
use native.Mathlib.Nat.{lt_of_lt_of_le, le-div_iff_mul-le, mul-div_cancel, div-lt_iff_lt-mul, div-eq_of_lt, suc-mul, zero-add, add-mul-div_right}
use native.Mathlib.Omega.{arith}
use lib.Dec.{eqb}
use lib.Pow.{pow_pos, pow_mono, shr_lt, shr-shr}
use borrow.Author.Tests.{lt-ltb, lt-leb}
use Rattle.ids.specs.Ids.{bus_of}
use Rattle.ids.specs.declared.Target.TheVariants.{Id, Addr}
use Rattle.vectors.specs.declared.Settings.{Settings}
use Rattle.vectors.specs.Vectors.{hits}
use Rattle.registers.specs.declared.Bridge.{Bridge}
use Rattle.registers.specs.declared.Fpb.{Fpb}
use Rattle.registers.specs.declared.Port.{Port}
use Rattle.registers.specs.declared.Mechanism.{Mechanism}
use Rattle.registers.specs.declared.Mechanism.TheVariants.{Rid as OfRid, Low as OfLow, High as OfHigh}
use Rattle.registers.specs.Record.{port_at}
use Rattle.registers.specs.Vectors.{field, enabled_in, size_code, settings_of}
use Rattle.claims.specs.Decoders.{between, base_of, upper_of, bus_claims, vector_claims, memory_claims, prefetchable_claims, low_claims, high_claims, memory_space_enabled, id_decoders, address_decoders}
use Rattle.claims.specs.Beside.{beside_video, chassis_beside}
use Rattle.claims.proofs.Joined.{beside_id, beside_address}
use Rattle.claims.proofs.Laws.{same_leb}
use Rattle.spans.specs.Ranges.{in_range}
use Rattle.strips.specs.Strips.{small, Marks, range_from, grid_from}
use Rattle.strips.proofs.Laws.{marks_also, marks_as}
use Rattle.holdings.specs.Holdings.{range_if}
use Rattle.holdings.proofs.Bools.{four_ways}
use Rattle.holdings.proofs.Words.{range_in, bus_between}
use Rattle.patches.specs.Halves.{vector_over}
use Rattle.std.specs.Prelude.{Some, None}
use Rattle.painted.specs.declared.units.Claimed.{Claimed}
use Rattle.painted.specs.declared.units.Part.{Part}
use Rattle.painted.specs.declared.units.Part.TheVariants.{Ids, Low}
use Rattle.painted.specs.Painted.{in_units, id_units, memory_units, prefetchable_units, address_units, units_of, base_unit, mechanism_of, hits_if, claimed_by, claimed_in}

-- a range of whole units
pub units_between : (k lo hi t : ℕ) → between (lo * 2 ^ k) (hi * 2 ^ k + (2 ^ k - 1)) t ≡ between lo hi (t / 2 ^ k)
units_between k lo hi t =
    rw (
      same_leb (lo * 2 ^ k) t lo (t / 2 ^ k) (λ l. (le-div_iff_mul-le (pow_pos k)).1 l) (λ l. (le-div_iff_mul-le (pow_pos k)).0 l),
      same_leb t (hi * 2 ^ k + (2 ^ k - 1)) (t / 2 ^ k) hi (λ l. below l) (λ l. within l),
    )
  where
    next : suc hi * 2 ^ k ≡ hi * 2 ^ k + 2 ^ k
    next = suc-mul hi (2 ^ k)

    below : t ≤ hi * 2 ^ k + (2 ^ k - 1) → t / 2 ^ k ≤ hi
    below l =
        let less : t / 2 ^ k < suc hi = (div-lt_iff_lt-mul (pow_pos k)).1 (omega (arith, next, pow_pos k)) in
        omega arith

    within : t / 2 ^ k ≤ hi → t ≤ hi * 2 ^ k + (2 ^ k - 1)
    within l =
        let less : t < suc hi * 2 ^ k = (div-lt_iff_lt-mul (pow_pos k)).0 (omega arith) in
        omega (arith, next)

sub_mul_div : (t a m : ℕ) → 0 < m → (t - a * m) / m ≡ t / m - a
sub_mul_div t a m some = go (dec_le (a * m) t)
  where
    go : Dec (a * m ≤ t) → (t - a * m) / m ≡ t / m - a
    go (yes l) =
        let parts : t ≡ t - a * m + a * m = omega arith in
        let whole : t / m ≡ (t - a * m) / m + a = ap (λ (x : ℕ). x / m) parts ∙ add-mul-div_right (t - a * m) a some in
        omega (arith, whole)
    go (no l) =
        let none : t - a * m ≡ 0 = omega arith in
        let less : t / m < a = (div-lt_iff_lt-mul some).1 (omega arith) in
        let nought : 0 / m ≡ 0 = div-eq_of_lt some in
        ap (λ (x : ℕ). x / m) none ∙ nought ∙ omega (arith, less)

-- a vector whose entries are whole units and whose start is one
pub hits_units : (v : List ℕ) (g : Settings) (k a t : ℕ) → g.start ≡ a * 2 ^ k → k ≤ g.scale → hits v g t ≡ hits v (in_units g k) (t / 2 ^ k)
unfolding hits
hits_units v g k a t from coarse =
    let start : g.start / 2 ^ k ≡ a = ap (λ (x : ℕ). x / 2 ^ k) from ∙ mul-div_cancel a (pow_pos k) in
    let sum : k + (g.scale - k) ≡ g.scale = omega arith in
    let entry : (t - g.start) / 2 ^ g.scale ≡ (t / 2 ^ k - a) / 2 ^ (g.scale - k) =
    ap (λ (x : ℕ). (t - g.start) / 2 ^ x) (sym sum) ∙ sym (shr-shr (t - g.start) k (g.scale - k))
    ∙ ap (λ (x : ℕ). x / 2 ^ (g.scale - k)) (ap (λ (x : ℕ). (t - x) / 2 ^ k) from ∙ sub_mul_div t a (2 ^ k) (pow_pos k)) in
    rw (entry, start, same_leb g.start t a (t / 2 ^ k) (λ l. (le-div_iff_mul-le (pow_pos k)).1 (subst (λ (x : ℕ). x ≤ t) from l)) (λ l. subst (λ (x : ℕ). x ≤ t) (sym from) ((le-div_iff_mul-le (pow_pos k)).0 l)))

-- the same of any numbers that are whole units
whole_between : (k x y lo hi t : ℕ) → lo ≡ x * 2 ^ k → hi ≡ y * 2 ^ k → between lo (hi + (2 ^ k - 1)) t ≡ between (lo / 2 ^ k) (hi / 2 ^ k) (t / 2 ^ k)
whole_between k x y lo hi t e f =
    rw (e, f) (units_between k x y t ∙ ap₂ (λ (a b : ℕ). between a b (t / 2 ^ k)) (sym (mul-div_cancel x (pow_pos k))) (sym (mul-div_cancel y (pow_pos k))))

none_in : (u : ℕ) → in_range (record { lo = 1; hi = 0 }) u ≡ false
unfolding range_if
none_in u = range_in false 1 0 u

second_off : (a x : Bool) {b : Bool} → b ≡ false → (a || x) ≡ (a || b || x)
second_off true x e = refl
second_off false x e = rw e

-- entries that count where `on`
entries_if : (on : Bool) (v : List ℕ) (g : Settings) (u : ℕ) → hits_if v (cond on (Some g) None) u ≡ (on && hits v g u)
entries_if true v g u = refl
entries_if false v g u = refl

-- IDs
module _ (p : Port) (vector : Mechanism → List ℕ) where
  bus_units : (t : ℕ) → t < 2 ^ 16 → bus_claims p.bridge t ≡ in_range (id_units p).first (t / 2 ^ 3)
  unfolding bus_claims id_units
  bus_units t small =
      let b = p.bridge in
      let lo : b.secondary * 2 ^ 8 ≡ b.secondary * 32 * 2 ^ 3 = omega arith in
      let hi : b.subordinate * 2 ^ 8 + (2 ^ 8 - 1) ≡ (b.subordinate * 32 + 31) * 2 ^ 3 + (2 ^ 3 - 1) = omega arith in
      let units : between b.secondary b.subordinate (bus_of t) ≡ between (b.secondary * 32) (b.subordinate * 32 + 31) (t / 2 ^ 3) =
      sym (bus_between b.secondary b.subordinate t small) ∙ ap₂ (λ (x y : ℕ). between x y t) lo hi ∙ units_between 3 (b.secondary * 32) (b.subordinate * 32 + 31) t in
      ap (λ (x : Bool). not (eqb b.secondary 0 && eqb b.subordinate 0) && x) units
      ∙ sym (range_in (not (eqb b.secondary 0 && eqb b.subordinate 0)) (b.secondary * 32) (b.subordinate * 32 + 31) (t / 2 ^ 3))

  rid_units : (t : ℕ) → vector_claims p.fpb OfRid (vector OfRid) t ≡ (enabled_in p.fpb OfRid && hits (vector OfRid) (in_units (settings_of p.fpb OfRid) 3) (t / 2 ^ 3))
  unfolding vector_claims settings_of
  rid_units t =
      ap (λ (b : Bool). enabled_in p.fpb OfRid && b)
      (hits_units (vector OfRid) (settings_of p.fpb OfRid) 3 (field p.fpb.rid_control_1 19 13) t refl (omega arith))

  pub id_units_lem : (t : ℕ) → t < 2 ^ 16 → beside_video (id_decoders p vector t) ≡ claimed_by (id_units p) (vector OfRid) (t / 2 ^ 3)
  unfolding claimed_by id_units
  id_units_lem t small =
      rw (entries_if (enabled_in p.fpb OfRid) (vector OfRid) (in_units (settings_of p.fpb OfRid) 3) (t / 2 ^ 3))
      (beside_id p vector t
      ∙ ap₂ (λ (x y : Bool). x || y) (bus_units t small) (rid_units t)
      ∙ second_off (in_range (id_units p).first (t / 2 ^ 3)) _ (none_in (t / 2 ^ 3)))

-- addresses below 4 GiB
upper_units : (b : Bridge) (x : ℕ) → upper_of b x ≡ cond (eqb (b.prefetchable_base % 16) 1) (x * 2 ^ 12) 0 * 2 ^ 20
upper_units b x = go (eqb (b.prefetchable_base % 16) 1)
  where
    go : (c : Bool) → cond c (x * 2 ^ 32) 0 ≡ cond c (x * 2 ^ 12) 0 * 2 ^ 20
    go true = omega arith
    go false = refl

module _ (p : Port) (vector : Mechanism → List ℕ) where
  abbrev b : Bridge
  b = p.bridge

  abbrev on : Bool
  on = memory_space_enabled p.bridge

  memory_units_lem : (t : ℕ) → (on && memory_claims b t) ≡ in_range (memory_units on b) (t / 2 ^ 20)
  unfolding memory_claims memory_units
  memory_units_lem t =
      ap (λ (x : Bool). on && x)
      (whole_between 20 (field b.memory_base 4 12) (field b.memory_limit 4 12) (base_of b.memory_base) (base_of b.memory_limit) t refl refl)
      ∙ sym (range_in on _ _ (t / 2 ^ 20))

  prefetchable_units_lem : (t : ℕ) → (on && prefetchable_claims b t) ≡ in_range (prefetchable_units on b) (t / 2 ^ 20)
  unfolding prefetchable_claims prefetchable_units
  prefetchable_units_lem t =
      let upper = upper_of b b.prefetchable_limit_upper in
      let base = base_of b.prefetchable_limit in
      let last : upper + (base + (2 ^ 20 - 1)) ≡ upper + base + (2 ^ 20 - 1) = omega arith in
      ap (λ (x : Bool). on && x)
      (ap (λ (x : ℕ). between (upper_of b b.prefetchable_base_upper + base_of b.prefetchable_base) x t) last
      ∙ whole_between 20 _ _ (upper_of b b.prefetchable_base_upper + base_of b.prefetchable_base) (upper + base) t
      (whole b.prefetchable_base_upper b.prefetchable_base) (whole b.prefetchable_limit_upper b.prefetchable_limit))
      ∙ sym (range_in on _ _ (t / 2 ^ 20))
    where
      whole : (x r : ℕ) → upper_of b x + base_of r ≡ (cond (eqb (b.prefetchable_base % 16) 1) (x * 2 ^ 12) 0 + field r 4 12) * 2 ^ 20
      whole x r = omega (arith, upper_units b x)

  low_units : (t : ℕ) → t < 2 ^ 32
      → (on && low_claims p.fpb (vector OfLow) t) ≡ ((on && enabled_in p.fpb OfLow) && hits (vector OfLow) (in_units (settings_of p.fpb OfLow) 20) (t / 2 ^ 20))
  unfolding low_claims vector_claims settings_of
  low_units t small =
      rw (lt-ltb t (2 ^ 32) small)
      (ap (λ (x : Bool). on && (enabled_in p.fpb OfLow && x))
      (hits_units (vector OfLow) (settings_of p.fpb OfLow) 20 (field p.fpb.mem_low_control 20 12) t refl (omega arith))
      ∙ sym (and_assoc on (enabled_in p.fpb OfLow) (hits (vector OfLow) (in_units (settings_of p.fpb OfLow) 20) (t / 2 ^ 20))))

  no_high : (t : ℕ) → t < 2 ^ 32 → (on && high_claims p.fpb (vector OfHigh) t) ≡ false
  unfolding high_claims
  no_high t small = rw (lt-leb (2 ^ 32) t small, and-false on)

  pub address_units_lem : (t : ℕ) → t < 2 ^ 32 → beside_video (address_decoders p vector t) ≡ claimed_by (address_units p) (vector OfLow) (t / 2 ^ 20)
  unfolding claimed_by address_units
  address_units_lem t small =
      rw (entries_if (on && enabled_in p.fpb OfLow) (vector OfLow) (in_units (settings_of p.fpb OfLow) 20) (t / 2 ^ 20))
      (beside_address p vector t
      ∙ sym (four_ways on (memory_claims b t) (prefetchable_claims b t) (low_claims p.fpb (vector OfLow) t) (high_claims p.fpb (vector OfHigh) t))
      ∙ rw (memory_units_lem t, prefetchable_units_lem t, low_units t small, no_high t small, or-false))

-- a target is claimed exactly if its unit is: an ID, or an address below 4 GiB
pub id_claimed : (s patch : List ℕ) (p t : ℕ) → t < 2 ^ 16 → (chassis_beside s patch).claims p (Id (record { 0 = t })) ≡ claimed_in s patch p Ids (t / 2 ^ 3)
unfolding claimed_in
id_claimed s patch p t l = rw (zero-add (t / 2 ^ 3)) (id_units_lem (port_at s p) (vector_over s patch p) t l)

pub address_claimed : (s patch : List ℕ) (p t : ℕ) → t < 2 ^ 32 → (chassis_beside s patch).claims p (Addr t) ≡ claimed_in s patch p Low (t / 2 ^ 20)
unfolding claimed_in
address_claimed s patch p t l = rw (zero-add (t / 2 ^ 20)) (address_units_lem (port_at s p) (vector_over s patch p) t l)

-- the settings are small
size_small : (f : Fpb) (m : Mechanism) → 256 * 2 ^ size_code f m < 2 ^ 16
size_small f m =
    let most : 2 ^ size_code f m ≤ 2 ^ 7 = pow_mono (code m) in
    omega (arith, most)
  where
    code : (m : Mechanism) → size_code f m ≤ 7
    code OfRid = omega arith
    code OfLow = omega arith
    code OfHigh = omega arith

pub rid_small : (f : Fpb) → small (in_units (settings_of f OfRid) 3)
unfolding settings_of
rid_small f = (size_small f OfRid, omega arith, omega arith)

pub low_small : (f : Fpb) → small (in_units (settings_of f OfLow) 20)
unfolding settings_of
low_small f = (size_small f OfLow, omega arith, omega arith)

pub rid_coarse : (f : Fpb) → 3 ≤ (settings_of f OfRid).scale
unfolding settings_of
rid_coarse f = omega arith

pub low_coarse : (f : Fpb) → 20 ≤ (settings_of f OfLow).scale
unfolding settings_of
low_coarse f = omega arith

pub high_small : (f : Fpb) (k : ℕ) → 28 ≤ k → k < 64 → (settings_of f OfHigh).start < 2 ^ 64 → small (in_units (settings_of f OfHigh) k)
unfolding settings_of
high_small f k l h fits = (size_small f OfHigh, starts, omega arith)
  where
    starts : (settings_of f OfHigh).start / 2 ^ k < 2 ^ 48
    starts =
        let all : 64 - k + k ≡ 64 = omega arith in
        lt_of_lt_of_le (shr_lt (64 - k) k (subst (λ (n : ℕ). (settings_of f OfHigh).start < 2 ^ n) (sym all) fits)) (pow_mono {j = 48} (omega arith))

-- Three things marked are what is claimed.
painted_on : (base : ℕ) (d : Claimed) (v : List ℕ) {g : Settings} {a b c e : List ℕ} → Marks a b (range_from base d.first) → Marks b c (range_from base d.second)
    → Some g ≡ d.entries → Marks c e (grid_from base v g) → Marks a e (λ u. claimed_by d v (base + u))
unfolding claimed_by range_from grid_from
painted_on base d v x y on z = marks_also (marks_also x y (λ u l. refl)) z (λ u l. rw (← on))

painted_off : (base : ℕ) (d : Claimed) (v : List ℕ) {a b c : List ℕ} → Marks a b (range_from base d.first) → Marks b c (range_from base d.second)
    → None ≡ d.entries → Marks a c (λ u. claimed_by d v (base + u))
unfolding claimed_by range_from
painted_off base d v x y off = marks_also x y (λ u l. rw (← off) (sym (or-false (in_range d.first (base + u) || in_range d.second (base + u)))))

module _ (s patch : List ℕ) (p : ℕ) (part : Part) {base : ℕ} {d : Claimed} (begins : base ≡ base_unit part) (units : d ≡ units_of (port_at s p) part) where
  pub port_on : {g : Settings} {v a b c e : List ℕ} → v ≡ vector_over s patch p (mechanism_of part) → Marks a b (range_from base d.first) → Marks b c (range_from base d.second)
      → Some g ≡ d.entries → Marks c e (grid_from base v g) → Marks a e (claimed_in s patch p part)
  unfolding claimed_in
  port_on {v} vector x y on z = marks_as (painted_on base d v x y on z) (λ u l i. claimed_by (units i) (vector i) (begins i + u))

  pub port_off : {a b c : List ℕ} → Marks a b (range_from base d.first) → Marks b c (range_from base d.second) → None ≡ d.entries
      → Marks a c (claimed_in s patch p part)
  unfolding claimed_in
  port_off x y off = marks_as (painted_off base d (vector_over s patch p (mechanism_of part)) x y off) (λ u l i. claimed_by (units i) (vector_over s patch p (mechanism_of part)) (begins i + u))
