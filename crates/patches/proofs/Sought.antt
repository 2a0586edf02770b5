-- A port's row is found by halves in a patch that is accepted.
-- Assumes nothing.
use Prim.Native.Nat.{ℕ, zero-le, ◌+◌, ◌-◌, ◌*◌, ◌<◌, ◌≤◌}
use mathlib.Core.Bool.{Bool, true, false, cond, ◌&&◌}
use mathlib.Core.List.{List, [], ◌∷◌}
use mathlib.Core.Path.{◌≡◌, refl}
use native.Mathlib.Decide.{dec_lt}
use native.Mathlib.Omega.{arith}
use borrow.Author.Tests.{eqb-false, ne_eqb, ltb-true, ltb-false}
use lib.Dec.{eqb, ltb}
use lib.ListN.{length}
use Rattle.least.proofs.Laws.{impossible, at_is, none_is}
use Rattle.lent.specs.Lent.{u16_at, u32_at}
use Rattle.registers.specs.declared.Mechanism.{Mechanism}
use Rattle.picture.specs.declared.Header.{Header}
use Rattle.picture.specs.Layout.{vector_of}
use Rattle.patches.specs.declared.rows.Rows.{Rows}
use Rattle.patches.specs.Patch.{ports_in, port_in}
use Rattle.patches.specs.Parts.{is_row_of, row_of, part_at}
use Rattle.patches.specs.Halves.{middle, halved, halved_to, row_if, row_sought, place_over, vector_over}
use Rattle.patches.proofs.Accepted.{Accepted, rises, rows_few}
use Rattle.std.specs.Prelude.{Some, None}

module _ (s patch : List ℕ) (h : Header) (a : Accepted s patch h) (p : ℕ) where
  -- the rows before `lo` have lower ports, those from `hi` on none that is lower, and fewer than `wide` are between
  record Between (wide : ℕ) (rows : Rows) : Type 0 where
    ordered : rows.lo ≤ rows.hi
    inside : rows.hi ≤ ports_in patch
    lower : (i : ℕ) → i < rows.lo → port_in patch i < p
    higher : (i : ℕ) → rows.hi ≤ i → i < ports_in patch → p ≤ port_in patch i
    narrow : rows.hi - rows.lo < wide

  up_to : (m i : ℕ) → m < ports_in patch → port_in patch m < p → i < m + 1 → port_in patch i < p
  up_to m i l low k = go (dec_lt i m)
    where
      go : Dec (i < m) → port_in patch i < p
      go (yes below) = omega (arith, rises s patch h a i m below l)
      go (no same) = let e : i ≡ m = omega arith in rw e low

  from_on : (m i : ℕ) → p ≤ port_in patch m → m ≤ i → i < ports_in patch → p ≤ port_in patch i
  from_on m i high k l = go (dec_lt m i)
    where
      go : Dec (m < i) → p ≤ port_in patch i
      go (yes above) = omega (arith, rises s patch h a m i above l)
      go (no same) = let e : i ≡ m = omega arith in rw e high

  halves : (wide : ℕ) (rows : Rows) → Between (2 * wide) rows → 0 < wide → Between wide (halved patch p rows)
  unfolding halved
  halves wide rows b some = go (ltb rows.lo rows.hi) (ltb (port_in patch (middle rows)) p) refl refl
    where
      go : (more low : Bool) → ltb rows.lo rows.hi ≡ more → ltb (port_in patch (middle rows)) p ≡ low
          → Between wide
          (cond more
          (cond low (record { lo = middle rows + 1; hi = rows.hi }) (record { lo = rows.lo; hi = middle rows }))
          rows)
      go true true l e =
          let more = ltb-true rows.lo rows.hi l in
          record {
            ordered = omega arith;
            inside = b.inside;
            lower = λ i k. up_to (middle rows) i (omega (arith, b.inside)) (ltb-true _ _ e) k;
            higher = b.higher;
            narrow = omega (arith, b.narrow);
          }
      go true false l e =
          let more = ltb-true rows.lo rows.hi l in
          record {
            ordered = omega arith;
            inside = omega (arith, b.inside);
            lower = b.lower;
            higher = λ i k m. from_on (middle rows) i (ltb-false _ _ e) k m;
            narrow = omega (arith, b.narrow);
          }
      go false low l e =
          let narrow : rows.hi - rows.lo < wide = omega (arith, ltb-false rows.lo rows.hi l) in
          record { ordered = b.ordered; inside = b.inside; lower = b.lower; higher = b.higher; narrow = narrow }

  abbrev after : ℕ → Rows
  after k = halved_to patch p k

  -- seven halvings of at most 64 rows leave none between
  all_halved : Between 1 (after 7)
  unfolding halved_to
  all_halved =
      halves 1 _ (halves 2 _ (halves 4 _ (halves 8 _ (halves 16 _ (halves 32 _ (halves 64 _ start (omega arith)) (omega arith)) (omega arith)) (omega arith)) (omega arith)) (omega arith)) (omega arith)
    where
      start : Between 128 (record { lo = 0; hi = ports_in patch })
      start =
          record {
            ordered = omega arith;
            inside = omega arith;
            lower = λ i l. absurd (omega arith);
            higher = λ i l k. absurd (omega arith);
            narrow = omega (arith, rows_few s patch h a);
          }

  -- the row at which they end is the port's, if it has one
  ends_at : (i : ℕ) → ((k : ℕ) → k < i → port_in patch k < p) → ((k : ℕ) → i ≤ k → k < ports_in patch → p ≤ port_in patch k)
      → row_if patch p i ≡ row_of patch p
  unfolding is_row_of
  ends_at i lower higher = go (ltb i (ports_in patch)) (eqb (port_in patch i) p) refl refl
    where
      before : (k : ℕ) → k < i → eqb (port_in patch k) p ≡ false
      before k l = ne_eqb (port_in patch k) p (λ e. omega (arith, lower k l))

      go : (more same : Bool) → ltb i (ports_in patch) ≡ more → eqb (port_in patch i) p ≡ same
          → cond (more && same) (Some i) None ≡ row_of patch p
      go true true l e = at_is (record { from = zero-le; below = ltb-true _ _ l; holds = e; first = record { none = λ k z m. before k m } })
      go true false l e = none_is (record { none = λ k z m. other k m (dec_lt k i) (dec_lt i k) })
        where
          other : (k : ℕ) → k < ports_in patch → Dec (k < i) → Dec (i < k) → eqb (port_in patch k) p ≡ false
          other k m (yes below) d = before k below
          other k m (no above) (yes over) =
              ne_eqb (port_in patch k) p (λ z. eqb-false (port_in patch i) p e (omega (arith, rises s patch h a i k over m, higher i (omega arith) (omega arith))))
          other k m (no above) (no under) = let z : k ≡ i = omega arith in rw z e
      go false same l e = none_is (record { none = λ k z m. before k (omega (arith, ltb-false i (ports_in patch) l)) })

  -- seeking by halves finds the row
  pub sought : row_sought patch p ≡ row_of patch p
  unfolding row_sought
  sought =
      ends_at (after 7).lo all_halved.lower (λ k l m. all_halved.higher k (omega (arith, all_halved.ordered, all_halved.narrow)) m)

-- without a patch there is no row
no_row : (p : ℕ) → None ≡ row_sought [] p
unfolding row_sought halved_to halved u32_at u16_at
no_row p = refl

-- and each vector is the picture's own
pub own_vector : (s patch : List ℕ) (p : ℕ) (m : Mechanism) → length patch ≡ 0 → vector_of s p m ≡ vector_over s patch p m
unfolding vector_over place_over part_at vector_of
own_vector s [] p m e = rw (← no_row p)
own_vector s (b ∷ rest) p m e = impossible (cc)
