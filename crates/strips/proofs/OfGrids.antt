-- Entries of a vector marked as units, some of them at a time: those below a number are the entries of a smaller vector.
-- Assumes nothing.
use Prim.Native.Nat.{ℕ, suc, ◌+◌, ◌-◌, ◌*◌, ◌/◌, ◌%◌, ◌^◌, ◌≤◌, ◌<◌, min}
use mathlib.Core.Bool.{Bool, true, false, ◌&&◌, ◌||◌, beq, or-false, and-false}
use mathlib.Core.List.{List}
use mathlib.Core.Path.{◌≡◌, refl, sym, ap, ap₂, ◌∙◌}
use native.Mathlib.Decide.{dec_le, dec_lt, ℕ_discrete}
use native.Mathlib.Nat.{lt_of_lt_of_le, suc-mul, le-div_iff_mul-le, div-lt_iff_lt-mul, div-one, mod-eq_of_lt}
use native.Mathlib.Omega.{arith}
use lib.Dec.{eqb, leb, ltb}
use lib.Pow.{pow_pos, pow_mono, shl_lt, shr_le, shr_mono}
use borrow.Author.Tests.{lt-ltb, le-ltb, le-leb, lt-leb, eq-eqb, ne_eqb}
use Rattle.least.proofs.Laws.{NoneIn, LeastAt}
use Rattle.vectors.specs.declared.Settings.{Settings}
use Rattle.vectors.specs.Vectors.{entry_at, is_set, entry_is, hits}
use Rattle.vectors.proofs.Digits.{bit}
use Rattle.spans.specs.declared.ranges.Range.{Range}
use Rattle.spans.specs.Ranges.{in_range}
use Rattle.strips.specs.Strips.{digits_from, range_from, grid_from, small, entry_units}
use Rattle.strips.proofs.Laws.{bit_past, one_up, one_up_lem}

-- the same settings with another size
abbrev pub sized : Settings → ℕ → Settings
sized g size = record { size = size; start = g.start; scale = g.scale }

-- what is shifted up stays small
shifted_small : (g : Settings) (i : ℕ) → small g → i < g.size → i * 2 ^ g.scale < 2 ^ 48
shifted_small g i fits l =
    lt_of_lt_of_le (shl_lt 16 g.scale (omega (arith, fits.0))) (pow_mono {j = 48} (omega (arith, fits.2)))

pub shifted : (g : Settings) (i : ℕ) → small g → i < g.size → i * 2 ^ g.scale % 2 ^ 64 ≡ i * 2 ^ g.scale
shifted g i fits l = mod-eq_of_lt (omega (arith, shifted_small g i fits l))

pub begins_small : (g : Settings) (i : ℕ) → small g → i < g.size → g.start + i * 2 ^ g.scale % 2 ^ 64 < 2 ^ 49
begins_small g i fits l = omega (arith, fits.1, shifted g i fits l, shifted_small g i fits l)

pub one_small : (g : Settings) → small g → (1 ≤ one_up g.scale) × (one_up g.scale ≤ 2 ^ 32)
one_small g fits =
    let up = one_up_lem g.scale (omega (arith, fits.2)) in
    (omega (arith, up, pow_pos g.scale), omega (arith, up, pow_mono {i = g.scale} {j = 32} (omega (arith, fits.2))))

pub units_are : (g : Settings) (i : ℕ) → small g → i < g.size
    → ◌≡◌ {A = Range} (record { lo = g.start + i * 2 ^ g.scale % 2 ^ 64; hi = g.start + i * 2 ^ g.scale % 2 ^ 64 + (one_up g.scale - 1) }) (entry_units g i)
units_are g i fits l =
    ap₂ (λ (x y : ℕ). record { lo = g.start + x; hi = g.start + x + (y - 1) }) (shifted g i fits l) (one_up_lem g.scale (omega (arith, fits.2)))

pub end_small : (g : Settings) (t : ℕ) → t < 2 ^ 63 → t / 2 ^ g.scale + 1 < 2 ^ 64
end_small g t l = omega (arith, shr_le t g.scale)

-- a target later has an entry no earlier
entry_mono : (g : Settings) (s t : ℕ) → s ≤ t → entry_at g s ≤ entry_at g t
entry_mono g s t l = shr_mono g.scale (omega arith)

-- nothing before the strip's first entry counts in it
pub grid_begin : (base : ℕ) (v : List ℕ) (g : Settings) (u : ℕ) → grid_from base v (sized g (min g.size (entry_at g base))) u ≡ false
unfolding grid_from hits
grid_begin base v g u =
    let later = entry_mono g base (base + u) (omega arith) in
    rw (le-ltb (entry_at g (base + u)) (min g.size (entry_at g base)) (omega arith), and-false (leb g.start (base + u)))

-- nothing is left from entry i on
pub grid_end : (base : ℕ) (v : List ℕ) (g : Settings) (i u : ℕ) → i ≤ g.size → u < 8192
    → NoneIn (entry_is v true) i (min g.size (entry_at g (base + 8191) + 1)) → grid_from base v (sized g i) u ≡ grid_from base v g u
unfolding grid_from hits entry_is
grid_end base v g i u l h none = go (dec_lt (entry_at g (base + u)) i) (dec_lt (entry_at g (base + u)) g.size)
  where
    clear : (b : Bool) → beq b true ≡ false → b ≡ false
    clear true e = e
    clear false e = refl

    go : Dec (entry_at g (base + u) < i) → Dec (entry_at g (base + u) < g.size)
        → (leb g.start (base + u) && ltb (entry_at g (base + u)) i && is_set v (entry_at g (base + u)))
        ≡ (leb g.start (base + u) && ltb (entry_at g (base + u)) g.size && is_set v (entry_at g (base + u)))
    go (yes x) y = rw (lt-ltb (entry_at g (base + u)) i x, lt-ltb (entry_at g (base + u)) g.size (omega arith))
    go (no x) (yes y) =
        let later = entry_mono g (base + u) (base + 8191) (omega arith) in
        rw (
          le-ltb (entry_at g (base + u)) i (omega arith),
          clear (is_set v (entry_at g (base + u))) (none.none (entry_at g (base + u)) (omega arith) (omega arith)),
          and-false (leb g.start (base + u)),
          and-false (leb g.start (base + u) && ltb (entry_at g (base + u)) g.size),
        )
    go (no x) (no y) =
        rw (le-ltb (entry_at g (base + u)) i (omega arith), le-ltb (entry_at g (base + u)) g.size (omega arith))

-- an entry's units are those from the start on that have it
entry_units_lem : (g : Settings) (e t : ℕ) → in_range (entry_units g e) t ≡ (leb g.start t && eqb (entry_at g t) e)
unfolding in_range
entry_units_lem g e t = go (dec_le (g.start + e * 2 ^ g.scale) t) (dec_le t (g.start + e * 2 ^ g.scale + (2 ^ g.scale - 1)))
  where
    some : 0 < 2 ^ g.scale
    some = pow_pos g.scale

    next : suc e * 2 ^ g.scale ≡ e * 2 ^ g.scale + 2 ^ g.scale
    next = suc-mul e (2 ^ g.scale)

    go : Dec (g.start + e * 2 ^ g.scale ≤ t) → Dec (t ≤ g.start + e * 2 ^ g.scale + (2 ^ g.scale - 1))
        → (leb (g.start + e * 2 ^ g.scale) t && leb t (g.start + e * 2 ^ g.scale + (2 ^ g.scale - 1))) ≡ (leb g.start t && eqb (entry_at g t) e)
    go (yes a) (yes b) =
        let least : e ≤ entry_at g t = (le-div_iff_mul-le some).1 (omega arith) in
        let most : entry_at g t < suc e = (div-lt_iff_lt-mul some).1 (omega (arith, next, some)) in
        rw (le-leb (g.start + e * 2 ^ g.scale) t a, le-leb t (g.start + e * 2 ^ g.scale + (2 ^ g.scale - 1)) b, le-leb g.start t (omega arith), eq-eqb (entry_at g t) e (omega arith))
    go (yes a) (no b) =
        let past : suc e ≤ entry_at g t = (le-div_iff_mul-le some).1 (omega (arith, next, some)) in
        rw (
          le-leb (g.start + e * 2 ^ g.scale) t a,
          lt-leb t (g.start + e * 2 ^ g.scale + (2 ^ g.scale - 1)) (omega arith),
          ne_eqb (entry_at g t) e (λ i. omega arith),
          and-false (leb g.start t),
        )
    go (no a) b = rw (lt-leb (g.start + e * 2 ^ g.scale) t (omega arith)) (sym (before (dec_le g.start t)))
      where
        before : Dec (g.start ≤ t) → (leb g.start t && eqb (entry_at g t) e) ≡ false
        before (yes l) =
            let less : entry_at g t < e = (div-lt_iff_lt-mul some).1 (omega arith) in
            rw (ne_eqb (entry_at g t) e (λ i. omega arith), and-false (leb g.start t))
        before (no l) = rw (lt-leb g.start t (omega arith))

-- from entry i on the next that is set is e
pub grid_more : (base : ℕ) (v : List ℕ) (g : Settings) (i e u : ℕ) {end : ℕ} → LeastAt (entry_is v true) i end e
    → (grid_from base v (sized g i) u || range_from base (entry_units g e) u) ≡ grid_from base v (sized g (e + 1)) u
unfolding grid_from range_from hits entry_is
grid_more base v g i e u a =
    rw (entry_units_lem g e (base + u)) (go (ℕ_discrete (entry_at g (base + u)) e) (dec_lt (entry_at g (base + u)) e) (dec_lt (entry_at g (base + u)) i))
  where
    t : ℕ
    t = base + u

    set : (b : Bool) → beq b true ≡ true → b ≡ true
    set true x = refl
    set false x = x

    clear : (b : Bool) → beq b true ≡ false → b ≡ false
    clear true x = x
    clear false x = refl

    here : (s : Bool) → (s && false && true || s && true) ≡ (s && true && true)
    here true = refl
    here false = refl

    go : Dec (entry_at g t ≡ e) → Dec (entry_at g t < e) → Dec (entry_at g t < i)
        → (leb g.start t && ltb (entry_at g t) i && is_set v (entry_at g t) || leb g.start t && eqb (entry_at g t) e)
        ≡ (leb g.start t && ltb (entry_at g t) (e + 1) && is_set v (entry_at g t))
    go (yes x) y z =
        rw (
          eq-eqb (entry_at g t) e x,
          le-ltb (entry_at g t) i (omega (arith, a.from)),
          lt-ltb (entry_at g t) (e + 1) (omega arith),
          x,
          set (is_set v e) a.holds,
        )
        (here (leb g.start t))
    go (no x) (yes y) (yes z) =
        rw (ne_eqb (entry_at g t) e x, lt-ltb (entry_at g t) i z, lt-ltb (entry_at g t) (e + 1) (omega arith), and-false (leb g.start t), or-false (leb g.start t && true && is_set v (entry_at g t)))
    go (no x) (yes y) (no z) =
        rw (
          ne_eqb (entry_at g t) e x,
          le-ltb (entry_at g t) i (omega arith),
          lt-ltb (entry_at g t) (e + 1) (omega arith),
          clear (is_set v (entry_at g t)) (a.first.none (entry_at g t) (omega arith) y),
          and-false (leb g.start t),
          and-false (leb g.start t && true),
        )
    go (no x) (no y) z =
        rw (
          ne_eqb (entry_at g t) e x,
          le-ltb (entry_at g t) i (omega (arith, a.from)),
          le-ltb (entry_at g t) (e + 1) (omega arith),
          and-false (leb g.start t),
        )

-- 64 entries more, each of them a unit
pub grid_word : (base : ℕ) (v : List ℕ) (g : Settings) (j x u : ℕ) → g.scale ≡ 0 → x < 2 ^ 64 → ((k : ℕ) → k < 64 → bit x k ≡ is_set v (64 * j + k))
    → (grid_from base v (sized g (64 * j)) u || digits_from base (g.start + 64 * j) x u) ≡ grid_from base v (sized g (64 * (j + 1))) u
unfolding grid_from digits_from hits
grid_word base v g j x u whole most digits =
    rw (unit) (go (dec_le (g.start + 64 * j) t) (dec_lt (t - g.start) (64 * (j + 1))))
  where
    t : ℕ
    t = base + u

    unit : entry_at g t ≡ t - g.start
    unit = ap (λ (s : ℕ). (t - g.start) / 2 ^ s) whole ∙ div-one (t - g.start)

    only : (s b : Bool) → (s && false && b || true && b) ≡ b
    only true b = refl
    only false b = refl

    go : Dec (g.start + 64 * j ≤ t) → Dec (t - g.start < 64 * (j + 1))
        → (leb g.start t && ltb (t - g.start) (64 * j) && is_set v (t - g.start) || leb (g.start + 64 * j) t && bit x (t - (g.start + 64 * j)))
        ≡ (leb g.start t && ltb (t - g.start) (64 * (j + 1)) && is_set v (t - g.start))
    go (yes a) (yes b) =
        let place : 64 * j + (t - (g.start + 64 * j)) ≡ t - g.start = omega arith in
        rw (
          digits (t - (g.start + 64 * j)) (omega arith),
          place,
          le-leb g.start t (omega arith),
          le-leb (g.start + 64 * j) t a,
          le-ltb (t - g.start) (64 * j) (omega arith),
          lt-ltb (t - g.start) (64 * (j + 1)) b,
        )
    go (yes a) (no b) =
        rw (
          bit_past 64 (t - (g.start + 64 * j)) x most (omega arith),
          le-leb g.start t (omega arith),
          le-leb (g.start + 64 * j) t a,
          le-ltb (t - g.start) (64 * j) (omega arith),
          le-ltb (t - g.start) (64 * (j + 1)) (omega arith),
        )
    go (no a) b = rw (lt-leb (g.start + 64 * j) t (omega arith)) (before (dec_le g.start t))
      where
        before : Dec (g.start ≤ t)
            → (leb g.start t && ltb (t - g.start) (64 * j) && is_set v (t - g.start) || false)
            ≡ (leb g.start t && ltb (t - g.start) (64 * (j + 1)) && is_set v (t - g.start))
        before (yes l) =
            rw (lt-ltb (t - g.start) (64 * j) (omega arith), lt-ltb (t - g.start) (64 * (j + 1)) (omega arith), or-false (leb g.start t && true && is_set v (t - g.start)))
        before (no l) = rw (lt-leb g.start t (omega arith))

pub no_words : (base : ℕ) (v : List ℕ) (g : Settings) (u : ℕ) → grid_from base v (sized g (64 * 0)) u ≡ false
unfolding grid_from hits
no_words base v g u = rw (le-ltb (entry_at g (base + u)) (64 * 0) (omega arith), and-false (leb g.start (base + u)))

pub all_words : (base : ℕ) (v : List ℕ) (g : Settings) (j u : ℕ) → g.size % 64 ≡ 0 → j ≤ g.size / 64 → g.size / 64 ≤ j
    → grid_from base v (sized g (64 * j)) u ≡ grid_from base v g u
all_words base v g j u whole l h =
    let all : 64 * j ≡ g.size = omega arith in
    ap (λ (n : ℕ). grid_from base v (sized g n) u) all
