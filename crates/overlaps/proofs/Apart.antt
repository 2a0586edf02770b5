-- The least number with a property that is looked for apart on a stretch of the first MiB: m is the property as it is but for the stretch,
-- f as it is. Assumes nothing.
use Prim.Native.Nat.{ℕ, zero-le, ◌^◌, ◌≤◌, ◌<◌}
use mathlib.Core.Bool.{Bool, true, false, cond, true≢false}
use mathlib.Core.Path.{◌≡◌, refl, sym, ◌∙◌}
use native.Mathlib.Decide.{dec_lt}
use native.Mathlib.Omega.{arith}
use Rattle.least.specs.Least.{first_in, soonest}
use Rattle.least.proofs.Laws.{NoneIn, at_is, first_agree, here_at, best_stays}
use Rattle.std.specs.Prelude.{Some, None}

module _
    (f m : ℕ → Bool)
    (below : (t : ℕ) → t < 0xA0000 → f t ≡ m t)
    (above : (t : ℕ) → 0xBFFFF < t → f t ≡ m t)
    (inside : (t : ℕ) → 0xA0000 ≤ t → t ≤ 0xBFFFF → f t ≡ f 0xA0000)
    (flat : (t : ℕ) → t < 2 ^ 20 → m t ≡ m 0)
  where
    -- where m holds at 0, f does
    at_zero : (g : Bool) → m 0 ≡ true → soonest (cond g (Some 0xA0000) None) (first_in m 0 (2 ^ 64)) ≡ first_in f 0 (2 ^ 64)
    at_zero g e = go g ((here_at m (omega arith)).1 e) ((here_at f (omega arith)).1 (below 0 (omega arith) ∙ e))
      where
        go : (b : Bool) → Some 0 ≡ first_in m 0 (2 ^ 64) → Some 0 ≡ first_in f 0 (2 ^ 64)
            → soonest (cond b (Some 0xA0000) None) (first_in m 0 (2 ^ 64)) ≡ first_in f 0 (2 ^ 64)
        go true x y = rw (← x, ← y)
        go false x y = rw (← x, ← y)

    -- elsewhere m holds nowhere in the first MiB
    module _ (none : m 0 ≡ false) where
      m_before : NoneIn m 0 0xA0000
      m_before = record { none = λ t l h. flat t (omega arith) ∙ none }

      f_before : NoneIn f 0 0xA0000
      f_before = record { none = λ t l h. below t h ∙ flat t (omega arith) ∙ none }

      same : f 0xA0000 ≡ false → (t : ℕ) → m t ≡ f t
      same e t = go (dec_lt t 0xA0000) (dec_lt 0xBFFFF t)
        where
          go : Dec (t < 0xA0000) → Dec (0xBFFFF < t) → m t ≡ f t
          go (yes l) h = sym (below t l)
          go (no l) (yes h) = sym (above t h)
          go (no l) (no h) = flat t (omega arith) ∙ none ∙ sym (inside t (omega arith) (omega arith) ∙ e)

      begins : f 0xA0000 ≡ true → soonest (Some 0xA0000) (first_in m 0 (2 ^ 64)) ≡ first_in f 0 (2 ^ 64)
      begins e = best_stays (2 ^ 64) m_before ∙ at_is (record { from = zero-le; below = omega arith; holds = e; first = f_before })

    -- g says whether f holds on the stretch, where m does not hold at 0
    pub apart_first : (g : Bool) → (g ≡ true → f 0xA0000 ≡ true) → (f 0xA0000 ≡ true → g ≡ false → m 0 ≡ true)
        → soonest (cond g (Some 0xA0000) None) (first_in m 0 (2 ^ 64)) ≡ first_in f 0 (2 ^ 64)
    apart_first g there other = go g (m 0) (f 0xA0000) refl refl refl
      where
        go : (b x y : Bool) → g ≡ b → m 0 ≡ x → f 0xA0000 ≡ y
            → soonest (cond b (Some 0xA0000) None) (first_in m 0 (2 ^ 64)) ≡ first_in f 0 (2 ^ 64)
        go b true y e k h = at_zero b k
        go true false y e k h = begins k (there e)
        go false false true e k h = absurd (true≢false (sym (other h e) ∙ k))
        go false false false e k h = first_agree (λ t l n. same k h t)
