-- What a search among the numbers below n has found: whether any passes, and the two lowest that pass.
use Prim.Native.Nat.{ℕ, zero, suc, ◌<◌, ◌≤◌}
use mathlib.Core.Bool.{Bool, true, false, ◌||◌}
use mathlib.Core.Logic.{◌↔◌, ⊎_elim}
use mathlib.Core.Path.{◌≡◌, refl, sym, ap, ap₂, subst}
use native.Mathlib.Nat.{eq-or-lt_of_le, le_of_suc-le-suc, not-suc-le-zero, le_antisymm, le_trans}
use native.Mathlib.Decide.{dec_lt}
use native.Mathlib.Omega.{arith}
use borrow.Author.Tests.{eqb-true, eq-eqb}
use Rattle.chassis.specs.declared.Holders.{Holders}
use Rattle.chassis.specs.declared.Holders.TheVariants.{Nobody, Only, Both}
use Rattle.ids.specs.Ids.{port_no}
use Rattle.chassis.specs.Chassis.{Chassis, with_port, lowest_two, passes_at, lowest_at}
use Rattle.chassis.specs.Tree.{stands_at, any_below}
use Rattle.chassis.proofs.Bools.{never_both_values, and_true_parts, or_false_parts}

-- a number below n passes
pub record SomeBelow (test : ℕ → Bool) (n : ℕ) : Type 0 where
  pub number : ℕ
  pub below : number < n
  pub passes : test number ≡ true

-- no number below n passes
abbrev pub NoneBelow : (ℕ → Bool) → ℕ → Type 0
NoneBelow test n = (i : ℕ) → i < n → test i ≡ false

-- p is the one number below n that passes
pub record SoleBelow (test : ℕ → Bool) (n p : ℕ) : Type 0 where
  pub below : p < n
  pub passes : test p ≡ true
  pub only : (i : ℕ) → i < n → test i ≡ true → i ≡ p

-- p and q are the lowest two of the numbers below n that pass
pub record LowestTwoBelow (test : ℕ → Bool) (n p q : ℕ) : Type 0 where
  pub ordered : p < q
  pub below : q < n
  pub first_passes : test p ≡ true
  pub second_passes : test q ≡ true
  pub only : (i : ℕ) → i < q → test i ≡ true → i ≡ p

-- what each answer of a search says
abbrev pub Says : (ℕ → Bool) → ℕ → Holders → Type 0
Says test n Nobody = NoneBelow test n
Says test n (Only p) = SoleBelow test n p.0
Says test n (Both p q) = LowestTwoBelow test n p.0 q.0

module _ (test : ℕ → Bool) where
  -- what holds of the numbers below n, and of n, holds of those below n + 1
  below_suc : {P : ℕ → Type 0} (n : ℕ) → ((i : ℕ) → i < n → P i) → P n → (i : ℕ) → i < suc n → P i
  below_suc {P} n lower here i l =
      ⊎_elim (λ e. subst P (sym e) here) (lower i) (eq-or-lt_of_le (le_of_suc-le-suc l))

  some_more : (n : ℕ) (b : Bool) → (b ≡ true → SomeBelow test n) → (b || test n) ≡ true → SomeBelow test (suc n)
  some_more n true lower e =
      let s = lower refl in
      record { number = s.number; below = omega arith; passes = s.passes }
  some_more n false lower e = record { number = n; below = omega arith; passes = e }

  some_below : (n : ℕ) → any_below test n ≡ true → SomeBelow test n
  unfolding any_below
  some_below zero e = never_both_values false e refl
  some_below (suc n) e = some_more n (any_below test n) (some_below n) e

  none_below : (n : ℕ) → any_below test n ≡ false → NoneBelow test n
  unfolding any_below
  none_below zero e = λ i l. absurd (not-suc-le-zero l)
  none_below (suc n) e =
      let parts = or_false_parts (any_below test n) (test n) e in
      below_suc n (none_below n parts.0) parts.1

  -- it is true exactly if some number below n passes, and false exactly if none does
  pub any_below_true : (n : ℕ) → (any_below test n ≡ true) ↔ SomeBelow test n
  any_below_true n = (some_below n, λ s. go s (any_below test n) refl)
    where
      go : SomeBelow test n → (b : Bool) → any_below test n ≡ b → any_below test n ≡ true
      go s true e = e
      go s false e = never_both_values (test s.number) s.passes (none_below n e s.number s.below)

  pub any_below_at : (n i : ℕ) → i < n → test i ≡ true → any_below test n ≡ true
  any_below_at n i l e = (any_below_true n).1 (record { number = i; below = l; passes = e })

  pub any_below_false : (n : ℕ) → (any_below test n ≡ false) ↔ NoneBelow test n
  any_below_false n = (none_below n, λ none. go none (any_below test n) refl)
    where
      go : NoneBelow test n → (b : Bool) → any_below test n ≡ b → any_below test n ≡ false
      go none false e = e
      go none true e =
          let s = some_below n e in
          never_both_values (test s.number) s.passes (none s.number s.below)

  two_more : {n p q : ℕ} → LowestTwoBelow test n p q → LowestTwoBelow test (suc n) p q
  two_more s =
      record {
        ordered = s.ordered;
        below = omega arith;
        first_passes = s.first_passes;
        second_passes = s.second_passes;
        only = s.only;
      }

  says_more : (n : ℕ) (found : Holders) (b : Bool) → test n ≡ b → Says test n found → Says test (suc n) (with_port found n b)
  unfolding with_port
  says_more n Nobody false e s = below_suc n s e
  says_more n Nobody true e s =
      record { below = omega arith; passes = e; only = below_suc n (λ i l t. never_both_values (test i) t (s i l)) (λ t. refl) }
  says_more n (Only p) false e s =
      record { below = omega arith; passes = s.passes; only = below_suc n s.only (λ t. never_both_values (test n) t e) }
  says_more n (Only p) true e s =
      record { ordered = s.below; below = omega arith; first_passes = s.passes; second_passes = e; only = s.only }
  says_more n (Both p q) false e s = two_more s
  says_more n (Both p q) true e s = two_more s

  -- the answer of the search for the two lowest is true
  pub lowest_two_says : (n : ℕ) → Says test n (lowest_two test n)
  unfolding lowest_two
  lowest_two_says zero = λ i l. absurd (not-suc-le-zero l)
  lowest_two_says (suc n) = says_more n (lowest_two test n) (test n) refl (lowest_two_says n)

  not_sooner : {n p q r v : ℕ} → LowestTwoBelow test n p q → LowestTwoBelow test n r v → v ≤ q
  not_sooner {q = q} {v = v} s u = go (dec_lt q v)
    where
      go : Dec (q < v) → v ≤ q
      go (no l) = omega arith
      go (yes l) =
          let first = u.only _ (le_trans s.ordered (omega arith)) s.first_passes in
          let second = u.only _ l s.second_passes in
          absurd (omega (arith, s.ordered))

  -- only one answer is true
  says_one : (n : ℕ) (a b : Holders) → Says test n a → Says test n b → a ≡ b
  says_one n Nobody Nobody s u = refl
  says_one n Nobody (Only p) s u = never_both_values (test p.0) u.passes (s p.0 u.below)
  says_one n Nobody (Both p q) s u = never_both_values (test q.0) u.second_passes (s q.0 u.below)
  says_one n (Only p) Nobody s u = never_both_values (test p.0) s.passes (u p.0 s.below)
  says_one n (Only p) (Only r) s u = ap (λ (i : ℕ). Only (port_no i)) (u.only p.0 s.below s.passes)
  says_one n (Only p) (Both q r) s u =
      let first : q.0 ≡ p.0 = s.only q.0 (omega arith) u.first_passes in
      let second : r.0 ≡ p.0 = s.only r.0 u.below u.second_passes in
      absurd (omega arith)
  says_one n (Both p q) Nobody s u = never_both_values (test q.0) s.second_passes (u q.0 s.below)
  says_one n (Both p q) (Only r) s u =
      let first : p.0 ≡ r.0 = u.only p.0 (omega arith) s.first_passes in
      let second : q.0 ≡ r.0 = u.only q.0 s.below s.second_passes in
      absurd (omega arith)
  says_one n (Both p q) (Both r v) s u =
      let second : q.0 ≡ v.0 = le_antisymm (not_sooner u s) (not_sooner s u) in
      let first : p.0 ≡ r.0 = u.only p.0 (omega arith) s.first_passes in
      ap₂ (λ (i j : ℕ). Both (port_no i) (port_no j)) first second

  -- and no other answer is: each answer is given exactly if what it says is so
  pub lowest_two_is : (n : ℕ) (found : Holders) → (lowest_two test n ≡ found) ↔ Says test n found
  lowest_two_is n found = (
    λ e. subst (Says test n) e (lowest_two_says n),
    λ s. says_one n (lowest_two test n) found (lowest_two_says n) s,
  )

-- a port passes at a place exactly if it stands there and passes
pub passes_at_true : (c : Chassis) (place : ℕ) (test : ℕ → Bool) (p : ℕ)
    → (passes_at c place test p ≡ true) ↔ ((c.tree.parent p ≡ place) × (test p ≡ true))
unfolding passes_at
passes_at_true c place test p = (
  λ e. let parts = and_true_parts (stands_at c.tree place p) (test p) e in (eqb-true _ _ parts.0, parts.1),
  λ parts. rw (eq-eqb _ _ parts.0, parts.1),
)

-- what the lowest ports at a place are: each answer is given exactly if what it says is so
pub lowest_at_is : (c : Chassis) (place : ℕ) (test : ℕ → Bool) (found : Holders)
    → (lowest_at c place test ≡ found) ↔ Says (passes_at c place test) c.tree.count found
lowest_at_is c place test = lowest_two_is (passes_at c place test) c.tree.count

-- nobody is found at a place where no port passes
pub nobody_at : (c : Chassis) (place : ℕ) (test : ℕ → Bool)
    → ((p : ℕ) → p < c.tree.count → c.tree.parent p ≡ place → test p ≡ true → ⊥) → lowest_at c place test ≡ Nobody
nobody_at c place test none = (lowest_at_is c place test Nobody).1 (λ i l. go i l (passes_at c place test i) refl)
  where
    go : (i : ℕ) → i < c.tree.count → (b : Bool) → passes_at c place test i ≡ b → passes_at c place test i ≡ false
    go i l false e = e
    go i l true e =
        let parts = (passes_at_true c place test i).0 e in
        absurd (none i l parts.0 parts.1)
