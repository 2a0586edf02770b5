-- The least target over all pairs, or all ports, as the best of one after the other. Assumes nothing.
use Prim.Native.Nat.{ℕ, ◌+◌, ◌≤◌, ◌<◌}
use mathlib.Core.Bool.{Bool, true, false, ◌||◌, or-false, or_assoc}
use mathlib.Core.Path.{◌≡◌, refl, sym, ◌∙◌, ap}
use native.Mathlib.Nat.{le_antisymm}
use native.Mathlib.Numerals.{add-one}
use Rattle.ids.specs.declared.Space.{Space}
use Rattle.ids.specs.declared.Target.{Target}
use Rattle.least.specs.Least.{soonest}
use Rattle.least.proofs.Laws.{none_is, first_agree, either_first, soonest_nothing}
use Rattle.chassis.specs.Chassis.{Chassis, target_in, space_size}
use Rattle.chassis.specs.declared.Fault.{Fault}
use Rattle.chassis.specs.declared.Fault.TheVariants.{Shared, Stray, Taken}
use Rattle.chassis.specs.Check.{clash, clashes_with, at_fault, faulty, test_in, least_target}
use Rattle.chassis.specs.Tree.{root_port, any_below}
use Rattle.chassis.proofs.Ports.{any_below_true, any_below_at}
use Rattle.overlaps.specs.Overlaps.{meeting, clash_of, faulty_to}
use Rattle.overlaps.proofs.Clashes.{clash_turned, first_side, second_side, clash_meets, no_clash, held, claimed, taken_by, stray_meets, no_stray, taken_meets, no_taken}
use Rattle.std.specs.Prelude.{Option, None}

-- the pairs of the first p ports, and of port p with the first q
unfoldable pub seen : Chassis → ℕ → ℕ → Target → Bool
seen c p q t = faulty_to Shared c p t || any_below (clash c t p) q

-- the pairs of port p with the ports before it were seen as pairs of those
seen_before : (c : Chassis) (t : Target) (p : ℕ) → p < c.tree.count → faulty_to Shared c p t ≡ seen c p p t
unfolding seen faulty_to clashes_with
seen_before c t p l = go (any_below (clash c t p) p) refl
  where
    go : (b : Bool) → any_below (clash c t p) p ≡ b
        → any_below (clashes_with c t) p ≡ (any_below (clashes_with c t) p || any_below (clash c t p) p)
    go false e = rw (e, or-false)
    go true e =
        let q = (any_below_true (clash c t p) p).0 e in
        let row : clashes_with c t q.number ≡ true = any_below_at (clash c t q.number) c.tree.count p l (clash_turned c t q.number p ∙ q.passes) in
        rw (any_below_at (clashes_with c t) p q.number q.below row)

module _ (c : Chassis) (space : Space) where
  nothing_better : (best : Option ℕ) (test : Target → Bool) → ((n : ℕ) → test (target_in space n) ≡ false)
      → best ≡ soonest best (least_target test space)
  unfolding test_in
  nothing_better best test none = sym (soonest_nothing best) ∙ ap (soonest best) (none_is (record { none = λ i l h. none i }))

  -- one pair: siblings meet, others do not clash
  pub pair_first : (p q : ℕ) → c.tree.parent p ≡ c.tree.parent q
      → least_target (meeting c (first_side p q) (second_side p q) true) space ≡ least_target (clash_of c p q) space
  unfolding test_in clash_of
  pair_first p q e = first_agree (λ t l h. clash_meets c (target_in space t) p q e)

  pub no_pair : (p q : ℕ) (best : Option ℕ) → (c.tree.parent p ≡ c.tree.parent q → ⊥) → best ≡ soonest best (least_target (clash_of c p q) space)
  unfolding clash_of
  no_pair p q best apart = nothing_better best (clash_of c p q) (λ n. no_clash c (target_in space n) p q apart)

  -- all pairs: a row at a time, a pair at a time
  pub row_begins : (p : ℕ) → p < c.tree.count → least_target (faulty_to Shared c p) space ≡ least_target (seen c p p) space
  unfolding test_in
  row_begins p l = first_agree (λ t k h. seen_before c (target_in space t) p l)

  pub row_more : (p q : ℕ) → soonest (least_target (seen c p q) space) (least_target (clash_of c p q) space) ≡ least_target (seen c p (q + 1)) space
  unfolding test_in seen clash_of any_below
  row_more p q =
      rw add-one
      (either_first _ _ 0 (space_size space)
      (λ t. sym (or_assoc (faulty_to Shared c p (target_in space t)) (any_below (clash c (target_in space t) p) q) (clash c (target_in space t) p q))))

  pub row_ends : (p : ℕ) {q n : ℕ} → q ≤ n → n ≤ q → n ≡ c.tree.count → least_target (seen c p q) space ≡ least_target (faulty_to Shared c (p + 1)) space
  unfolding test_in seen faulty_to clashes_with any_below
  row_ends p l k e = rw (le_antisymm l k ∙ e, add-one)

  -- one port more: what it is at fault at, or nothing
  port_more : (fault : Fault) (p : ℕ) (test : Target → Bool) → ((n : ℕ) → test (target_in space n) ≡ at_fault fault c (target_in space n) p)
      → soonest (least_target (faulty_to fault c p) space) (least_target test space) ≡ least_target (faulty_to fault c (p + 1)) space
  unfolding test_in faulty_to any_below
  port_more fault p test same =
      rw add-one
      (either_first _ _ 0 (space_size space) (λ n. ap (λ (b : Bool). any_below (at_fault fault c (target_in space n)) p || b) (sym (same n))))

  port_clear : (fault : Fault) (p : ℕ) {best : Option ℕ} → best ≡ least_target (faulty_to fault c p) space
      → ((n : ℕ) → at_fault fault c (target_in space n) p ≡ false) → best ≡ least_target (faulty_to fault c (p + 1)) space
  port_clear fault p {best} e none =
      nothing_better best (λ t. at_fault fault c t p) none ∙ rw e (port_more fault p (λ t. at_fault fault c t p) (λ n. refl))

  -- what it lets stray, or nothing of a root port
  pub with_stray : (p : ℕ) {best : Option ℕ} → best ≡ least_target (faulty_to Stray c p) space → (c.tree.kind p ≡ root_port → ⊥)
      → soonest best (least_target (meeting c (held p) (claimed (c.tree.parent p)) false) space) ≡ least_target (faulty_to Stray c (p + 1)) space
  with_stray p e other = rw e (port_more Stray p _ (λ n. stray_meets c (target_in space n) p other))

  pub without_stray : (p : ℕ) {best : Option ℕ} → best ≡ least_target (faulty_to Stray c p) space → c.tree.kind p ≡ root_port
      → best ≡ least_target (faulty_to Stray c (p + 1)) space
  without_stray p e is = port_clear Stray p e (λ n. no_stray c (target_in space n) p is)

  -- what its parent takes, or nothing of a root port
  pub with_taken : (p : ℕ) {best : Option ℕ} → best ≡ least_target (faulty_to Taken c p) space → (c.tree.kind p ≡ root_port → ⊥)
      → soonest best (least_target (meeting c (taken_by (c.tree.parent p)) (claimed p) true) space) ≡ least_target (faulty_to Taken c (p + 1)) space
  with_taken p e other = rw e (port_more Taken p _ (λ n. taken_meets c (target_in space n) p other))

  pub without_taken : (p : ℕ) {best : Option ℕ} → best ≡ least_target (faulty_to Taken c p) space → c.tree.kind p ≡ root_port
      → best ≡ least_target (faulty_to Taken c (p + 1)) space
  without_taken p e is = port_clear Taken p e (λ n. no_taken c (target_in space n) p is)

  -- all ports: nothing at first, all at the end
  pub faults_begin : (fault : Fault) → None ≡ least_target (faulty_to fault c 0) space
  unfolding test_in faulty_to any_below
  faults_begin fault = none_is (record { none = λ i l h. refl })

  pub faults_end : (fault : Fault) {p n : ℕ} → p ≤ n → n ≤ p → n ≡ c.tree.count
      → least_target (faulty_to fault c p) space ≡ least_target (faulty fault c) space
  unfolding test_in faulty_to faulty
  faults_end fault l k e = rw (le_antisymm l k ∙ e)
