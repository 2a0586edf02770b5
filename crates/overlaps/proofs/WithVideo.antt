-- The least target at fault, by the least one beside the video range and the first address of it. Assumes nothing.
use Prim.Native.Nat.{ℕ, ◌^◌, ◌≤◌, ◌<◌}
use mathlib.Core.Bool.{Bool, true, false, not, cond, ◌&&◌, ◌||◌, and-true, and-false, or-false}
use mathlib.Core.Path.{◌≡◌, refl, sym, ◌∙◌, ap₂}
use native.Mathlib.Omega.{arith}
use lib.Dec.{eqb}
use borrow.Author.Tests.{not-true}
use Rattle.ids.specs.declared.Rid.{Rid}
use Rattle.ids.specs.declared.Space.TheVariants.{Ids, Addresses}
use Rattle.ids.specs.declared.Target.{Target}
use Rattle.ids.specs.declared.Target.TheVariants.{Id, Addr}
use Rattle.least.specs.Least.{soonest}
use Rattle.least.proofs.Laws.{first_agree}
use Rattle.chassis.specs.Chassis.{Chassis, is_own, holds}
use Rattle.chassis.specs.declared.Fault.{Fault}
use Rattle.chassis.specs.declared.Fault.TheVariants.{Shared, Stray, Taken}
use Rattle.chassis.specs.Check.{clash, clashes_with, strays_at, takes_at, taken_at, at_fault, faulty, test_in, least_target}
use Rattle.chassis.specs.Tree.{Tree, root_port, stands_at, any_below}
use Rattle.chassis.proofs.Bools.{never_both_values, and_true_parts, or_false_parts}
use Rattle.chassis.proofs.Ports.{NoneBelow, any_below_true, any_below_at, any_below_false}
use Rattle.claims.specs.Beside.{without_video}
use Rattle.claims.proofs.OfVideo.{OfVideo}
use Rattle.overlaps.specs.Overlaps.{video_at_fault, least_of_video}
use Rattle.overlaps.proofs.Clashes.{clash_turned}
use Rattle.overlaps.proofs.Apart.{apart_first}

-- whether a fault is at a target, by the tree and by what each port owns, claims and takes
clash_by : Tree → (ℕ → Bool) → (ℕ → Bool) → ℕ → ℕ → Bool
clash_by tree own claims p q =
    cond (eqb p q) (own p && claims p) (stands_at tree (tree.parent q) p && ((own p || claims p) && (own q || claims q)))

fault_by : Fault → Tree → (ℕ → Bool) → (ℕ → Bool) → (ℕ → Bool) → Bool
fault_by Shared tree own taken claims = any_below (λ p. any_below (clash_by tree own claims p) tree.count) tree.count
fault_by Taken tree own taken claims =
    any_below (λ p. not (eqb (tree.kind p) root_port) && claims p && taken (tree.parent p)) tree.count
fault_by Stray tree own taken claims =
    any_below (λ p. not (eqb (tree.kind p) root_port) && (own p || claims p) && not (claims (tree.parent p))) tree.count

by_claims : (fault : Fault) (c : Chassis) (t : Target)
    → faulty fault c t ≡ fault_by fault c.tree (is_own c t) (takes_at c t) (λ p. c.claims p t)
unfolding faulty clashes_with clash strays_at taken_at holds fault_by clash_by
by_claims Shared c t = refl
by_claims Stray c t = refl
by_claims Taken c t = refl

same_fault : (fault : Fault) (tree : Tree) (own taken : ℕ → Bool) {x y : ℕ → Bool} → ((p : ℕ) → x p ≡ y p)
    → fault_by fault tree own taken x ≡ fault_by fault tree own taken y
same_fault fault tree own taken e = λ i. fault_by fault tree own taken (λ p. e p i)

module _ (c : Chassis) (v : OfVideo c) (fault : Fault) where
  abbrev w : Chassis
  w = without_video c

  -- what is not of the video range is claimed beside it
  beside : (p : ℕ) (t : Target) → (c.decoders p t).vga ≡ false → c.claims p t ≡ w.claims p t
  beside p t e = v.joined p t ∙ rw (e, or-false)

  same_id : (rid : Rid) → faulty fault c (Id rid) ≡ faulty fault w (Id rid)
  same_id rid =
      by_claims fault c (Id rid)
      ∙ same_fault fault c.tree (is_own c (Id rid)) (takes_at c (Id rid)) (λ p. beside p (Id rid) (v.id p rid))
      ∙ sym (by_claims fault w (Id rid))

  same_address : (t : ℕ) → ((p : ℕ) → (c.decoders p (Addr t)).vga ≡ false) → faulty fault c (Addr t) ≡ faulty fault w (Addr t)
  same_address t out =
      by_claims fault c (Addr t)
      ∙ same_fault fault c.tree (is_own c (Addr t)) (takes_at c (Addr t)) (λ p. beside p (Addr t) (out p))
      ∙ sym (by_claims fault w (Addr t))

  flat_claim : (p t : ℕ) → 0xA0000 ≤ t → t ≤ 0xBFFFF → c.claims p (Addr t) ≡ c.claims p (Addr 0xA0000)
  flat_claim p t l h =
      v.joined p (Addr t)
      ∙ ap₂ ◌||◌ (v.flat p t (omega arith) ∙ sym (v.flat p 0xA0000 (omega arith))) (v.inside p t l h)
      ∙ sym (v.joined p (Addr 0xA0000))

  inside : (t : ℕ) → 0xA0000 ≤ t → t ≤ 0xBFFFF → faulty fault c (Addr t) ≡ faulty fault c (Addr 0xA0000)
  inside t l h =
      by_claims fault c (Addr t)
      ∙ same_fault fault c.tree (is_own c (Addr t)) (takes_at c (Addr t)) (λ p. flat_claim p t l h)
      ∙ sym (by_claims fault c (Addr 0xA0000))

  flat : (t : ℕ) → t < 2 ^ 20 → faulty fault w (Addr t) ≡ faulty fault w (Addr 0)
  flat t small =
      by_claims fault w (Addr t)
      ∙ same_fault fault c.tree (is_own c (Addr t)) (takes_at c (Addr t)) (λ p. v.flat p t small)
      ∙ sym (by_claims fault w (Addr 0))

  -- a port at fault that claims the video range is a port at fault
  there : any_below (video_at_fault fault c) c.tree.count ≡ true → faulty fault c (Addr 0xA0000) ≡ true
  unfolding faulty video_at_fault
  there e =
      let some = (any_below_true (video_at_fault fault c) c.tree.count).0 e in
      any_below_at (at_fault fault c (Addr 0xA0000)) c.tree.count some.number some.below
      (and_true_parts (c.decoders some.number (Addr 0xA0000)).vga (at_fault fault c (Addr 0xA0000) some.number) some.passes).1

-- and where no port that claims the video range is at fault there, one that is at fault is so beside it
module _ (c : Chassis) (v : OfVideo c) where
  unclaimed : (fault : Fault) → NoneBelow (video_at_fault fault c) c.tree.count → (p : ℕ) → p < c.tree.count
      → at_fault fault c (Addr 0xA0000) p ≡ true → c.claims p (Addr 0xA0000) ≡ (without_video c).claims p (Addr 0xA0000)
  unfolding video_at_fault
  unclaimed fault none p l e =
      beside c v fault p (Addr 0xA0000) (sym (and-true (c.decoders p (Addr 0xA0000)).vga) ∙ (rw e at (none p l)))

  clash_beside : (p q : ℕ) → c.claims p (Addr 0xA0000) ≡ (without_video c).claims p (Addr 0xA0000)
      → c.claims q (Addr 0xA0000) ≡ (without_video c).claims q (Addr 0xA0000)
      → clash c (Addr 0xA0000) p q ≡ clash (without_video c) (Addr 0xA0000) p q
  unfolding clash holds
  clash_beside p q x y = rw (x, y)

  other : (fault : Fault) → NoneBelow (video_at_fault fault c) c.tree.count → (p : ℕ) → p < c.tree.count
      → at_fault fault c (Addr 0xA0000) p ≡ true → at_fault fault (without_video c) (Addr 0xA0000) p ≡ true
  unfolding clashes_with strays_at taken_at holds
  other Taken none p l e =
      never_both_values _ e (and-false (not (eqb (c.tree.kind p) root_port) && c.claims p (Addr 0xA0000)))
  other Shared none p l e =
      let some = (any_below_true (clash c (Addr 0xA0000) p) c.tree.count).0 e in
      let q = some.number in
      let turned : clash c (Addr 0xA0000) q p ≡ true = clash_turned c (Addr 0xA0000) q p ∙ some.passes in
      any_below_at (clash (without_video c) (Addr 0xA0000) p) c.tree.count q some.below
      (sym
      (clash_beside p q (unclaimed Shared none p l e)
      (unclaimed Shared none q some.below (any_below_at (clash c (Addr 0xA0000) q) c.tree.count p l turned)))
      ∙ some.passes)
  other Stray none p l e =
      let a : Target = Addr 0xA0000 in
      let q = c.tree.parent p in
      let parts = and_true_parts (not (eqb (c.tree.kind p) root_port) && c.claims p a) (not (c.claims q a)) e in
      let lost = or_false_parts ((without_video c).claims q a) (c.decoders q a).vga (sym (v.joined q a) ∙ not-true (c.claims q a) parts.1) in
      rw (← unclaimed Stray none p l e, lost.0, parts.0)

  elsewhere : (fault : Fault) → faulty fault c (Addr 0xA0000) ≡ true → any_below (video_at_fault fault c) c.tree.count ≡ false
      → faulty fault (without_video c) (Addr 0) ≡ true
  unfolding faulty
  elsewhere fault e none =
      let some = (any_below_true (at_fault fault c (Addr 0xA0000)) c.tree.count).0 e in
      sym (flat c v fault 0xA0000 (omega arith))
      ∙ any_below_at (at_fault fault (without_video c) (Addr 0xA0000)) c.tree.count some.number some.below
      (other fault ((any_below_false (video_at_fault fault c) c.tree.count).0 none) some.number some.below some.passes)

  -- of IDs nothing is looked for apart
  pub least_id : (fault : Fault) → least_target (faulty fault (without_video c)) Ids ≡ least_target (faulty fault c) Ids
  unfolding test_in
  least_id fault = first_agree (λ t l h. sym (same_id c v fault (record { 0 = t })))

  pub least_address : (fault : Fault)
      → soonest (least_of_video fault c) (least_target (faulty fault (without_video c)) Addresses) ≡ least_target (faulty fault c) Addresses
  unfolding least_of_video test_in
  least_address fault =
      apart_first (test_in (faulty fault c) Addresses) (test_in (faulty fault (without_video c)) Addresses)
      (λ t l. same_address c v fault t (λ p. v.below p t l))
      (λ t l. same_address c v fault t (λ p. v.above p t l))
      (inside c v fault)
      (flat c v fault)
      (any_below (video_at_fault fault c) c.tree.count)
      (there c v fault)
      (elsewhere fault)
