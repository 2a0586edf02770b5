-- A tree that keeps the rules of kinds, parents and chains: where the parent of a port is, and how deep a port lies.
use Prim.Native.Nat.{ℕ, zero, suc, ◌<◌, ◌≤◌}
use mathlib.Core.Bool.{Bool, true, false, cond}
use mathlib.Core.Logic.{◌↔◌}
use mathlib.Core.Path.{◌≡◌, refl, sym, ◌∙◌, ap}
use native.Mathlib.Nat.{le_refl, not-suc-le-zero}
use native.Mathlib.Decide.{ℕ_discrete}
use native.Mathlib.Omega.{arith}
use lib.Dec.{eqb}
use borrow.Author.Tests.{eqb-true, eq-eqb, ne_eqb, ltb-true, not-false}
use Rattle.chassis.specs.Tree.{Tree, root_port, root, tree_broken, one_above, above, chain_too_long}
use Rattle.chassis.proofs.Bools.{or_false_parts}

-- no port breaks number 6 or 7, and there are no more than number 3 allows, so that 255 is no port
pub record Sane (tree : Tree) : Type 0 where
  pub kept : (p : ℕ) → p < tree.count → tree_broken tree p ≡ false
  pub short : (p : ℕ) → p < tree.count → chain_too_long tree p ≡ false
  pub few : tree.count ≤ 64

-- how many ports there are from p up to the root, p with them, as far as k steps go
climbs : Tree → ℕ → ℕ → ℕ
climbs tree zero p = 0
climbs tree (suc k) p = cond (eqb p root) 0 (suc (climbs tree k (tree.parent p)))

-- how deep a port lies: 1 for a root port; the root itself is at 0
pub depth : Tree → ℕ → ℕ
depth tree p = climbs tree 16 p

pub depth_root : (tree : Tree) → depth tree root ≡ 0
unfolding depth climbs
depth_root tree = refl

module _ (tree : Tree) where
  above_parent : (k p : ℕ) → eqb p root ≡ false → above tree (suc k) p ≡ above tree k (tree.parent p)
  unfolding above one_above
  above_parent zero p e = rw e
  above_parent (suc k) p e = rw (above_parent k p e)

  climbs_settled : (k p : ℕ) → above tree k p ≡ root → climbs tree (suc k) p ≡ climbs tree k p
  unfolding above climbs
  climbs_settled zero p e = rw e
  climbs_settled (suc k) p e = go (eqb p root) refl (climbs_settled k (tree.parent p))
    where
      go : (b : Bool) → eqb p root ≡ b
          → (above tree k (tree.parent p) ≡ root → climbs tree (suc k) (tree.parent p) ≡ climbs tree k (tree.parent p))
          → climbs tree (suc (suc k)) p ≡ climbs tree (suc k) p
      go true at-root ih = rw at-root
      go false elsewhere ih = rw elsewhere (ap suc (ih (sym (above_parent k p elsewhere) ∙ e)))

  climbs_most : (k p : ℕ) → climbs tree k p ≤ k
  unfolding climbs
  climbs_most zero p = omega arith
  climbs_most (suc k) p = go (eqb p root) (climbs_most k (tree.parent p))
    where
      go : (b : Bool) → climbs tree k (tree.parent p) ≤ k → cond b 0 (suc (climbs tree k (tree.parent p))) ≤ suc k
      go true h = omega arith
      go false h = omega arith

  -- a chain has at most 16 ports
  pub depth_most : (p : ℕ) → depth tree p ≤ 16
  unfolding depth
  depth_most p = climbs_most 16 p

module _ (tree : Tree) (sane : Sane tree) where
  not_root : (p : ℕ) → p < tree.count → eqb p root ≡ false
  not_root p l = ne_eqb p root (λ e. omega (arith, sane.few))

  settled : (p : ℕ) → p < tree.count → above tree 15 (tree.parent p) ≡ root
  unfolding chain_too_long
  settled p l = sym (above_parent tree 15 p (not_root p l)) ∙ eqb-true _ _ (not-false _ (sane.short p l))

  -- a port lies one deeper than the place where it stands
  pub depth_parent : (p : ℕ) → p < tree.count → depth tree p ≡ suc (depth tree (tree.parent p))
  unfolding depth climbs
  depth_parent p l =
      simp (not_root p l) (ap suc (sym (climbs_settled tree 15 (tree.parent p) (settled p l))))

  -- "A root port has parent 255."
  pub root_port_parent : (p : ℕ) → p < tree.count → tree.kind p ≡ root_port → tree.parent p ≡ root
  unfolding tree_broken
  root_port_parent p l e = eqb-true _ _ (not-false _ (rw (tree_broken, eq-eqb (tree.kind p) root_port e) at (sane.kept p l)))

  -- "Any other port's parent has a lower number."
  pub other_parent : (p : ℕ) → p < tree.count → (tree.kind p ≡ root_port → ⊥) → tree.parent p < p
  unfolding tree_broken
  other_parent p l e =
      let rules = rw (tree_broken, ne_eqb (tree.kind p) root_port e) at (sane.kept p l) in
      ltb-true _ _ (not-false _ (or_false_parts _ _ rules).0)

  -- the parent is the root exactly for a root port
  pub parent_root : (p : ℕ) → p < tree.count → (tree.parent p ≡ root) ↔ (tree.kind p ≡ root_port)
  parent_root p l =
      (λ e. go e (ℕ_discrete (tree.kind p) root_port), root_port_parent p l)
    where
      go : tree.parent p ≡ root → Dec (tree.kind p ≡ root_port) → tree.kind p ≡ root_port
      go e (yes same) = same
      go e (no other) = absurd (omega (arith, other_parent p l other, sane.few))

  pub depth_root_port : (p : ℕ) → p < tree.count → tree.kind p ≡ root_port → depth tree p ≡ 1
  depth_root_port p l e = rw (depth_parent p l, root_port_parent p l e, depth_root tree)

  -- a port whose parent is not the root has a lower port for a parent
  pub parent_lower : (p : ℕ) → p < tree.count → (tree.parent p ≡ root → ⊥) → tree.parent p < p
  parent_lower p l below = other_parent p l (λ k. below (root_port_parent p l k))

  up_to : (P : ℕ → Type 0)
      → ((p : ℕ) → p < tree.count → tree.kind p ≡ root_port → P p)
      → ((p : ℕ) → p < tree.count → (tree.kind p ≡ root_port → ⊥) → P (tree.parent p) → P p)
      → (n p : ℕ) → p < n → p < tree.count → P p
  up_to P top lower zero p m l = absurd (not-suc-le-zero m)
  up_to P top lower (suc n) p m l = go (ℕ_discrete (tree.kind p) root_port) (up_to P top lower n (tree.parent p))
    where
      go : Dec (tree.kind p ≡ root_port) → (tree.parent p < n → tree.parent p < tree.count → P (tree.parent p)) → P p
      go (yes is-root) above = top p l is-root
      go (no other) above =
          let less = other_parent p l other in
          lower p l other (above (omega arith) (omega arith))

  -- what holds of every root port, and of every other port if it holds of its parent, holds of every port
  pub by_parents : (P : ℕ → Type 0)
      → ((p : ℕ) → p < tree.count → tree.kind p ≡ root_port → P p)
      → ((p : ℕ) → p < tree.count → (tree.kind p ≡ root_port → ⊥) → P (tree.parent p) → P p)
      → (p : ℕ) → p < tree.count → P p
  by_parents P top lower p l = up_to P top lower (suc p) p (le_refl _) l
