-- Two trees that agree on all the ports that there are: they keep the same rules and have the same device ports.
use Prim.Native.Nat.{ℕ, zero, suc, ◌<◌}
use mathlib.Core.Bool.{Bool, true, false, not, cond, ◌&&◌, ◌||◌}
use mathlib.Core.Logic.{◌⊎◌, inl, inr}
use mathlib.Core.Path.{◌≡◌, refl, sym, ◌∙◌, ap, ap₂}
use native.Mathlib.Decide.{ℕ_discrete}
use native.Mathlib.Omega.{arith}
use lib.Dec.{eqb, ltb}
use borrow.Author.Tests.{eq-eqb, ltb-true}
use Rattle.chassis.specs.Tree.{Tree, root_port, root, upstream, any_below, stands_at, has_child_below, is_device_port, upstream_broken, downstream_broken, tree_broken, one_above, above, chain_too_long}
use Rattle.chassis.proofs.Tree.{Sane, other_parent, parent_lower}

-- two trees with the same ports
pub record AlikeTrees (a b : Tree) : Type 0 where
  pub count : a.count ≡ b.count
  pub kind : (p : ℕ) → p < a.count → a.kind p ≡ b.kind p
  pub parent : (p : ℕ) → p < a.count → a.parent p ≡ b.parent p

-- two tests that agree on the numbers below n
abbrev pub Agree : ℕ → (ℕ → Bool) → (ℕ → Bool) → Type 0
Agree n f g = (i : ℕ) → i < n → f i ≡ g i

-- one of the numbers below n passes the one exactly if one passes the other
pub any_agree : (f g : ℕ → Bool) (n : ℕ) → Agree n f g → any_below f n ≡ any_below g n
unfolding any_below
any_agree f g zero same = refl
any_agree f g (suc n) same = ap₂ ◌||◌ (any_agree f g n (λ i l. same i (omega arith))) (same n (omega arith))

module _ (a b : Tree) (alike : AlikeTrees a b) where
  -- the same ports stand at a place
  pub stands_alike : (place : ℕ) → Agree a.count (stands_at a place) (stands_at b place)
  stands_alike place p l = ap (λ (q : ℕ). eqb q place) (alike.parent p l)

  -- the same ports are device ports
  pub device_alike : (p : ℕ) → is_device_port a p ≡ is_device_port b p
  unfolding is_device_port
  device_alike p = go (ltb p a.count) refl
    where
      children : has_child_below a a.count p ≡ has_child_below b b.count p
      children = any_agree (stands_at a p) (stands_at b p) a.count (stands_alike p) ∙ ap (any_below (stands_at b p)) alike.count

      go : (there : Bool) → ltb p a.count ≡ there
          → (ltb p a.count && not (eqb (a.kind p) upstream) && not (has_child_below a a.count p))
          ≡ (ltb p b.count && not (eqb (b.kind p) upstream) && not (has_child_below b b.count p))
      go true e = rw (alike.kind p (ltb-true _ _ e), children, alike.count)
      go false e = rw (← alike.count, e)

module _ (a b : Tree) (alike : AlikeTrees a b) (sane : Sane a) where
  broken_alike : (p : ℕ) → p < a.count → tree_broken a p ≡ tree_broken b p
  unfolding tree_broken upstream_broken downstream_broken
  broken_alike p l = go (ℕ_discrete (a.kind p) root_port)
    where
      go : Dec (a.kind p ≡ root_port) → tree_broken a p ≡ tree_broken b p
      go (yes top) = rw (← alike.kind p l, ← alike.parent p l, eq-eqb (a.kind p) root_port top)
      go (no other) =
          let lower = other_parent a sane p l other in
          let children =
          any_agree (stands_at a (a.parent p)) (stands_at b (a.parent p)) p (λ i m. stands_alike a b alike (a.parent p) i (omega arith)) in
          rw (← alike.kind p l, ← alike.parent p l, ← alike.kind (a.parent p) (omega arith), children)

  -- where a climb from a port leads
  abbrev OnTree : ℕ → Type 0
  OnTree p = (p ≡ root) ⊎ (p < a.count)

  above_on : (p : ℕ) → OnTree p → OnTree (one_above a p)
  unfolding one_above
  above_on p (inl top) = rw (eq-eqb p root top) (inl refl)
  above_on p (inr l) = go (eqb p root) (ℕ_discrete (a.parent p) root)
    where
      go : (b : Bool) → Dec (a.parent p ≡ root) → OnTree (cond b root (a.parent p))
      go true _ = inl refl
      go false (yes top) = inl top
      go false (no below) = let lower = parent_lower a sane p l below in inr (omega arith)

  above_one : (p : ℕ) → OnTree p → one_above a p ≡ one_above b p
  unfolding one_above
  above_one p (inl top) = rw (eq-eqb p root top)
  above_one p (inr l) = rw (alike.parent p l)

  above_alike : (k p : ℕ) → p < a.count → OnTree (above a k p) × (above a k p ≡ above b k p)
  unfolding above
  above_alike zero p l = (inr l, refl)
  above_alike (suc k) p l =
      let lower = above_alike k p l in
      (above_on (above a k p) lower.0, above_one (above a k p) lower.0 ∙ ap (one_above b) lower.1)

  -- a tree with the ports of a sane one is sane
  pub sane_alike : Sane b
  unfolding chain_too_long
  sane_alike =
      record {
        kept = λ p l. sym (broken_alike p (there p l)) ∙ sane.kept p (there p l);
        short = λ p l. rw (← (above_alike 16 p (there p l)).1) (sane.short p (there p l));
        few = rw (← alike.count) sane.few;
      }
    where
      there : (p : ℕ) → p < b.count → p < a.count
      there p l = rw alike.count l
