-- Where a packet starts: at the root, or below a port that there is, redirected or not.
use Prim.Native.Nat.{ℕ, ◌<◌}
use mathlib.Core.Bool.{Bool, true, false, and-false}
use mathlib.Core.Path.{◌≡◌, refl, sym, subst}
use native.Mathlib.Omega.{arith}
use borrow.Author.Tests.{ne_eqb}
use Rattle.ids.specs.declared.Target.{Target}
use Rattle.ids.specs.declared.Target.TheVariants.{Id, Addr}
use Rattle.chassis.specs.declared.Packet.TheVariants.{Plain}
use Rattle.chassis.specs.declared.Whereabouts.TheVariants.{Root, From, Redirected}
use Rattle.ids.specs.Ids.{port_no}
use Rattle.chassis.specs.Chassis.{Chassis}
use Rattle.chassis.specs.Tree.{root}
use Rattle.chassis.specs.Walk.{come_to, is_redirected}
use Rattle.chassis.proofs.Steps.{Within}
use Rattle.chassis.proofs.Tree.{Sane}

pub come_to_root : (redirected : Bool) → come_to redirected root ≡ Root
unfolding come_to
come_to_root redirected = refl

module _ (c : Chassis) (sane : Sane c.tree) (p : ℕ) (l : p < c.tree.count) where
  pub come_to_port : come_to false p ≡ From (port_no p)
  unfolding come_to
  come_to_port = rw (ne_eqb p root (λ e. omega (arith, sane.few)))

  pub come_to_redirected : come_to true p ≡ Redirected (port_no p)
  unfolding come_to
  come_to_redirected = rw (ne_eqb p root (λ e. omega (arith, sane.few)))

  pub come_to_within : (redirected : Bool) → Within c (come_to redirected p)
  come_to_within true = subst (Within c) (sym come_to_redirected) l
  come_to_within false = subst (Within c) (sym come_to_port) l

-- what the starting port claims is not redirected
pub claimed_not_redirected : (c : Chassis) (t : Target) (p : ℕ) → c.claims p t ≡ true → is_redirected c (Plain t) p ≡ false
unfolding is_redirected
claimed_not_redirected c (Id rid) p claimed = refl
claimed_not_redirected c (Addr a) p claimed = rw (claimed, and-false)
