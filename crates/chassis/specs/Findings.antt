-- What the check's findings say: two holders at one place; the least target with its first pair; and what each verdict says of a
-- chassis.
use Rattle.std.specs.Prelude.{ℕ, ◌<◌, ◌^◌, Bool, true, false, ◌≡◌}
use Rattle.ids.specs.declared.PortNo.{PortNo}
use Rattle.ids.specs.declared.Target.{Target}
use Rattle.ids.specs.declared.Target.TheVariants.{Id, Addr}
use Rattle.chassis.specs.declared.Fault.{Fault}
use Rattle.chassis.specs.declared.Fault.TheVariants.{Shared as OfShared, Stray as OfStray, Taken as OfTaken}
use Rattle.chassis.specs.declared.Hold.{Hold}
use Rattle.chassis.specs.declared.Verdict.{Verdict}
use Rattle.chassis.specs.declared.Verdict.TheVariants.{Clear, Shared, Stray, Lost, Taken}
use Rattle.chassis.specs.Chassis.{Chassis, is_own, holds, hold_of}
use Rattle.chassis.specs.Check.{clash, own_id_lost, at_fault, faulty}
use Rattle.chassis.specs.OneEnd.{InRange}

-- "held by two ports at one place"
pub record HeldByTwo (c : Chassis) (t : Target) (p q : ℕ) : Type 0 where
  pub distinct : p ≡ q → ⊥
  pub one_place : c.tree.parent p ≡ c.tree.parent q
  pub first_holds : holds c t p ≡ true
  pub second_holds : holds c t q ≡ true

-- "an ID claimed by the port whose own it is"
pub record OwnClaimed (c : Chassis) (t : Target) (p : ℕ) : Type 0 where
  pub own : is_own c t p ≡ true
  pub claimed : c.claims p t ≡ true

-- two ports clash: "a port with itself tried too"
pub data Clash (c : Chassis) (t : Target) (p q : ℕ) : Type 0 where
  between_two : HeldByTwo c t p q → Clash c t p q
  with_itself : p ≡ q → OwnClaimed c t p → Clash c t p q

-- a pair of ports that clash
pub record Clashing (c : Chassis) (t : Target) : Type 0 where
  pub first : ℕ
  pub second : ℕ
  pub first_below : first < c.tree.count
  pub second_below : second < c.tree.count
  pub clashing : Clash c t first second

-- the lowest of n ports that passes a test
pub record Lowest (test : ℕ → Bool) (n : ℕ) (p : PortNo) : Type 0 where
  pub below : p.0 < n
  pub passes : test p.0 ≡ true
  pub first : (q : ℕ) → q < p.0 → test q ≡ false

-- IDs come before addresses, and each by its number
abbrev pub Earlier : Target → Target → Type 0
Earlier (Id m) (Id n) = m.0 < n.0
Earlier (Id m) (Addr a) = m.0 < 2 ^ 16
Earlier (Addr b) (Id n) = ⊥
Earlier (Addr b) (Addr a) = b < a

-- the least target with a fault, all IDs before all addresses, and the lowest port at fault there
pub record LeastAt (fault : Fault) (c : Chassis) (t : Target) (p : PortNo) : Type 0 where
  pub in_range : InRange t
  pub passes : faulty fault c t ≡ true
  pub first : (u : Target) → Earlier u t → faulty fault c u ≡ false
  pub port : Lowest (at_fault fault c t) c.tree.count p

abbrev pub NoneWith : Fault → Chassis → Type 0
NoneWith fault c = (t : Target) → InRange t → faulty fault c t ≡ false

abbrev pub NoneLost : Chassis → Type 0
NoneLost c = (p : ℕ) → p < c.tree.count → own_id_lost c p ≡ false

-- a port is named with its own hold on the target
abbrev pub ItsHold : Chassis → Target → Hold → Type 0
ItsHold c t h = h ≡ hold_of c t h.port.0

-- what a verdict says of a chassis: its row of the table, with each port's hold on the target, and that no row before it applies
abbrev pub Says : Chassis → Verdict → Type 0
Says c (Shared t h k) =
    LeastAt OfShared c t h.port × Lowest (clash c t h.port.0) c.tree.count k.port × ItsHold c t h × ItsHold c t k
Says c (Stray t h) = NoneWith OfShared c × LeastAt OfStray c t h.port × ItsHold c t h
Says c (Lost p) = NoneWith OfShared c × NoneWith OfStray c × Lowest (own_id_lost c) c.tree.count p
Says c (Taken t h) = NoneWith OfShared c × NoneWith OfStray c × NoneLost c × LeastAt OfTaken c t h.port × ItsHold c t h
Says c Clear = ((fault : Fault) → NoneWith fault c) × NoneLost c
