-- Every step of a packet stays among the ports and brings it nearer to its end.
use Prim.Native.Nat.{ℕ, ◌+◌, ◌-◌, ◌<◌, ◌≤◌}
use mathlib.Core.Bool.{Bool, true, false, cond}
use mathlib.Core.Path.{◌≡◌, refl, subst}
use native.Mathlib.Omega.{arith}
use lib.Dec.{eqb}
use borrow.Author.Tests.{eqb-false}
use Rattle.ids.specs.declared.PortNo.{PortNo}
use Rattle.ids.specs.declared.Target.{Target}
use Rattle.ids.specs.declared.Target.TheVariants.{Id}
use Rattle.chassis.specs.declared.Conversion.{Conversion}
use Rattle.chassis.specs.declared.Conversion.TheVariants.{NotClaimed, Type0 as AsType0, Type1 as AsType1, Unsupported as Refuses}
use Rattle.chassis.specs.declared.End.{End}
use Rattle.chassis.specs.declared.End.TheVariants.{Device, Function, Host, Unsupported, Doubled}
use Rattle.chassis.specs.declared.Holders.{Holders}
use Rattle.chassis.specs.declared.Holders.TheVariants.{Nobody, Only, Both}
use Rattle.chassis.specs.declared.Packet.{Packet}
use Rattle.chassis.specs.declared.Packet.TheVariants.{Plain, Config}
use Rattle.chassis.specs.declared.Step.{Step}
use Rattle.chassis.specs.declared.Step.TheVariants.{Stop, Cross}
use Rattle.chassis.specs.declared.Whereabouts.{Whereabouts}
use Rattle.chassis.specs.declared.Whereabouts.TheVariants.{Root, Into, From, Redirected, Type0, Type1}
use Rattle.ids.specs.Ids.{port_no}
use Rattle.chassis.specs.Chassis.{Chassis, is_own, holds, passes_at, lowest_at}
use Rattle.chassis.specs.Tree.{root, is_device_port}
use Rattle.chassis.specs.Walk.{target_of, decided, decides, downward, by_holders, sole_holder, device_or, come_to, upward, from_below, towards_root, under_type0, under_type1, next}
use Rattle.chassis.proofs.Ports.{Says, SoleBelow, lowest_two_says, passes_at_true}
use Rattle.chassis.proofs.Tree.{Sane, depth, depth_most, depth_parent, parent_lower}

-- how many crossings are left at most, and never more than 32
abbrev pub left : Chassis → Whereabouts → ℕ
left c Root = 16
left c (Into q) = 16 - depth c.tree q.0
left c (From q) = 16 + depth c.tree q.0
left c (Redirected q) = 16 + depth c.tree q.0
left c (Type0 q) = 16 - depth c.tree q.0
left c (Type1 q) = 16 - depth c.tree q.0

pub left_most : (c : Chassis) (w : Whereabouts) → left c w ≤ 32
left_most c Root = omega arith
left_most c (Into q) = omega arith
left_most c (From q) = omega (arith, depth_most c.tree q.0)
left_most c (Redirected q) = omega (arith, depth_most c.tree q.0)
left_most c (Type0 q) = omega arith
left_most c (Type1 q) = omega arith

abbrev pub IsPort : Chassis → PortNo → Type 0
IsPort c p = p.0 < c.tree.count

-- the packet is at the root or below a port that there is
abbrev pub Within : Chassis → Whereabouts → Type 0
Within c Root = Unit {0}
Within c (Into q) = IsPort c q
Within c (From q) = IsPort c q
Within c (Redirected q) = IsPort c q
Within c (Type0 q) = IsPort c q
Within c (Type1 q) = IsPort c q

-- every port that an end names is one that there is
abbrev pub NamesPorts : Chassis → End → Type 0
NamesPorts c (Device q function) = IsPort c q
NamesPorts c (Function p) = IsPort c p
NamesPorts c Host = Unit {0}
NamesPorts c (Unsupported q) = IsPort c q
NamesPorts c (Doubled p q) = IsPort c p × IsPort c q

-- a crossing of a port that there is, after which fewer than `most` crossings are left
pub record Nearer (c : Chassis) (most : ℕ) (p : PortNo) (v : Whereabouts) : Type 0 where
  pub crossed : IsPort c p
  pub within : Within c v
  pub fewer : left c v < most

-- a step that is such a crossing, or an end that names ports that there are
abbrev pub Goes : Chassis → ℕ → Step → Type 0
Goes c most (Stop e) = NamesPorts c e
Goes c most (Cross p v) = Nearer c most p v

module _ (c : Chassis) (most : ℕ) where
  by_holders_goes : (test : ℕ → Bool) (found : Holders) (sole : PortNo → Step) (none : Step) → Says test c.tree.count found
      → ((p : PortNo) → SoleBelow test c.tree.count p.0 → Goes c most (sole p)) → Goes c most none
      → Goes c most (by_holders found sole none)
  unfolding by_holders
  by_holders_goes test Nobody sole none says one nobody = nobody
  by_holders_goes test (Only p) sole none says one nobody = one p says
  by_holders_goes test (Both p q) sole none says one nobody = (omega arith, says.below)

  -- the ports to be crossed downward: there are such, and below them fewer crossings are left
  abbrev Crossable : PortNo → Type 0
  Crossable p = IsPort c p × (16 - depth c.tree p.0 < most)

  decided_goes : (p : PortNo) (conversion : Conversion) → Crossable p → Goes c most (decided p conversion)
  unfolding decided
  decided_goes p NotClaimed h = h.0
  decided_goes p AsType0 h = record { crossed = h.0; within = h.0; fewer = h.1 }
  decided_goes p AsType1 h = record { crossed = h.0; within = h.0; fewer = h.1 }
  decided_goes p Refuses h = h.0

  downward_goes : (packet : Packet) (p : PortNo) → Crossable p → Goes c most (downward c packet p)
  unfolding downward
  downward_goes (Plain t) p h = record { crossed = h.0; within = h.0; fewer = h.1 }
  downward_goes (Config rid) p h = decided_goes p (c.conversion p.0 (Id rid)) h

  sole_holder_goes : (packet : Packet) (p : PortNo) → Crossable p → Goes c most (sole_holder c packet p)
  unfolding sole_holder
  sole_holder_goes packet p h = go (is_own c (target_of packet) p.0)
    where
      go : (own : Bool) → Goes c most (cond own (Stop (Function p)) (downward c packet p))
      go true = h.0
      go false = downward_goes packet p h

  device_or_goes : (q : PortNo) (function : ℕ) → IsPort c q → Goes c most (device_or c q function)
  unfolding device_or
  device_or_goes q function l = go (is_device_port c.tree q.0)
    where
      go : (device : Bool) → Goes c most (cond device (Stop (Device q function)) (Stop (Unsupported q)))
      go true = l
      go false = l

module _ (c : Chassis) (sane : Sane c.tree) where
  -- below a port at a place fewer crossings are left than are at the place
  crossable : (most place : ℕ) (test : ℕ → Bool) (p : PortNo) → 16 - depth c.tree place ≤ most
      → SoleBelow (passes_at c place test) c.tree.count p.0 → Crossable c most p
  crossable most place test p room sole =
      let here = ((passes_at_true c place test p.0).0 sole.passes).0 in
      let deeper = rw here at (depth_parent c.tree sane p.0 sole.below) in
      (sole.below, omega (arith, depth_most c.tree p.0))

  -- a search at a place, and a step of whoever is found alone
  at_place_goes : (most place : ℕ) (test : ℕ → Bool) (sole : PortNo → Step) (none : Step) → 16 - depth c.tree place ≤ most
      → ((p : PortNo) → Crossable c most p → Goes c most (sole p)) → Goes c most none
      → Goes c most (by_holders (lowest_at c place test) sole none)
  at_place_goes most place test sole none room one nobody =
      by_holders_goes c most (passes_at c place test) (lowest_at c place test) sole none
      (lowest_two_says (passes_at c place test) c.tree.count)
      (λ p s. one p (crossable most place test p room s))
      nobody

  -- a port crossed upward, by a packet that is redirected or not
  come_to_goes : (redirected : Bool) (q : PortNo) → IsPort c q
      → Nearer c (16 + depth c.tree q.0) q (come_to redirected (c.tree.parent q.0))
  unfolding come_to
  come_to_goes redirected q l = go (eqb (c.tree.parent q.0) root) redirected refl
    where
      lower : eqb (c.tree.parent q.0) root ≡ false → c.tree.parent q.0 < c.tree.count
      lower e = let less = parent_lower c.tree sane q.0 l (eqb-false _ _ e) in omega arith

      go : (b up : Bool) → eqb (c.tree.parent q.0) root ≡ b
          → Nearer c (16 + depth c.tree q.0) q
          (cond b Root (cond up (Redirected (port_no (c.tree.parent q.0))) (From (port_no (c.tree.parent q.0)))))
      go true up e = record { crossed = l; within = tt; fewer = omega (arith, depth_parent c.tree sane q.0 l) }
      go false true e = record { crossed = l; within = lower e; fewer = omega (arith, depth_parent c.tree sane q.0 l) }
      go false false e = record { crossed = l; within = lower e; fewer = omega (arith, depth_parent c.tree sane q.0 l) }

  upward_goes : (t : Target) (q : PortNo) → IsPort c q → Goes c (16 + depth c.tree q.0) (upward c t q)
  unfolding upward
  upward_goes t q l = go (c.claims q.0 t)
    where
      go : (b : Bool)
          → Goes c (16 + depth c.tree q.0) (cond b (Stop (Unsupported q)) (Cross q (come_to false (c.tree.parent q.0))))
      go true = l
      go false = come_to_goes false q l

  from_below_goes : (packet : Packet) (q : PortNo) → IsPort c q → Goes c (left c (From q)) (from_below c packet q)
  unfolding from_below
  from_below_goes (Plain t) q l =
      at_place_goes _ q.0 (holds c t) (sole_holder c (Plain t)) _ (omega arith) (sole_holder_goes c _ (Plain t))
      (upward_goes t q l)
  from_below_goes (Config rid) q l = l

  -- wherever the packet is
  pub next_goes : (packet : Packet) (w : Whereabouts) → Within c w → Goes c (left c w) (next c packet w)
  unfolding next towards_root under_type0 under_type1
  next_goes packet Root l =
      at_place_goes _ root (holds c (target_of packet)) (sole_holder c packet) (Stop Host) (omega arith) (sole_holder_goes c _ packet) tt
  next_goes packet (Into q) l =
      at_place_goes _ q.0 (holds c (target_of packet)) (sole_holder c packet) _ (omega arith) (sole_holder_goes c _ packet)
      (device_or_goes c _ q 0 l)
  next_goes packet (From q) l = from_below_goes packet q l
  next_goes packet (Redirected q) l = come_to_goes true q l
  next_goes packet (Type0 q) l =
      at_place_goes _ q.0 (is_own c (target_of packet)) (λ p. Stop (Function p)) _ (omega arith) (λ p h. h.0) (device_or_goes c _ q _ l)
  next_goes packet (Type1 q) l =
      at_place_goes _ q.0 (λ p. c.claims p (target_of packet)) (decides c (target_of packet)) _ (omega arith)
      (λ p h. decided_goes c _ p _ h) l

  -- a crossing crosses a port that there is, stays within, and leaves fewer crossings
  pub crossing_goes : (packet : Packet) (w v : Whereabouts) (p : PortNo) → Within c w → next c packet w ≡ Cross p v
      → Nearer c (left c w) p v
  crossing_goes packet w v p l e = subst (Goes c (left c w)) e (next_goes packet w l)

  -- an end names ports that there are
  pub stop_names_ports : (packet : Packet) (w : Whereabouts) (e : End) → Within c w → next c packet w ≡ Stop e → NamesPorts c e
  stop_names_ports packet w e l stops = subst (Goes c (left c w)) stops (next_goes packet w l)
