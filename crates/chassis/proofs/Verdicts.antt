-- What each verdict of the check says: its row of the table applies and none before it does, with the least target, the first pair and
-- the lowest port. No other verdict says so of the same chassis, so each is given exactly if it is true.
use Prim.Native.Nat.{ℕ, ◌<◌, ◌^◌, zero-le}
use mathlib.Core.Bool.{Bool, true, false}
use mathlib.Core.Logic.{◌↔◌}
use mathlib.Core.Path.{◌≡◌, refl, sym, ◌∙◌, ap, subst}
use native.Mathlib.Decide.{dec_lt}
use native.Mathlib.Omega.{arith}
use Rattle.ids.specs.declared.PortNo.{PortNo}
use Rattle.ids.specs.declared.Space.TheVariants.{Ids, Addresses}
use Rattle.ids.specs.declared.Target.{Target}
use Rattle.ids.specs.declared.Target.TheVariants.{Id, Addr}
use Rattle.ids.specs.Ids.{port_no}
use Rattle.least.specs.Least.{first_in}
use Rattle.least.proofs.Laws.{LeastAt as FirstAt, Least, of_range}
use Rattle.chassis.specs.declared.Fault.{Fault}
use Rattle.chassis.specs.declared.Fault.TheVariants.{Shared, Stray, Taken}
use Rattle.chassis.specs.declared.Hold.{Hold}
use Rattle.chassis.specs.declared.Verdict.{Verdict}
use Rattle.chassis.specs.declared.Verdict.TheVariants.{Clear, Shared as Found-as-Shared, Stray as Found-as-Stray, Lost, Taken as Found-as-Taken}
use Rattle.chassis.specs.Chassis.{Chassis, hold_of, target_in}
use Rattle.chassis.specs.Check.{clash, clashes_with, own_id_lost, at_fault, faulty, least_target, found, lowest_port, first_of_pair, verdict_at, at_least, lost_at, row_of, or_next, verdict_of}
use Rattle.chassis.specs.Findings.{Lowest, Earlier, LeastAt, NoneWith, NoneLost, ItsHold, Says}
use Rattle.chassis.specs.OneEnd.{InRange}
use Rattle.chassis.specs.Tree.{any_below}
use Rattle.chassis.proofs.Bools.{never_both_values}
use Rattle.chassis.proofs.CheckLaws.{no_address_taken}
use Rattle.chassis.proofs.LeastTarget.{least_target_is}
use Rattle.chassis.proofs.Ports.{any_below_true}
use Rattle.std.specs.Prelude.{Option, Some, None}

-- where some port passes, the lowest does
lowest_found : (c : Chassis) (test : ℕ → Bool) → any_below test c.tree.count ≡ true → Lowest test c.tree.count (lowest_port c test)
lowest_found c test some = go (first_in test 0 c.tree.count) (of_range test 0 c.tree.count)
  where
    go : (f : Option ℕ) → Least test 0 c.tree.count f → Lowest test c.tree.count (found f)
    go (Some p) a = record { below = a.below; passes = a.holds; first = λ q l. a.first.none q zero-le l }
    go None none =
        let one = (any_below_true test c.tree.count).0 some in
        never_both_values _ one.passes (none.none one.number zero-le one.below)

module _ (c : Chassis) (fault : Fault) where
  at_fault_lem : (t : Target) → faulty fault c t ≡ true → Lowest (at_fault fault c t) c.tree.count (lowest_port c (at_fault fault c t))
  unfolding faulty
  at_fault_lem t some = lowest_found c (at_fault fault c t) some

  -- the least of a space is the least of all where the space is that of IDs, or no ID is faulty
  least_id : (n : ℕ) → least_target (faulty fault c) Ids ≡ Some n
      → LeastAt fault c (target_in Ids n) (lowest_port c (at_fault fault c (target_in Ids n)))
  least_id n e = record { in_range = least.below; passes = least.holds; first = first; port = at_fault_lem (target_in Ids n) least.holds }
    where
      least : FirstAt (λ (m : ℕ). faulty fault c (target_in Ids m)) 0 (2 ^ 16) n
      least = (least_target_is (faulty fault c) Ids (Some n)).0 e

      first : (u : Target) → Earlier u (target_in Ids n) → faulty fault c u ≡ false
      first (Id m) l = least.first.none m.0 zero-le l
      first (Addr a) none = absurd none

  least_address : (n : ℕ) → least_target (faulty fault c) Ids ≡ None → least_target (faulty fault c) Addresses ≡ Some n
      → LeastAt fault c (target_in Addresses n) (lowest_port c (at_fault fault c (target_in Addresses n)))
  least_address n none e =
      record { in_range = least.below; passes = least.holds; first = first; port = at_fault_lem (target_in Addresses n) least.holds }
    where
      least : FirstAt (λ (m : ℕ). faulty fault c (target_in Addresses m)) 0 (2 ^ 64) n
      least = (least_target_is (faulty fault c) Addresses (Some n)).0 e

      first : (u : Target) → Earlier u (target_in Addresses n) → faulty fault c u ≡ false
      first (Id m) l = ((least_target_is (faulty fault c) Ids None).0 none).none m.0 zero-le l
      first (Addr a) l = least.first.none a zero-le l

  none_with : least_target (faulty fault c) Ids ≡ None → least_target (faulty fault c) Addresses ≡ None → NoneWith fault c
  none_with no-id no_address (Id rid) l = ((least_target_is (faulty fault c) Ids None).0 no-id).none rid.0 zero-le l
  none_with no-id no_address (Addr a) l = ((least_target_is (faulty fault c) Addresses None).0 no_address).none a zero-le l

module _ (c : Chassis) where
  shared_at : (t : Target) → LeastAt Shared c t (first_of_pair c t) → Says c (verdict_at c Shared t)
  unfolding clashes_with
  shared_at t least = (least, lowest_found c (clash c t (first_of_pair c t).0) least.port.passes, refl, refl)

  none_taken : least_target (faulty Taken c) Ids ≡ None → NoneWith Taken c
  none_taken no-id (Id rid) l = ((least_target_is (faulty Taken c) Ids None).0 no-id).none rid.0 zero-le l
  none_taken no-id (Addr a) l = no_address_taken c a

  module _ (unshared : NoneWith Shared c) (unstrayed : NoneWith Stray c) where
    of_each : NoneWith Taken c → (fault : Fault) → NoneWith fault c
    of_each untaken Shared = unshared
    of_each untaken Stray = unstrayed
    of_each untaken Taken = untaken

    taken_at : (g : Option ℕ) → NoneLost c → least_target (faulty Taken c) Ids ≡ g → Says c (or_next (at_least c Taken Ids g) Clear)
    unfolding or_next
    taken_at (Some n) kept e = (unshared, unstrayed, kept, least_id c Taken n e, refl)
    taken_at None kept e = (of_each (none_taken e), kept)

    lost_at_lem : (f g : Option ℕ) → Least (own_id_lost c) 0 c.tree.count f → least_target (faulty Taken c) Ids ≡ g
        → Says c (or_next (lost_at f) (or_next (at_least c Taken Ids g) Clear))
    unfolding or_next
    lost_at_lem (Some p) g a e = (unshared, unstrayed, record { below = a.below; passes = a.holds; first = λ q l. a.first.none q zero-le l })
    lost_at_lem None g kept e = taken_at g (λ p l. kept.none p zero-le l) e

  -- the verdict says of the chassis what its row of the table says
  pub verdict_says : Says c (verdict_of c)
  unfolding verdict_of row_of or_next
  verdict_says =
      go (least_target (faulty Shared c) Ids) (least_target (faulty Shared c) Addresses) (least_target (faulty Stray c) Ids)
      (least_target (faulty Stray c) Addresses) refl refl refl refl
    where
      go : (a b d e : Option ℕ) → least_target (faulty Shared c) Ids ≡ a → least_target (faulty Shared c) Addresses ≡ b
          → least_target (faulty Stray c) Ids ≡ d → least_target (faulty Stray c) Addresses ≡ e
          → Says c
          (or_next (at_least c Shared Ids a)
          (or_next (at_least c Shared Addresses b)
          (or_next (at_least c Stray Ids d)
          (or_next (at_least c Stray Addresses e)
          (or_next (lost_at (first_in (own_id_lost c) 0 c.tree.count))
          (or_next (at_least c Taken Ids (least_target (faulty Taken c) Ids)) Clear))))))
      go (Some n) b d e ea eb ed ee = shared_at (target_in Ids n) (least_id c Shared n ea)
      go None (Some n) d e ea eb ed ee = shared_at (target_in Addresses n) (least_address c Shared n ea eb)
      go None None (Some n) e ea eb ed ee = (none_with c Shared ea eb, least_id c Stray n ed, refl)
      go None None None (Some n) ea eb ed ee = (none_with c Shared ea eb, least_address c Stray n ed ee, refl)
      go None None None None ea eb ed ee =
          lost_at_lem (none_with c Shared ea eb) (none_with c Stray ed ee) (first_in (own_id_lost c) 0 c.tree.count) (least_target (faulty Taken c) Ids)
          (of_range (own_id_lost c) 0 c.tree.count) refl

lowest_one : {test : ℕ → Bool} {n : ℕ} {p q : PortNo} → Lowest test n p → Lowest test n q → p ≡ q
lowest_one {p = p} {q} x y = ap port_no (go (dec_lt p.0 q.0) (dec_lt q.0 p.0))
  where
    go : Dec (p.0 < q.0) → Dec (q.0 < p.0) → p.0 ≡ q.0
    go (yes l) d = never_both_values _ x.passes (y.first p.0 l)
    go (no l) (yes k) = never_both_values _ y.passes (x.first q.0 k)
    go (no l) (no k) = omega arith

-- two targets of which neither comes before the other are one
in_order : (t u : Target) → InRange t → InRange u → (Earlier t u → ⊥) → (Earlier u t → ⊥) → t ≡ u
in_order (Id m) (Id n) l k a b = ap (λ (i : ℕ). Id (record { 0 = i })) (omega arith)
in_order (Id m) (Addr n) l k a b = absurd (a l)
in_order (Addr m) (Id n) l k a b = absurd (b k)
in_order (Addr m) (Addr n) l k a b = ap Addr (omega arith)

module _ (c : Chassis) where
  least_one : {fault : Fault} {t u : Target} {p q : PortNo} → LeastAt fault c t p → LeastAt fault c u q → (t ≡ u) × (p ≡ q)
  least_one {t = t} {u} {q = q} x y =
      let same : t ≡ u =
      in_order t u x.in_range y.in_range (λ l. never_both_values _ x.passes (y.first t l)) (λ l. never_both_values _ y.passes (x.first u l)) in
      (same, lowest_one x.port (rw same y.port))

  not_least : {A : Type 0} {fault : Fault} {t : Target} {p : PortNo} → LeastAt fault c t p → NoneWith fault c → A
  not_least {t = t} x none = never_both_values _ x.passes (none t x.in_range)

  not_lowest : {A : Type 0} {p : PortNo} → Lowest (own_id_lost c) c.tree.count p → NoneLost c → A
  not_lowest {p = p} x kept = never_both_values _ x.passes (kept p.0 x.below)

  -- the hold of one port on one target is one
  hold_one : (t u : Target) (h k : Hold) → t ≡ u → h.port ≡ k.port → ItsHold c t h → ItsHold c u k → h ≡ k
  hold_one t u h k same port x y = x ∙ (λ i. hold_of c (same i) (port i).0) ∙ sym y

  says_one : (v w : Verdict) → Says c v → Says c w → v ≡ w
  says_one (Found-as-Shared t p q) (Found-as-Shared u r s) x y =
      let same = least_one x.0 y.0 in
      let second : q.port ≡ s.port = lowest_one x.1 (rw (same.0, same.1) y.1) in
      cc (same.0, hold_one t u p r same.0 same.1 x.2 y.2, hold_one t u q s same.0 second x.3 y.3)
  says_one (Found-as-Shared t p q) (Found-as-Stray u r) x y = not_least x.0 y.0
  says_one (Found-as-Shared t p q) (Lost r) x y = not_least x.0 y.0
  says_one (Found-as-Shared t p q) (Found-as-Taken u r) x y = not_least x.0 y.0
  says_one (Found-as-Shared t p q) Clear x y = not_least x.0 (y.0 Shared)
  says_one (Found-as-Stray t p) (Found-as-Shared u r s) x y = not_least y.0 x.0
  says_one (Found-as-Stray t p) (Found-as-Stray u r) x y =
      let same = least_one x.1 y.1 in
      cc (same.0, hold_one t u p r same.0 same.1 x.2 y.2)
  says_one (Found-as-Stray t p) (Lost r) x y = not_least x.1 y.1
  says_one (Found-as-Stray t p) (Found-as-Taken u r) x y = not_least x.1 y.1
  says_one (Found-as-Stray t p) Clear x y = not_least x.1 (y.0 Stray)
  says_one (Lost p) (Found-as-Shared u r s) x y = not_least y.0 x.0
  says_one (Lost p) (Found-as-Stray u r) x y = not_least y.1 x.1
  says_one (Lost p) (Lost r) x y = ap Lost (lowest_one x.2 y.2)
  says_one (Lost p) (Found-as-Taken u r) x y = not_lowest x.2 y.2
  says_one (Lost p) Clear x y = not_lowest x.2 y.1
  says_one (Found-as-Taken t p) (Found-as-Shared u r s) x y = not_least y.0 x.0
  says_one (Found-as-Taken t p) (Found-as-Stray u r) x y = not_least y.1 x.1
  says_one (Found-as-Taken t p) (Lost r) x y = not_lowest y.2 x.2
  says_one (Found-as-Taken t p) (Found-as-Taken u r) x y =
      let same = least_one x.3 y.3 in
      cc (same.0, hold_one t u p r same.0 same.1 x.4 y.4)
  says_one (Found-as-Taken t p) Clear x y = not_least x.3 (y.0 Taken)
  says_one Clear (Found-as-Shared u r s) x y = not_least y.0 (x.0 Shared)
  says_one Clear (Found-as-Stray u r) x y = not_least y.1 (x.0 Stray)
  says_one Clear (Lost r) x y = not_lowest y.2 x.1
  says_one Clear (Found-as-Taken u r) x y = not_least y.3 (x.0 Taken)
  says_one Clear Clear x y = refl

  -- each verdict is given exactly if what it says is so
  pub verdict_exactly : (v : Verdict) → (verdict_of c ≡ v) ↔ Says c v
  verdict_exactly v = (λ e. subst (Says c) e (verdict_says c), λ says. says_one (verdict_of c) v (verdict_says c) says)
