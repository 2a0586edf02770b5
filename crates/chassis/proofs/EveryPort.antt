-- Item 7 of 02: where the own ID of a port is neither shared nor astray, is not taken, and is not lost, a configuration request from the
-- host for it ends at that port's Function. Assumes that a port makes something of a request for an ID that it claims.
use Prim.Native.Nat.{ℕ, ◌<◌}
use mathlib.Core.Bool.{Bool, true, false}
use mathlib.Core.List.{List, [], ◌∷◌}
use mathlib.Core.Path.{◌≡◌, refl}
use native.Mathlib.Decide.{ℕ_discrete}
use native.Mathlib.Omega.{arith}
use borrow.Author.Tests.{eq-eqb, ne_eqb, not-false}
use Rattle.ids.specs.declared.PortNo.{PortNo}
use Rattle.ids.specs.declared.Rid.{Rid}
use Rattle.ids.specs.declared.Target.{Target}
use Rattle.ids.specs.declared.Target.TheVariants.{Id}
use Rattle.ids.specs.Ids.{port_no}
use Rattle.chassis.specs.declared.Conversion.{Conversion}
use Rattle.chassis.specs.declared.Conversion.TheVariants.{NotClaimed, Type0 as AsType0, Type1 as AsType1, Unsupported as Refuses}
use Rattle.chassis.specs.declared.End.{End}
use Rattle.chassis.specs.declared.End.TheVariants.{Function}
use Rattle.chassis.specs.declared.Fault.TheVariants.{Taken}
use Rattle.chassis.specs.declared.Packet.TheVariants.{Config}
use Rattle.chassis.specs.declared.Step.TheVariants.{Stop, Cross}
use Rattle.chassis.specs.declared.Whereabouts.{Whereabouts}
use Rattle.chassis.specs.declared.Whereabouts.TheVariants.{Root, Type0, Type1}
use Rattle.chassis.specs.Chassis.{Chassis, is_own}
use Rattle.chassis.specs.Check.{is_type0, own_id_lost, takes, faulty}
use Rattle.chassis.specs.Tree.{root_port}
use Rattle.chassis.specs.Walk.{decided, decides, downward, by_holders, sole_holder, under_type0, under_type1, next, Walk, ends, goes}
use Rattle.chassis.proofs.Bools.{never_both_values, and_true_parts}
use Rattle.chassis.proofs.CheckLaws.{taken_shown}
use Rattle.chassis.proofs.Clean.{Clean, claimed_held, own_held, sole_that_passes, sole_where_it_stands, claimed_not_own, held_claimed_above}
use Rattle.chassis.proofs.Tree.{Sane, root_port_parent, other_parent, by_parents}

-- a port whose own ID is not lost, and that is no root port, has a parent that makes it Type 0
own_type0 : (c : Chassis) (p : ℕ) → own_id_lost c p ≡ false → (c.tree.kind p ≡ root_port → ⊥)
    → is_type0 (c.conversion (c.tree.parent p) (Id (record { 0 = c.own_id p }))) ≡ true
unfolding own_id_lost
own_type0 c p kept lower =
    let made = not-false _ (rw (ne_eqb (c.tree.kind p) root_port lower) at kept) in
    (and_true_parts (c.claims (c.tree.parent p) (Id (record { 0 = c.own_id p }))) _ made).1

-- a conversion by which a port passes a request on, and one by which it is found below it
type1_left : (made : Conversion) → (made ≡ NotClaimed → ⊥) → takes made ≡ false → made ≡ AsType1
type1_left NotClaimed claimed untaken = absurd (claimed refl)
type1_left AsType0 claimed untaken = never_both_values true refl untaken
type1_left AsType1 claimed untaken = refl
type1_left Refuses claimed untaken = never_both_values true refl untaken

type0_is : (made : Conversion) → is_type0 made ≡ true → made ≡ AsType0
type0_is NotClaimed e = never_both_values false e refl
type0_is AsType0 e = refl
type0_is AsType1 e = never_both_values false e refl
type0_is Refuses e = never_both_values false e refl

-- a port that the request crosses when it comes to it, on the way to its end
record Leads (c : Chassis) (rid : Rid) (e : End) (q : ℕ) : Type 0 where
  to : Whereabouts
  crosses : decides c (Id rid) (port_no q) ≡ Cross (port_no q) to
  path : List PortNo
  walk : Walk c (Config rid) to path e

-- the host's request comes to this end
pub record HostFinds (c : Chassis) (rid : Rid) (e : End) : Type 0 where
  pub path : List PortNo
  pub walk : Walk c (Config rid) Root path e

module _
    (c : Chassis)
    (sane : Sane c.tree)
    (converts : (q : ℕ) (rid : Rid) → c.claims q (Id rid) ≡ true → c.conversion q (Id rid) ≡ NotClaimed → ⊥)
    (rid : Rid)
    (clean : Clean c (Id rid))
    (untaken : faulty Taken c (Id rid) ≡ false)
    (e : End)
  where
    abbrev t : Target
    t = Id rid

    -- a port above one that claims the ID passes the request on to it
    passes_on : (q : ℕ) → q < c.tree.count → (c.tree.kind q ≡ root_port → ⊥) → c.claims q t ≡ true
        → c.conversion (c.tree.parent q) t ≡ AsType1
    passes_on q l lower claims = type1_left (c.conversion (c.tree.parent q) t) claimed (go (takes (c.conversion (c.tree.parent q) t)) refl)
      where
        claimed : c.conversion (c.tree.parent q) t ≡ NotClaimed → ⊥
        claimed = converts (c.tree.parent q) rid (held_claimed_above c t clean q l lower (claimed_held c t q claims))

        go : (b : Bool) → takes (c.conversion (c.tree.parent q) t) ≡ b → takes (c.conversion (c.tree.parent q) t) ≡ false
        go false is = is
        go true is = never_both_values (faulty Taken c t) (taken_shown c rid q l lower claims is) untaken

    leads_above : (q : ℕ) → q < c.tree.count → (c.tree.kind q ≡ root_port → ⊥) → c.claims q t ≡ true → Leads c rid e q
        → Leads c rid e (c.tree.parent q)
    unfolding next decided under_type1 by_holders
    leads_above q l lower claims leads =
        let sole = sole_that_passes c t clean (λ p. c.claims p t) (claimed_held c t) q l claims in
        let on : next c (Config rid) (Type1 (port_no (c.tree.parent q))) ≡ Cross (port_no q) leads.to = rw sole leads.crosses in
        record {
          to = Type1 (port_no (c.tree.parent q));
          crosses = rw (passes_on q l lower claims);
          path = port_no q ∷ leads.path;
          walk = goes on leads.walk;
        }

    -- from the host the request comes to a port that claims the ID and leads on
    abbrev FromHost : ℕ → Type 0
    FromHost q = c.claims q t ≡ true → Leads c rid e q → HostFinds c rid e

    from_host_at_root : (q : ℕ) → q < c.tree.count → c.tree.kind q ≡ root_port → FromHost q
    unfolding next by_holders sole_holder downward
    from_host_at_root q l top claims leads =
        let sole = rw (root_port_parent c.tree sane q l top) at (sole_where_it_stands c t clean q l (claimed_held c t q claims)) in
        let crossing : next c (Config rid) Root ≡ Cross (port_no q) leads.to = rw sole (rw (claimed_not_own c t clean q l claims) leads.crosses) in
        record { path = port_no q ∷ leads.path; walk = goes crossing leads.walk }

    from_host_below : (q : ℕ) → q < c.tree.count → (c.tree.kind q ≡ root_port → ⊥) → FromHost (c.tree.parent q) → FromHost q
    from_host_below q l lower up claims leads =
        up (held_claimed_above c t clean q l lower (claimed_held c t q claims)) (leads_above q l lower claims leads)

    from_host : (q : ℕ) → q < c.tree.count → FromHost q
    from_host = by_parents c.tree sane FromHost from_host_at_root from_host_below

-- the own ID of a port
module _
    (c : Chassis)
    (sane : Sane c.tree)
    (converts : (q : ℕ) (rid : Rid) → c.claims q (Id rid) ≡ true → c.conversion q (Id rid) ≡ NotClaimed → ⊥)
    (p : ℕ)
    (l : p < c.tree.count)
    (clean : Clean c (Id (record { 0 = c.own_id p })))
    (untaken : faulty Taken c (Id (record { 0 = c.own_id p })) ≡ false)
    (kept : own_id_lost c p ≡ false)
  where
    abbrev rid : Rid
    rid = record { 0 = c.own_id p }

    own : is_own c (Id rid) p ≡ true
    own = eq-eqb (c.own_id p) (c.own_id p) refl

    -- a root port is found at once
    found_at_root : c.tree.kind p ≡ root_port → HostFinds c rid (Function (port_no p))
    unfolding next by_holders sole_holder
    found_at_root top =
        let sole = rw (root_port_parent c.tree sane p l top) at (sole_where_it_stands c (Id rid) clean p l (own_held c (Id rid) p own)) in
        let stops : next c (Config rid) Root ≡ Stop (Function (port_no p)) = rw sole (rw own) in
        record { path = []; walk = ends stops }

    -- and any other by its parent
    parent_leads : (c.tree.kind p ≡ root_port → ⊥) → Leads c rid (Function (port_no p)) (c.tree.parent p)
    unfolding next decided under_type0 by_holders
    parent_leads lower =
        let sole = sole_that_passes c (Id rid) clean (is_own c (Id rid)) (own_held c (Id rid)) p l own in
        let stops : next c (Config rid) (Type0 (port_no (c.tree.parent p))) ≡ Stop (Function (port_no p)) = rw sole in
        record {
          to = Type0 (port_no (c.tree.parent p));
          crosses = rw (type0_is (c.conversion (c.tree.parent p) (Id rid)) (own_type0 c p kept lower));
          path = [];
          walk = ends stops;
        }

    pub host_finds : HostFinds c rid (Function (port_no p))
    host_finds = go (ℕ_discrete (c.tree.kind p) root_port)
      where
        go : Dec (c.tree.kind p ≡ root_port) → HostFinds c rid (Function (port_no p))
        go (yes top) = found_at_root top
        go (no lower) =
            let less = other_parent c.tree sane p l lower in
            let claimed = held_claimed_above c (Id rid) clean p l lower (own_held c (Id rid) p own) in
            from_host c sane converts rid clean untaken (Function (port_no p)) (c.tree.parent p) (omega arith) claimed (parent_leads lower)
