-- From everywhere there is one walk, and it is short.
use Prim.Native.Nat.{ℕ, zero, suc, ◌<◌, ◌≤◌}
use mathlib.Core.List.{List, [], ◌∷◌}
use mathlib.Core.Path.{◌≡◌, refl, subst}
use native.Mathlib.Nat.{le_refl}
use native.Mathlib.Omega.{arith}
use lib.ListN.{length}
use Rattle.least.proofs.Laws.{impossible}
use Rattle.ids.specs.declared.PortNo.{PortNo}
use Rattle.chassis.specs.declared.End.{End}
use Rattle.chassis.specs.declared.Packet.{Packet}
use Rattle.chassis.specs.declared.Step.{Step}
use Rattle.chassis.specs.declared.Step.TheVariants.{Stop, Cross}
use Rattle.chassis.specs.declared.Whereabouts.{Whereabouts}
use Rattle.chassis.specs.Chassis.{Chassis}
use Rattle.chassis.specs.Walk.{next, Walk, ends, goes}
use Rattle.chassis.proofs.Tree.{Sane}
use Rattle.chassis.proofs.Steps.{left, IsPort, Within, NamesPorts, crossing_goes, stop_names_ports}

-- the ports crossed and the end are determined by where the packet is
pub walk_one : {c : Chassis} {packet : Packet} {w : Whereabouts} {path path' : List PortNo} {e e' : End}
    → Walk c packet w path e → Walk c packet w path' e' → (path ≡ path') × (e ≡ e')
walk_one (ends s) (ends s') = (refl, cc)
walk_one (ends s) (goes s' k') = (cc, cc)
walk_one (goes s k) (ends s') = (cc, cc)
walk_one {c} {packet} (goes {v = v} s k) (goes {v = v'} {path = path'} {e = e'} s' k') =
    let same : v' ≡ v = cc in
    let rest = walk_one k (subst (λ (u : Whereabouts). Walk c packet u path' e') same k') in
    (cc rest.0, rest.1)

-- what is ahead of a packet once it has crossed the next port
pub walk_rest : {c : Chassis} {packet : Packet} {w v : Whereabouts} {p : PortNo} {path : List PortNo} {e : End}
    → next c packet w ≡ Cross p v → Walk c packet w path e → (rest : List PortNo) × Walk c packet v rest e
walk_rest s (ends s') =
    impossible (cc)
walk_rest {c} {packet} {v = v} {e = e} s (goes {v = u} {path = rest} s' k) =
    let same : u ≡ v = cc in
    (rest, subst (λ (x : Whereabouts). Walk c packet x rest e) same k)

-- every port of a path is one that there is
abbrev pub ArePorts : Chassis → List PortNo → Type 0
ArePorts c [] = Unit {0}
ArePorts c (p ∷ path) = IsPort c p × ArePorts c path

pub record Arrival (c : Chassis) (packet : Packet) (w : Whereabouts) : Type 0 where
  pub path : List PortNo
  pub end : End
  pub walk : Walk c packet w path end

module _ (c : Chassis) (packet : Packet) (sane : Sane c.tree) where
  -- a walk crosses no more ports than are left
  pub walk_short : {w : Whereabouts} {path : List PortNo} {e : End} → Within c w → Walk c packet w path e
      → length path ≤ left c w
  walk_short l (ends s) = omega arith
  walk_short l (goes s k) =
      let near = crossing_goes c sane packet _ _ _ l s in
      omega (arith, walk_short near.within k, near.fewer)

  -- it names and crosses ports that there are
  pub walk_names_ports : {w : Whereabouts} {path : List PortNo} {e : End} → Within c w → Walk c packet w path e → NamesPorts c e
  walk_names_ports l (ends s) = stop_names_ports c sane packet _ _ l s
  walk_names_ports l (goes s k) = walk_names_ports (crossing_goes c sane packet _ _ _ l s).within k

  pub walk_crosses_ports : {w : Whereabouts} {path : List PortNo} {e : End} → Within c w → Walk c packet w path e
      → ArePorts c path
  walk_crosses_ports l (ends s) = tt
  walk_crosses_ports l (goes s k) =
      let near = crossing_goes c sane packet _ _ _ l s in
      (near.crossed, walk_crosses_ports near.within k)

  arrives : (fuel : ℕ) (w : Whereabouts) → Within c w → left c w < fuel → Arrival c packet w
  arrives zero w l room = absurd (omega arith)
  arrives (suc fuel) w l room = go (next c packet w) refl (arrives fuel)
    where
      go : (step : Step) → next c packet w ≡ step → ((v : Whereabouts) → Within c v → left c v < fuel → Arrival c packet v)
          → Arrival c packet w
      go (Stop e) s on = record { path = []; end = e; walk = ends s }
      go (Cross p v) s on =
          let near = crossing_goes c sane packet w v p l s in
          let rest = on v near.within (omega (arith, near.fewer)) in
          record { path = p ∷ rest.path; end = rest.end; walk = goes s rest.walk }

  -- there is a walk from everywhere
  pub walk_exists : (w : Whereabouts) → Within c w → Arrival c packet w
  walk_exists w l = arrives (suc (left c w)) w l (le_refl _)
