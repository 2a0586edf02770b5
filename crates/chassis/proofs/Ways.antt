-- The part of a walk that lies behind a packet.
use Prim.Native.Nat.{◌+◌, ◌≤◌, ◌<◌}
use mathlib.Core.List.{List, ◌++◌, append_assoc, append-nil}
use mathlib.Core.Path.{◌≡◌}
use native.Mathlib.Omega.{arith}
use lib.ListN.{length, length-append}
use Rattle.ids.specs.declared.PortNo.{PortNo}
use Rattle.chassis.specs.declared.End.{End}
use Rattle.chassis.specs.declared.Packet.{Packet}
use Rattle.chassis.specs.declared.Step.TheVariants.{Stop, Cross}
use Rattle.chassis.specs.declared.Whereabouts.{Whereabouts}
use Rattle.chassis.specs.Chassis.{Chassis}
use Rattle.chassis.specs.OneEnd.{Came, starts, crosses}
use Rattle.chassis.specs.Walk.{next, Walk, ends, goes}
use Rattle.chassis.proofs.Tree.{Sane}
use Rattle.chassis.proofs.Steps.{left, left_most, Within, crossing_goes}

-- the way behind and the walk ahead are one walk
pub came_then : {c : Chassis} {packet : Packet} {w v : Whereabouts} {path rest : List PortNo} {e : End} → Came c packet w path v
    → Walk c packet v rest e → Walk c packet w (path ++ rest) e
came_then starts on = on
came_then (crosses came s) on = rw append_assoc (came_then came (goes s on))

-- where it ends, the way behind is the whole walk
pub came_ends : {c : Chassis} {packet : Packet} {w v : Whereabouts} {path : List PortNo} {e : End} → Came c packet w path v
    → next c packet v ≡ Stop e → Walk c packet w path e
came_ends came s = rw append-nil at (came_then came (ends s))

module _ (c : Chassis) (packet : Packet) (sane : Sane c.tree) where
  pub came_within : {w v : Whereabouts} {path : List PortNo} → Within c w → Came c packet w path v → Within c v
  came_within l starts = l
  came_within l (crosses came s) = (crossing_goes c sane packet _ _ _ (came_within l came) s).within

  -- every crossing is one fewer that is left
  pub came_left : {w v : Whereabouts} {path : List PortNo} → Within c w → Came c packet w path v
      → length path + left c v ≤ left c w
  came_left l starts = omega arith
  came_left l (crosses {path = path} came s) =
      let near = crossing_goes c sane packet _ _ _ (came_within l came) s in
      simp length-append (omega (arith, came_left l came, near.fewer))

  -- before a crossing fewer than 32 ports have been crossed
  pub came_room : {w v u : Whereabouts} {p : PortNo} {path : List PortNo} → Within c w → Came c packet w path v
      → next c packet v ≡ Cross p u → length path < 32
  came_room {w} l came s =
      let near = crossing_goes c sane packet _ _ _ (came_within l came) s in
      omega (arith, came_left l came, near.fewer, left_most c w)
