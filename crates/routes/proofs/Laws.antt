-- A walk under way: what the loop keeps, what each crossing needs and leaves, and what it has come to at the end.
-- Assumes nothing.
use Prim.Native.Nat.{◌<◌}
use mathlib.Core.List.{List, [], ◌∷◌, ◌++◌}
use mathlib.Core.Path.{◌≡◌, ap, ◌∙◌}
use lib.ListN.{length}
use Rattle.ids.specs.declared.PortNo.{PortNo}
use Rattle.chassis.specs.declared.End.{End}
use Rattle.chassis.specs.declared.Packet.{Packet}
use Rattle.chassis.specs.declared.Step.TheVariants.{Stop, Cross}
use Rattle.chassis.specs.declared.Whereabouts.{Whereabouts}
use Rattle.chassis.specs.Chassis.{Chassis}
use Rattle.chassis.specs.Walk.{next}
use Rattle.chassis.proofs.Steps.{left, Within, crossing_goes}
use Rattle.chassis.proofs.Tree.{Sane}
use Rattle.chassis.specs.OneEnd.{Came, starts, crosses}
use Rattle.chassis.proofs.Ways.{came_ends, came_within, came_room}
use Rattle.paths.specs.declared.Path.{Path}
use Rattle.paths.specs.Paths.{path_of, extended}
use Rattle.paths.proofs.Laws.{extended_is}
use Rattle.routes.specs.Routes.{Arrives}

pub record Underway (c : Chassis) (packet : Packet) (start : Whereabouts) (path : Path) (w : Whereabouts) : Type 0 where
  pub crossed : List PortNo
  pub came : Came c packet start crossed w
  pub named : path ≡ path_of crossed

pub sets_out : (c : Chassis) (packet : Packet) (start : Whereabouts) (path : Path) → path ≡ path_of [] → Underway c packet start path start
sets_out c packet start path none = record { crossed = []; came = starts; named = none }

pub arrives : {c : Chassis} {packet : Packet} {start w : Whereabouts} {path : Path} {e : End} → Underway c packet start path w
    → next c packet w ≡ Stop e → Arrives c packet start (record { path = path; end = e })
arrives on stop = record { crossed = on.crossed; walk = came_ends on.came stop; named = on.named }

module _ (c : Chassis) (packet : Packet) (sane : Sane c.tree) {start w v : Whereabouts} {path : Path} {p : PortNo}
    (within : Within c start) (on : Underway c packet start path w) (cross : next c packet w ≡ Cross p v) where
  few_crossed : length on.crossed < 32
  few_crossed = came_room c packet sane within on.came cross

  pub room : path.count < 32
  unfolding path_of
  room = rw on.named few_crossed

  pub nearer : left c v < left c w
  nearer = (crossing_goes c sane packet w v p (came_within c packet sane within on.came) cross).fewer

  pub goes_on : {next-path : Path} → next-path ≡ extended path p → Underway c packet start next-path v
  goes_on e =
      record {
        crossed = on.crossed ++ (p ∷ []);
        came = crosses on.came cross;
        named = e ∙ ap (λ (x : Path). extended x p) on.named ∙ extended_is on.crossed p few_crossed;
      }
