-- The answer of the walk.
use Rattle.std.specs.Prelude.{List, ◌≡◌}
use Rattle.ids.specs.declared.PortNo.{PortNo}
use Rattle.chassis.specs.declared.Packet.{Packet}
use Rattle.chassis.specs.declared.Whereabouts.{Whereabouts}
use Rattle.chassis.specs.Chassis.{Chassis}
use Rattle.chassis.specs.Walk.{Walk}
use Rattle.paths.specs.Paths.{path_of}
use Rattle.routes.specs.declared.Walked.{Walked}

-- the answer is where the rules lead: its path names the ports crossed, in order, and no others
pub record Arrives (c : Chassis) (packet : Packet) (start : Whereabouts) (r : Walked) : Type 0 where
  pub crossed : List PortNo
  pub walk : Walk c packet start crossed r.end
  pub named : r.path ≡ path_of crossed
