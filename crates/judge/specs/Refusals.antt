-- 01, "Numbers given back": refusals, and what the table's column "names" says of them.
use Rattle.std.specs.Prelude.{None}
use Rattle.chassis.specs.declared.Finding.{Finding}
use Rattle.chassis.specs.declared.Named.{Named}
use Rattle.chassis.specs.declared.Named.TheVariants.{NoPort, Port}
use Rattle.picture.specs.declared.refusals.Refusal.{Refusal}
use Rattle.picture.specs.declared.refusals.Refusal.TheVariants.{Breaks, Misplaced}
use Rattle.picture.specs.Refusals.{refusal_number}

-- numbers 6 to 10 name a port, 1 to 5, 16 and 30 to 32 none
abbrev pub refusal_ports : Refusal → Named
refusal_ports (Breaks rule p) = Port p
refusal_ports (Misplaced p) = Port p
refusal_ports r = NoPort

unfoldable pub refusal_finding : Refusal → Finding
refusal_finding r = record { number = refusal_number r; target = None; ports = refusal_ports r }
