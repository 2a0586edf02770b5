-- 01, "Numbers given back": the 40 bytes of what a call found. "The check's answer has end 0 and, for 11 to 14, its least target
-- little-endian in the first 8 places of the path"; 18 names them "as 13 does" (02, Item 7).
use Rattle.std.specs.Prelude.{ℕ, List, Option, Some, None}
use Rattle.ids.specs.declared.PortNo.{PortNo}
use Rattle.ids.specs.declared.Target.TheVariants.{Id, Addr}
use Rattle.ids.specs.Ids.{no_port}
use Rattle.chassis.specs.declared.Finding.{Finding}
use Rattle.chassis.specs.declared.Named.{Named}
use Rattle.chassis.specs.declared.Named.TheVariants.{NoPort, Port, Holder, Pair}
use Rattle.answers.specs.declared.Head.{Head}
use Rattle.answers.specs.Answers.{answer_bytes, no_places, target_places}
use Rattle.ids.specs.declared.Target.{Target}

abbrev pub found_head : ℕ → PortNo → PortNo → Head
found_head number port second = record { number = number; end = 0; port = port; second = second; crossings = 0; function = 0 }

-- the ports named; "unused places and ports are 255". 02, Item 3: "The 40 bytes stay as they are."
abbrev pub naming_head : ℕ → Named → Head
naming_head number NoPort = found_head number no_port no_port
naming_head number (Port p) = found_head number p no_port
naming_head number (Holder h) = found_head number h.port no_port
naming_head number (Pair h k) = found_head number h.port k.port

abbrev pub shown_places : Option Target → List ℕ
shown_places None = no_places
shown_places (Some (Id rid)) = target_places rid.0
shown_places (Some (Addr a)) = target_places a

unfoldable pub finding_bytes : Finding → List ℕ
finding_bytes f = answer_bytes (naming_head f.number f.ports) (shown_places f.target)
