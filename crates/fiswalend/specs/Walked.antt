-- 01, "Numbers given back": the 40 bytes of a walk's answer.
use Rattle.std.specs.Prelude.{ℕ, List, Result, Ok, Err}
use Rattle.ids.specs.declared.PortNo.{PortNo}
use Rattle.ids.specs.Ids.{no_port}
use Rattle.chassis.specs.declared.End.{End}
use Rattle.chassis.specs.declared.End.TheVariants.{Device, Function, Host, Unsupported, Doubled}
use Rattle.answers.specs.declared.Head.{Head}
use Rattle.answers.specs.Answers.{answer_bytes, path_places}
use Rattle.judge.specs.Refusals.{refusal_finding}
use Rattle.fiswalend.specs.Found.{finding_bytes}
use Rattle.picture.specs.declared.refusals.Refusal.{Refusal}
use Rattle.routes.specs.declared.Walked.{Walked}

-- "end (0 none, 1 device, 2 Function, 3 host, 4 Unsupported Request, 5 doubled), port, second port, crossings, Function number"; "Ends
-- 1 to 5 have number 0"; "unused places and ports are 255, other unused bytes 0"
abbrev pub row : ℕ → PortNo → PortNo → ℕ → ℕ → Head
row end port second crossings function =
    record { number = 0; end = end; port = port; second = second; crossings = crossings; function = function }

abbrev pub end_head : End → ℕ → Head
end_head (Device p function) crossings = row 1 p no_port crossings function
end_head (Function p) crossings = row 2 p no_port crossings 0
end_head Host crossings = row 3 no_port no_port crossings 0
end_head (Unsupported p) crossings = row 4 p no_port crossings 0
end_head (Doubled p q) crossings = row 5 p q crossings 0

unfoldable pub walk_bytes : Result Walked Refusal → List ℕ
walk_bytes (Err r) = finding_bytes (refusal_finding r)
walk_bytes (Ok w) = answer_bytes (end_head w.end w.path.count) (path_places w.path.places)
