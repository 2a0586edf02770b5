-- The reading as the code comes to it, one number after the other.
use Rattle.std.specs.Prelude.{ℕ, Option, Some, None, Result, Ok, Err}
use Rattle.ids.specs.declared.PortNo.{PortNo}
use Rattle.ids.specs.Ids.{port_no}
use Rattle.picture.specs.declared.refusals.Refusal.{Refusal}

-- the refusal that names the port found, where one was
abbrev pub unless : Option ℕ → (PortNo → Refusal) → Result (Unit {0}) Refusal
unless (Some p) refusal = Err (refusal (port_no p))
unless None refusal = Ok tt
