-- 01, "Numbers given back", and 02, Item 7: the number of each verdict, with what the table's column "names" says of it. The 40 bytes and the
-- printed line are both made from this.
use Rattle.std.specs.Prelude.{ℕ, Some, None}
use Rattle.ids.specs.declared.Target.{Target}
use Rattle.ids.specs.declared.Target.TheVariants.{Id, Addr}
use Rattle.chassis.specs.declared.Finding.{Finding}
use Rattle.chassis.specs.declared.Named.TheVariants.{NoPort, Port, Holder, Pair}
use Rattle.chassis.specs.declared.Verdict.{Verdict}
use Rattle.chassis.specs.declared.Verdict.TheVariants.{Clear, Shared, Stray, Lost, Taken}

-- "an ID (11) or address (12)", "an ID (13) or address (14)"
abbrev pub by_target : Target → ℕ → ℕ → ℕ
by_target (Id rid) of_id of_address = of_id
by_target (Addr a) of_id of_address = of_address

abbrev pub finding_of : Verdict → Finding
finding_of Clear = record { number = 0; target = None; ports = NoPort }
finding_of (Shared t p q) = record { number = by_target t 11 12; target = Some t; ports = Pair p q }
finding_of (Stray t p) = record { number = by_target t 13 14; target = Some t; ports = Holder p }
finding_of (Lost p) = record { number = 15; target = None; ports = Port p }
finding_of (Taken t p) = record { number = 18; target = Some t; ports = Holder p }
