-- How a person reads a port's number, an ID and a target.
use Rattle.std.specs.Prelude.{ℕ, ◌^◌, ◌-◌, List, [], ◌++◌, false, codes}
use Rattle.std.specs.Fmt.{decimal, digits, padded_integral, format_spec}
use Rattle.ids.specs.declared.Target.{Target}
use Rattle.ids.specs.declared.Target.TheVariants.{Id, Addr}
use Rattle.ids.specs.Ids.{bus_of, device_of, function_of}

-- at least so many hexadecimal digits, in lower case
abbrev pub hexadecimal : ℕ → ℕ → List ℕ
hexadecimal width n = padded_integral (format_spec 32 0 4 width (2 ^ 64 - 1)) false [] (digits 16 false n)

-- bus, device and Function: `02:01.0`
abbrev pub shown_id : ℕ → List ℕ
shown_id rid = hexadecimal 2 (bus_of rid) ++ codes ":" ++ hexadecimal 2 (device_of rid) ++ codes "." ++ decimal (function_of rid)

-- `ID 03:00.0 (0300)`, `address 00000000e0500000`
abbrev pub shown_target : Target → List ℕ
shown_target (Id rid) = codes "ID " ++ shown_id rid.0 ++ codes " (" ++ hexadecimal 4 rid.0 ++ codes ")"
shown_target (Addr a) = codes "address " ++ hexadecimal 16 a
