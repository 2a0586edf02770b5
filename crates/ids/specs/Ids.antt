-- 01, "The picture": "An ID is taken apart into bus (8 bits), device (5) and Function (3); a unit is the ID divided by 8."
use Rattle.std.specs.Prelude.{ℕ, ◌/◌, ◌%◌, ◌^◌}
use Rattle.ids.specs.declared.PortNo.{PortNo}

abbrev pub bus_of : ℕ → ℕ
bus_of rid = rid / 2 ^ 8 % 2 ^ 8

abbrev pub device_of : ℕ → ℕ
device_of rid = rid / 2 ^ 3 % 2 ^ 5

abbrev pub function_of : ℕ → ℕ
function_of rid = rid % 2 ^ 3

abbrev pub unit_of : ℕ → ℕ
unit_of rid = rid / 2 ^ 3

abbrev pub port_no : ℕ → PortNo
port_no p = record { 0 = p }

-- 01, "Numbers given back": "unused places and ports are 255"
abbrev pub no_port : PortNo
no_port = port_no 255
