-- 01, "Vector settings (001)": the table, a column for each mechanism.
use Rattle.std.specs.Prelude.{ℕ, ◌+◌, ◌*◌, ◌/◌, ◌%◌, ◌^◌, Bool, cond, eqb}
use Rattle.vectors.specs.declared.Settings.{Settings}
use Rattle.registers.specs.declared.Fpb.{Fpb}
use Rattle.registers.specs.declared.Mechanism.{Mechanism}
use Rattle.registers.specs.declared.Mechanism.TheVariants.{Rid, Low, High}

-- a register's field: `width` bits from bit `low` on
abbrev pub field : ℕ → ℕ → ℕ → ℕ
field register low width = register / 2 ^ low % 2 ^ width

-- "Capabilities bits 0, 1, 2"
abbrev pub supported_bit : Mechanism → ℕ
supported_bit Rid = 0
supported_bit Low = 1
supported_bit High = 2

abbrev pub supported_in : Fpb → Mechanism → Bool
supported_in f m = eqb (field f.capabilities (supported_bit m) 1) 1

-- "size field: Cap. 10:8, Cap. 18:16, Cap. 26:24"
abbrev pub size_bit : Mechanism → ℕ
size_bit Rid = 8
size_bit Low = 16
size_bit High = 24

abbrev pub size_code : Fpb → Mechanism → ℕ
size_code f m = field f.capabilities (size_bit m) 3

-- "Bit 0 of each control enables it"; "granularity (bits 7:4)"
abbrev pub control_of : Fpb → Mechanism → ℕ
control_of f Rid = f.rid_control_1
control_of f Low = f.mem_low_control
control_of f High = f.mem_high_control_1

abbrev pub enabled_in : Fpb → Mechanism → Bool
enabled_in f m = eqb (field (control_of f m) 0 1) 1

abbrev pub granularity_code : Fpb → Mechanism → ℕ
granularity_code f m = field (control_of f m) 4 4

-- granularity code 0 is 8 IDs, 1 MiB or 256 MiB, and each code more doubles it
abbrev pub unit_scale : Mechanism → ℕ
unit_scale Rid = 3
unit_scale Low = 20
unit_scale High = 28

-- "Control 1 bits 31:19, in units of 8 IDs"; "bits 31:20, in MiB"; "Control 2 and Control 1 bits 31:28: address bits 63:28"
abbrev pub start_of : Fpb → Mechanism → ℕ
start_of f Rid = field f.rid_control_1 19 13 * 8
start_of f Low = field f.mem_low_control 20 12 * 2 ^ 20
start_of f High = (f.mem_high_control_2 * 2 ^ 4 + field f.mem_high_control_1 28 4) * 2 ^ 28

-- size code 0 is 256 entries, and each code more doubles them
abbrev pub size_of : Fpb → Mechanism → ℕ
size_of f m = 256 * 2 ^ size_code f m

unfoldable pub settings_of : Fpb → Mechanism → Settings
settings_of f m = record { size = size_of f m; start = start_of f m; scale = unit_scale m + granularity_code f m }

-- "each present exactly if its Supported bit .. is set"; a byte holds 8 entries
unfoldable pub vector_bytes : Fpb → Mechanism → ℕ
vector_bytes f m = cond (supported_in f m) (size_of f m / 8) 0
