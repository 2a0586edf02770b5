-- A history worked out: the picture of one port, whose vector's first byte is set to 1 and then to 3. It shows that the statements of specs/History.antt speak of something.
-- Assumes nothing.
use Prim.Native.Nat.{ℕ}
use mathlib.Core.List.{List, [], ◌∷◌}
use mathlib.Core.Path.{◌≡◌, refl}
use Rattle.lent.specs.Lent.{u16_at, u32_at}
use Rattle.chassis.specs.Tree.{any_below}
use Rattle.registers.specs.Record.{fpb_at, port_at, record_at}
use Rattle.registers.specs.Vectors.{vector_bytes}
use Rattle.changes.specs.declared.Change.{Change}
use Rattle.changes.specs.Change.{part_bytes, part_start, byte_named}
use Rattle.changes.specs.Versions.{made, no_change, change_at, made_up_to}
use Rattle.changes.specs.Adding.{names_none, old_wrong, run_number, room_full, adding_number, behind}
use Rattle.demands.specs.Worked.{zeros, u16, u32, one_port, header_in, redirecting}
use Rattle.demands.specs.History.{RunAdded}
use Rattle.demands.proofs.Histories.{history_added}
use Rattle.demands.proofs.WorkedTrial.{one_reads}
use Rattle.std.specs.Prelude.{Some, None}

-- the first byte of port 0's vectors, from one byte to another
abbrev vector : ℕ → ℕ → Change
vector old new = record { port = 0; part = 1; at = 0; old_byte = old; new_byte = new }

abbrev room : List Change
room = no_change ∷ no_change ∷ []

abbrev run : List Change
run = vector 0 1 ∷ vector 1 3 ∷ []

-- the run is added: its second change is held against its first
pub run_added : adding_number one_port room run 0 ≡ 0
unfolding zeros u16 u32 one_port u16_at u32_at fpb_at port_at record_at vector_bytes part_bytes part_start byte_named made change_at made_up_to names_none old_wrong run_number any_below room_full adding_number
run_added = rw one_reads

pub run_so : RunAdded one_port room run 0
run_so = history_added one_port room run 0 run_added

-- after winding back to version 1 another change stands in the room of the second
pub wound_back : adding_number one_port (behind room 0 run) (vector 1 9 ∷ []) 1 ≡ 0
unfolding zeros u16 u32 one_port u16_at u32_at fpb_at port_at record_at vector_bytes part_bytes part_start byte_named made change_at made_up_to names_none old_wrong run_number any_below room_full adding_number behind
wound_back = rw one_reads

-- 37 for a byte past the vectors, though its old byte is wrong too; 38 for the old byte of the first picture; 39 for one change too many
pub no_such_byte : adding_number one_port room (vector 7 1 ∷ record { port = 0; part = 1; at = 32; old_byte = 0; new_byte = 1 } ∷ []) 0 ≡ 37
unfolding zeros u16 u32 one_port u16_at u32_at fpb_at port_at record_at vector_bytes part_bytes part_start byte_named made change_at made_up_to names_none old_wrong run_number any_below room_full adding_number
no_such_byte = rw one_reads

pub old_of_the_first : adding_number one_port (behind room 0 run) (vector 0 1 ∷ []) 2 ≡ 38
unfolding zeros u16 u32 one_port u16_at u32_at fpb_at port_at record_at vector_bytes part_bytes part_start byte_named made change_at made_up_to names_none old_wrong run_number any_below room_full adding_number behind
old_of_the_first = rw one_reads

pub one_too_many : adding_number one_port (behind room 0 run) (vector 3 1 ∷ []) 2 ≡ 39
unfolding zeros u16 u32 one_port u16_at u32_at fpb_at port_at record_at vector_bytes part_bytes part_start byte_named made change_at made_up_to names_none old_wrong run_number any_below room_full adding_number behind
one_too_many = rw one_reads

-- a record's last byte is named and the next is not: 56 bytes in edition 1, 60 in edition 2
abbrev record_byte : ℕ → Change
record_byte at = record { port = 0; part = 0; at = at; old_byte = 0; new_byte = 1 }

pub last_of_56 : (byte_named one_port (record_byte 55) ≡ Some 71) × (byte_named one_port (record_byte 56) ≡ None)
unfolding zeros u16 u32 one_port u16_at record_at part_bytes part_start byte_named
last_of_56 = (refl, refl)

pub last_of_60 : (byte_named (redirecting 0) (record_byte 59) ≡ Some 75) × (byte_named (redirecting 0) (record_byte 60) ≡ None)
unfolding zeros u16 u32 header_in redirecting u16_at record_at part_bytes part_start byte_named
last_of_60 = (refl, refl)
