-- 01, "The picture": "Vectors follow, port by port, RID then Low then High, each present exactly if its Supported bit .. is set,
-- without gaps. A port's start field holds the running offset even if it has none."
use Rattle.std.specs.Prelude.{ℕ, zero, suc, ◌+◌, Bool, not, List, length, take, drop, eqb}
use Rattle.registers.specs.declared.Fpb.{Fpb}
use Rattle.registers.specs.declared.Mechanism.{Mechanism}
use Rattle.registers.specs.declared.Mechanism.TheVariants.{Rid, Low, High}
use Rattle.registers.specs.Record.{port_at, record_in}
use Rattle.registers.specs.Vectors.{vector_bytes}
use Rattle.trees.specs.Trees.{count_of}

-- the bytes of all vectors of a port
abbrev pub all_bytes : Fpb → ℕ
all_bytes f = vector_bytes f Rid + vector_bytes f Low + vector_bytes f High

-- where the vectors of port p start if those of the ports before it have no gaps
unfoldable pub running_offset : List ℕ → ℕ → ℕ
running_offset s zero = record_in s (count_of s)
running_offset s (suc p) = running_offset s p + all_bytes (port_at s p).fpb

-- 10: "a vector start wrong, or vectors not ending at the total"
unfoldable pub place_wrong : List ℕ → ℕ → Bool
place_wrong s p = not (eqb (port_at s p).vectors_at (running_offset s p))

unfoldable pub end_wrong : List ℕ → Bool
end_wrong s = not (eqb (running_offset s (count_of s)) (length s))

-- the part of the picture that is a port's vector
abbrev pub offset_in : Fpb → Mechanism → ℕ
offset_in f Rid = 0
offset_in f Low = vector_bytes f Rid
offset_in f High = vector_bytes f Rid + vector_bytes f Low

unfoldable pub vector_of : List ℕ → ℕ → Mechanism → List ℕ
vector_of s p m = take (vector_bytes (port_at s p).fpb m) (drop ((port_at s p).vectors_at + offset_in (port_at s p).fpb m) s)
