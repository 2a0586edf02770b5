-- 02, Item 11: "a first picture .. whose layout places every byte, and changes .., each with port, record or vector byte, old and new
-- byte".
use Rattle.std.specs.Prelude.{ℕ, ◌+◌, cond, ◌&&◌, List, eqb, ltb, Option, Some, None}
use Rattle.registers.specs.Record.{edition_of, record_bytes, record_in, port_at}
use Rattle.trees.specs.Trees.{count_of}
use Rattle.picture.specs.Layout.{all_bytes}
use Rattle.changes.specs.declared.Change.{Change}

-- the parts of a port: its record, and its vectors
abbrev pub in_record : ℕ
in_record = 0

abbrev pub in_vectors : ℕ
in_vectors = 1

-- how many bytes a part of port p has, and where it starts, by the first picture
unfoldable pub part_bytes : List ℕ → ℕ → ℕ → ℕ
part_bytes first p part =
    cond (eqb part in_record) (record_bytes (edition_of first))
    (cond (eqb part in_vectors) (all_bytes (port_at first p).fpb) 0)

unfoldable pub part_start : List ℕ → ℕ → ℕ → ℕ
part_start first p part = cond (eqb part in_record) (record_in first p) (port_at first p).vectors_at

-- the byte that a change names, if that port and byte exist
unfoldable pub byte_named : List ℕ → Change → Option ℕ
byte_named first c =
    cond (ltb c.port (count_of first) && ltb c.at (part_bytes first c.port c.part))
    (Some (part_start first c.port c.part + c.at))
    None
