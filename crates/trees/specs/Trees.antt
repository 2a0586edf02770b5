-- The ports of a picture as a tree.
use Rattle.std.specs.Prelude.{ℕ, List}
use Rattle.lent.specs.Lent.{u16_at}
use Rattle.chassis.specs.Tree.{Tree}
use Rattle.registers.specs.Record.{port_at}

-- 01, "The picture": "port count n (2, 1 to 64)", after the edition
abbrev pub count_of : List ℕ → ℕ
count_of s = u16_at s 2

abbrev pub tree_of : List ℕ → Tree
tree_of s = record { count = count_of s; kind = λ p. (port_at s p).kind; parent = λ p. (port_at s p).parent.0 }
