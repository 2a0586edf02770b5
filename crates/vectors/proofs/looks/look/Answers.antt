use Rattle.std.proofs.Common.{arith}
use Rattle.vectors.specs.Vectors.{entry_is}
use Rattle.vectors.proofs.Digits.{sees}
use Rattle.vectors.proofs.Words.{entries_wanted}
use Rattle.vectors.proofs.looks.look.Goals as goal

pub returns-clause-i_le_last : goal.returns-clause-i_le_last
returns-clause-i_le_last c =
    (sees (entry_is _ _) c.args.i 64 _ (omega arith) (omega arith) (omega arith) (omega arith)
    (entries_wanted c.args.v.now c.args.want _ _ _ c.word.ensures c.wanted-entries.ensures)).0

pub returns-clause-by_index : goal.returns-clause-by_index
returns-clause-by_index c =
    (sees (entry_is _ _) c.args.i 64 _ (omega arith) (omega arith) (omega arith) (omega arith)
    (entries_wanted c.args.v.now c.args.want _ _ _ c.word.ensures c.wanted-entries.ensures)).1
