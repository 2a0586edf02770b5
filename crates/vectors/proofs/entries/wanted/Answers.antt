use Rattle.std.proofs.Common.{◌∙◌, arith}
use Rattle.vectors.proofs.Digits.{bit, bit_not}
use Rattle.vectors.proofs.Words.{not_wanted}
use Rattle.vectors.proofs.entries.wanted.Goals as goal

pub returns-else-want : goal.returns-else-want
returns-else-want c = λ k l. bit_not 64 k c.args.x (omega arith) l ∙ not_wanted (bit c.args.x k) c.if-want.false
