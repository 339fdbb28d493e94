-- `matrix::block::without_column` meets its contract. Assumes nothing.
use Rattle.std.proofs.Common.{rules, arith}
use Rattle.lines.proofs.Filled.{filled_of}
use Rattle.matrix.proofs.Minors.{skip_before, skip_behind}
use Rattle.matrix.proofs.block.without_column.Goals as goal

pub returns : goal.returns
returns c =
    filled_of 0 _ 7 c.filled.result 0 (omega arith) (search rules)
    (λ i l. let h = c.filled.ensures.first i l in grind (arith, skip_before, skip_behind)) (λ i l m. c.filled.ensures.behind i l)
