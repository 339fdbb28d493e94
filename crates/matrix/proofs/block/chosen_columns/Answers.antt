-- `matrix::block::chosen_columns` meets its contract. Assumes nothing.
use Rattle.std.proofs.Common.{rules, arith, replicate}
use Rattle.lines.specs.Steps.Blocks.{framed}
use Rattle.lines.proofs.Filled.{filled_of}
use Rattle.matrix.proofs.block.chosen_columns.Goals as goal

pub returns : goal.returns
unfolding framed
returns c =
    filled_of (replicate 8 0) _ _ c.filled.result (replicate 8 0) (omega arith) (search rules)
    (λ i l. let h = c.filled.ensures.first i l in search rules) (λ i l m. c.filled.ensures.behind i l)
