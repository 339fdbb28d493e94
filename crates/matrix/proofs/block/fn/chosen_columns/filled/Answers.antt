-- A line of `matrix::block::chosen_columns` meets its contract. Assumes nothing.
use Rattle.matrix.proofs.block.fn.chosen_columns.filled.Goals as goal

pub returns : goal.returns
returns c = c.chosen.ensures 0
