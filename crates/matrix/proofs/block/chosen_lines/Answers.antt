-- `matrix::block::chosen_lines` meets its contract. Assumes nothing.
use Rattle.std.proofs.Common.{[]}
use Rattle.matrix.proofs.block.chosen_lines.Goals as goal

pub returns : goal.returns
returns c = c.chosen.ensures []
