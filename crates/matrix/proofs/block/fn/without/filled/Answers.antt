-- A line of `matrix::block::without` meets its contract. Assumes nothing.
use Rattle.std.proofs.Common.{add-one}
use Rattle.algebra.specs.Matrix.{without}
use Rattle.matrix.proofs.block.fn.without.filled.Goals as goal

pub returns : goal.returns
unfolding without
returns c = rw add-one at c.without_column.ensures
