-- `matrix::block::is_looked_at` meets its contract: the table, computed for all ways to look and all masks. Assumes nothing.
use Rattle.matrix.specs.Steps.Choice.{line_of}
use Rattle.matrix.proofs.Masks.{table_looked}
use Rattle.matrix.proofs.block.is_looked_at.Goals as goal

pub returns : goal.returns
returns c = rw (c.line.ensures, c.from.ensures) (table_looked (line_of c.args.look) c.args.mask c.requires.1 c.requires.0)
