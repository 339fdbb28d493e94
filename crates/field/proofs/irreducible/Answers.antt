-- `field::irreducible` meets its contract: the table holds just the irreducible polynomials. Assumes nothing.
use mathlib.Core.Path.{◌∙◌}
use Rattle.field.specs.Table.{table}
use Rattle.field.proofs.Completeness.{listed}
use Rattle.field.proofs.irreducible.Goals as goal

pub returns : goal.returns
unfolding table
returns c = c.contains.ensures.value ∙ listed c.args.p c.requires.0 c.requires.1
