-- `properties::involution::is_unit_line` meets its contract. Assumes nothing.
use Rattle.std.proofs.Common.{rules, get_or, []}
use Rattle.std.proofs.iter.runs.Sources.{ranges}
use Rattle.properties.specs.Steps.Identity.{is_unit_line}
use Rattle.matrix.proofs.Squares.{every_told}
use Rattle.properties.proofs.involution.is_unit_line.Goals as goal

pub returns : goal.returns
unfolding is_unit_line
returns c = every_told (get_or c.args.m c.args.i []) c.args.n _ c.all.result (search (rules, ranges))
