-- `cuts::hadamard::planes_pass` meets its contract. Assumes nothing.
use Rattle.std.proofs.Common.{rules}
use Rattle.std.proofs.iter.runs.Sources.{ranges}
use Rattle.matrix.proofs.Squares.{every_told}
use Rattle.cuts.specs.Steps.Hadamard.{planes_pass}
use Rattle.cuts.proofs.hadamard.planes_pass.Goals as goal

pub returns : goal.returns
unfolding planes_pass
returns c = every_told c.args.row c.args.d _ c.all.result (search (rules, ranges))
