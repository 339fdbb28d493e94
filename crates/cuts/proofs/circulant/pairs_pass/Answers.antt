-- `cuts::circulant::pairs_pass` meets its contract. Assumes nothing.
use Rattle.std.proofs.Common.{rules, suc}
use Rattle.std.proofs.iter.runs.Sources.{ranges}
use Rattle.matrix.proofs.Squares.{every_told}
use Rattle.cuts.specs.Steps.Circulant.{pairs_pass}
use Rattle.cuts.proofs.circulant.pairs_pass.Goals as goal

pub returns : goal.returns
unfolding pairs_pass
returns c = every_told c.args.row (suc c.args.d) _ c.all.result (search (rules, ranges))
