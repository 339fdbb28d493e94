-- `cuts::circulant::pairs_through` meets its contract. Assumes nothing.
use Rattle.std.proofs.Common.{rules}
use Rattle.std.proofs.iter.runs.Sources.{ranges}
use Rattle.matrix.proofs.Squares.{every_told}
use Rattle.cuts.proofs.circulant.pairs_through.Goals as goal

pub returns : goal.returns
returns c = every_told c.args.row c.args.d _ c.all.result (search (rules, ranges))
