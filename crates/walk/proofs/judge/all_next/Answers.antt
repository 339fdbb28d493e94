-- `walk::judge::all_next` meets its contract. Assumes nothing.
use Rattle.std.proofs.Common.{rules}
use Rattle.std.proofs.iter.runs.Sources.{ranges}
use Rattle.matrix.proofs.Squares.{every_told}
use Rattle.walk.proofs.judge.all_next.Goals as goal

pub returns : goal.returns
returns c = every_told c.args.row c.args.n _ c.all.result (search (rules, ranges))
