-- `walk::judge::planes_hold` meets its contract. Assumes nothing.
use Rattle.std.proofs.Common.{rules}
use Rattle.std.proofs.iter.runs.Sources.{ranges}
use Rattle.std.proofs.iter.Serving.{serving}
use Rattle.lines.specs.Numbers.{WordsInField}
use Rattle.matrix.proofs.Squares.{every_told}
use Rattle.walk.proofs.judge.planes_hold.Goals as goal

pub all-requires-clause-callable : goal.all-requires-clause-callable
unfolding WordsInField
all-requires-clause-callable c = grind serving

pub returns : goal.returns
returns c = every_told c.args.row c.args.n _ c.all.result (search (rules, ranges))
