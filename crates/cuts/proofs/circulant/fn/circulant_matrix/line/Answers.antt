-- `line` of `cuts::circulant::circulant_matrix` meets its contract. Assumes nothing.
use Rattle.std.proofs.Common.{rules}
use Rattle.lines.proofs.Filled.{filled_of}
use Rattle.cuts.proofs.circulant.fn.circulant_matrix.line.Goals as goal

pub returns : goal.returns
returns c =
    filled_of 0 _ c.captures.n c.filled.result 0 c.requires.0 (search rules) (λ j l. let h = c.filled.ensures.first j l in search rules) (λ j l h. c.filled.ensures.behind j l)
