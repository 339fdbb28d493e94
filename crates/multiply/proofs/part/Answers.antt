-- `multiply::part` meets its contract. Assumes nothing.
use Rattle.std.proofs.Common.{rules}
use Rattle.lines.proofs.Filled.{filled_of}
use Rattle.multiply.proofs.part.Goals as goal

pub returns : goal.returns
returns c =
    filled_of 0 _ c.args.n c.filled.result 0 (search rules) (search rules) (λ i l. let h = c.filled.ensures.first i l in search rules) (λ i l h. c.filled.ensures.behind i l)
