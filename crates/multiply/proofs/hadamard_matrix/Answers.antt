-- `multiply::hadamard_matrix` meets its contract. Assumes nothing.
use Rattle.std.proofs.Common.{rules}
use lib.ListN.{replicate}
use Rattle.lines.specs.Steps.Blocks.{framed}
use Rattle.lines.proofs.Filled.{filled_of}
use Rattle.multiply.proofs.Halving.{exponent}
use Rattle.multiply.proofs.hadamard_matrix.Goals as goal

pub returns : goal.returns
unfolding framed
returns c =
    let most = (exponent c.args.n c.requires).2 in
    filled_of (replicate 8 0) _ c.args.n c.filled.result (replicate 8 0) most (search rules) (λ i l. let h = c.filled.ensures.first i l in search rules) (λ i l h. c.filled.ensures.behind i l)
