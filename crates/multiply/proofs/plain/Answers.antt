-- `multiply::plain` meets its contract. Assumes nothing.
use Rattle.std.proofs.Common.{rules}
use Rattle.algebra.specs.Matrix.{apply}
use Rattle.lines.specs.Numbers.{InField, WordsInField}
use Rattle.lines.proofs.Filled.{filled_of}
use Rattle.multiply.proofs.plain.Goals as goal

pub filled-requires : goal.filled-requires
unfolding InField WordsInField
filled-requires c =
    let small = c.requires.1 in
    search rules

pub returns : goal.returns
unfolding apply
returns c =
    filled_of 0 _ c.args.n c.filled.result 0 c.requires.0 (search rules) (λ i l. let h = c.filled.ensures.first i l in search rules) (λ i l h. c.filled.ensures.behind i l)
