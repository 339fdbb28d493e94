-- `lines::figure::Figure::plus` meets its contract. Assumes nothing.
use Rattle.std.proofs.Common.{rules, ap}
use Rattle.lines.specs.Steps.Figures.{figure_sum}
use Rattle.lines.proofs.Filled.{eight_of}
use Rattle.lines.proofs.Figures.{as_figure}
use Rattle.lines.proofs.figure.Figure.plus.Goals as goal

pub returns : goal.returns
unfolding figure_sum
returns c =
    ap (as_figure _) (eight_of 0 _ c.filled.result 0 (search rules) (λ i l. let h = c.filled.ensures.first i l in search rules))
