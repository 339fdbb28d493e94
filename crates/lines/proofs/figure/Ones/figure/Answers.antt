-- `lines::figure::Ones::figure` meets its contract. Assumes nothing.
use Rattle.std.proofs.Common.{rules, ap₂}
use Rattle.lines.specs.Steps.Figures.{figure_of}
use Rattle.lines.proofs.Filled.{eight_of}
use Rattle.lines.proofs.Figures.{as_figure, table_ones}
use Rattle.lines.proofs.figure.Ones.figure.Goals as goal

pub returns : goal.returns
unfolding figure_of
returns c =
    let self = c.args.self.now in
    ap₂ as_figure c.requires.1 (eight_of 0 _ c.filled.result 0 (search rules) (λ i l.
    let h = c.filled.ensures.first i l in
    let at = table_ones self.polynomial c.args.a i self.ones.now self.holds c.requires.0 l in
    search rules))
