-- `lines::figure::Ones::least_depth` meets its contract. Assumes nothing.
use mathlib.Core.Path.{◌≡◌, ap, ap₂, ◌∙◌}
use Prim.Native.Nat.{ℕ, ◌+◌, ◌-◌, max}
use lib.ListN.{get_or}
use Rattle.lines.specs.declared.figure.Figure.{Figure}
use Rattle.lines.specs.Depths.{output_ones, depth_of, greatest}
use Rattle.lines.specs.Steps.Figures.{least_depth}
use Rattle.lines.proofs.Figures.{figure_greatest}
use Rattle.lines.proofs.figure.Ones.least_depth.Goals as goal
use Rattle.lines.proofs.figure.Ones.least_depth.Goals.{After-greatest}

-- the greatest number of ones of the first k entries
ones_most : (c : After-greatest)
    → c.greatest.result ≡ greatest 8 (output_ones c.args.self.now.polynomial c.args.k (λ j. get_or c.args.line j 0))
ones_most c =
    c.greatest.ensures
    ∙ ap (λ (x : Figure). greatest 8 (λ b. get_or x.ones b 0)) c.line_figure.ensures
    ∙ figure_greatest _ _ _

pub returns : goal.returns
unfolding least_depth
returns c =
    let a = c.args in
    c.max.ensures
    ∙ ap₂ max (c.depth_of.ensures ∙ ap (λ (g : ℕ). depth_of (g + (a.n - a.k))) (c.from.ensures ∙ ones_most (goal.at.returns c).After-greatest))
    (c.depth_of-2.ensures ∙ ap depth_of c.average_ones.ensures)
