-- `lines::figure::Figure::depth` meets its contract. Assumes nothing.
use mathlib.Core.Path.{ap, ◌∙◌}
use Rattle.lines.specs.Depths.{depth_of}
use Rattle.lines.specs.Steps.Figures.{depth_of_ones}
use Rattle.lines.proofs.figure.Figure.depth.Goals as goal

pub returns : goal.returns
unfolding depth_of_ones
returns c = c.depth_of.ensures ∙ ap depth_of (c.from.ensures ∙ c.greatest.ensures)
