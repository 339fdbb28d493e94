-- `lines::figure::Ones::line_figure` meets its contract: after i turns the figures of the first i entries are added up. Assumes nothing.
use mathlib.Core.Path.{◌≡◌}
use lib.ListN.{get_or}
use Rattle.lines.specs.Steps.Figures.{line_figure}
use Rattle.lines.proofs.figure.Ones.line_figure.Given as goal

abbrev pub invariant-loop-a : goal.invariant-loop-a
invariant-loop-a l = l.figure ≡ line_figure l.self.polynomial l.a-index (λ j. get_or l.fn.line j 0)
