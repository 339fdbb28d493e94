-- `properties::branch::over_lines` meets its contract: the choices of lines before `lines` are tried. Assumes nothing.
use mathlib.Core.Path.{◌≡◌}
use Rattle.lines.specs.Numbers.{numbers, elements, entry}
use Rattle.properties.specs.Steps.Pairs.{over_lines}
use Rattle.properties.proofs.branch.over_lines.Given as goal

abbrev pub invariant-loop-lines : goal.invariant-loop-lines
invariant-loop-lines l = l.least ≡ over_lines (numbers l.table.polynomial) (elements l.table.polynomial) l.n l.c (entry l.narrow) l.lines l.best
