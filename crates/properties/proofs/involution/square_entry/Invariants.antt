-- `properties::involution::square_entry` meets its contract: the first k products are added. Assumes nothing.
use mathlib.Core.Path.{◌≡◌}
use Rattle.algebra.specs.Matrix.{sum}
use Rattle.field.specs.Polynomial.{product}
use Rattle.lines.specs.Numbers.{numbers, entry}
use Rattle.properties.proofs.involution.square_entry.Given as goal

abbrev pub invariant-loop-k : goal.invariant-loop-k
invariant-loop-k l = l.sum ≡ sum (numbers l.field.polynomial) l.k (λ e. product l.field.polynomial (entry l.m l.i e) (entry l.m e l.j))
