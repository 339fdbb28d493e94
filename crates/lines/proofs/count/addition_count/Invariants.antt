-- `lines::count::addition_count` meets its contract: after i turns the weight of the first i entries is counted. Assumes nothing.
use mathlib.Core.Path.{◌≡◌}
use lib.ListN.{get_or}
use Rattle.algebra.specs.Matrix.{tabulate, weight}
use Rattle.lines.specs.Numbers.{numbers}
use Rattle.lines.proofs.count.addition_count.Given as goal

abbrev pub invariant-loop-a : goal.invariant-loop-a
invariant-loop-a l = l.weight ≡ weight (numbers l.field.polynomial) (tabulate l.a-index (λ j. get_or l.fn.line j 0))
