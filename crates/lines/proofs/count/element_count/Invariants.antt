-- `lines::count::element_count` meets its contract: after i turns the counts of the first i elements are added. Assumes nothing.
use mathlib.Core.Path.{◌≡◌}
use lib.ListN.{get_or}
use Rattle.lines.specs.Counts.{element_count}
use Rattle.lines.proofs.count.element_count.Given as goal

abbrev pub invariant-loop-a : goal.invariant-loop-a
invariant-loop-a l = l.sum ≡ element_count l.field.polynomial l.a-index (λ j. get_or l.fn.line j 0)
