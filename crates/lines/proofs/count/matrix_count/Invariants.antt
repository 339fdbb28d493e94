-- `lines::count::matrix_count` meets its contract: after i turns the counts of the first i rows are added. Assumes nothing.
use mathlib.Core.Path.{◌≡◌}
use Rattle.lines.specs.Numbers.{entry}
use Rattle.lines.specs.Counts.{total, row_count}
use Rattle.lines.proofs.count.matrix_count.Given as goal

abbrev pub invariant-loop-line : goal.invariant-loop-line
invariant-loop-line l = l.sum ≡ total l.line-index (λ k. row_count l.field.polynomial l.n (entry l.fn.m k))
