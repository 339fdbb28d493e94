-- The cycle of calls {determinant, first_line_sum}: the measures are 2·n + 1 and 2·n. Assumes nothing.
use mathlib.Core.Path.{◌≡◌}
use Prim.Native.Nat.{◌+◌, ◌-◌}
use Rattle.lines.specs.Numbers.{entry}
use Rattle.matrix.proofs.Minors.{first_line}
use Rattle.matrix.proofs.block.+determinant_first_line_sum.Given as goal

abbrev pub decreases-determinant : goal.decreases-determinant
decreases-determinant l = l.n + l.n + 1

abbrev pub decreases-first_line_sum : goal.decreases-first_line_sum
decreases-first_line_sum l = l.n + l.n

abbrev pub invariant-first_line_sum-loop-j : goal.invariant-first_line_sum-loop-j
invariant-first_line_sum-loop-j l = l.r ≡ first_line l.table.polynomial (l.n - 1) (entry l.block) l.j
