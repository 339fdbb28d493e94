-- `matrix::block::regular_of_size` meets its contract: every choice of columns before `columns`, and with `columns` every choice of lines
-- before `lines`, gave a regular block. Assumes nothing.
use Prim.Native.Nat.{◌-◌, ◌^◌}
use Rattle.lines.specs.Numbers.{entry}
use Rattle.matrix.specs.Steps.Choice.{line_of}
use Rattle.matrix.proofs.Regularity.{Passed, Regular, RegularColumns}
use Rattle.matrix.proofs.block.regular_of_size.Given as goal

abbrev pub invariant-loop-lines : goal.invariant-loop-lines
invariant-loop-lines l = Passed 0 (2 ^ l.n) l.k (Regular l.table.polynomial l.n l.k (entry l.m) l.columns) l.lines

abbrev pub decreases-loop-lines : goal.decreases-loop-lines
decreases-loop-lines l = l.end - l.lines

abbrev pub invariant-choices : goal.invariant-choices
invariant-choices l = Passed (line_of l.look) (2 ^ l.n) l.k (RegularColumns l.table.polynomial l.n l.k (entry l.m) (line_of l.look)) l.columns

abbrev pub decreases-choices : goal.decreases-choices
decreases-choices l = l.end - l.columns
