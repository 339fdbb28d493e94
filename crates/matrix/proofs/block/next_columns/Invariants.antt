-- `matrix::block::next_columns` meets its contract: no mask between the given one and r is a choice. Assumes nothing.
use Prim.Native.Nat.{◌-◌}
use Rattle.matrix.specs.Steps.Choice.{line_of}
use Rattle.matrix.proofs.Masks.{Skipped}
use Rattle.matrix.proofs.block.next_columns.Given as goal

abbrev pub invariant-loop-r : goal.invariant-loop-r
invariant-loop-r l = Skipped (line_of l.look) l.mask l.r

abbrev pub decreases-loop-r : goal.decreases-loop-r
decreases-loop-r l = 512 - l.r
