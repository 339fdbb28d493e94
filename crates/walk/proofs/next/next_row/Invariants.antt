-- `walk::next::next_row` meets its contract: the entries from place i on cannot be raised. Assumes nothing.
use mathlib.Core.Path.{◌≡◌}
use lib.ListN.{take}
use Rattle.walk.specs.Steps.Successors.{raised_below, row_behind}
use Rattle.walk.proofs.next.next_row.Given as goal

abbrev pub invariant-loop-i : goal.invariant-loop-i
invariant-loop-i l = raised_below l.letters l.n (take l.n l.row) l.i ≡ row_behind l.letters l.n (take l.n l.row)
