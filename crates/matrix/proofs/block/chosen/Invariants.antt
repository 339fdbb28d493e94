-- `matrix::block::chosen` meets its contract: the chosen elements before place i are stored. Assumes nothing.
use Prim.Native.Nat.{◌≤◌}
use Rattle.matrix.proofs.Selections.{Walk}
use Rattle.matrix.proofs.block.chosen.Given as goal

abbrev pub invariant-loop-i : goal.invariant-loop-i
invariant-loop-i g l = (l.k ≤ l.i) × ((d : g.row.T.Denot) → Walk l.from d l.empty l.choice l.r l.i l.k)
