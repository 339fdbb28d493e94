-- `properties::branch::branch_number` meets its contract: the choices of columns before `columns` are tried. Assumes nothing.
use mathlib.Core.Path.{◌≡◌}
use Prim.Native.Nat.{suc}
use Rattle.lines.specs.Numbers.{numbers, elements, entry}
use Rattle.properties.specs.Steps.Pairs.{over_pairs}
use Rattle.properties.proofs.branch.branch_number.Given as goal

abbrev pub invariant-loop-columns : goal.invariant-loop-columns
invariant-loop-columns l = l.best ≡ over_pairs (numbers l.table.polynomial) (elements l.table.polynomial) l.n (entry l.m) l.columns (suc l.n)
