-- `properties::branch::cleared` meets its contract: the lines before line i are those of the cleared block. Assumes nothing.
use mathlib.Core.Path.{◌≡◌}
use Prim.Native.Nat.{ℕ, ◌-◌}
use lib.ListN.{replicate}
use Rattle.algebra.specs.Steps.{cleared}
use Rattle.lines.specs.Numbers.{numbers, entry}
use Rattle.lines.specs.Steps.Blocks.{filled}
use Rattle.properties.proofs.branch.cleared.Given as goal

abbrev pub invariant-loop-i : goal.invariant-loop-i
invariant-loop-i l = l.left ≡ filled (replicate 8 0) (λ (i : ℕ). filled 0 (cleared (numbers l.table.polynomial) (entry l.block) l.k i) (l.c - 1)) l.i
