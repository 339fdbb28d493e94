-- `lines::figure::ones_table` meets its contract: after i turns the first i entries are stored. Assumes nothing.
use mathlib.Core.Path.{◌≡◌}
use Prim.Native.Nat.{◌/◌, ◌%◌}
use Rattle.lines.specs.Depths.{ones_in_line}
use Rattle.lines.specs.Steps.Blocks.{filled_to}
use Rattle.lines.proofs.figure.ones_table.Given as goal

abbrev pub invariant-loop-i : goal.invariant-loop-i
invariant-loop-i l = l.r ≡ filled_to 2048 0 (λ i. ones_in_line l.field.polynomial (i / 8) (i % 8)) l.i
