-- `answer_matrix::matrix_of` meets its contract. The loop's invariant: the lines before line i are stored. Assumes nothing.
use mathlib.Core.Path.{◌≡◌}
use Prim.Native.Nat.{◌+◌, ◌*◌}
use Rattle.lines.specs.Steps.Blocks.{framed}
use Rattle.text.specs.Reading.{value_at}
use Rattle.answer_matrix.proofs.matrix_of.Given as goal

abbrev pub invariant-loop-i : goal.invariant-loop-i
invariant-loop-i s = s.m ≡ framed s.i s.n (λ l j. value_at s.part (l * s.n + j))
