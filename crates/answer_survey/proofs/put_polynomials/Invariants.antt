-- `answer_survey::put_polynomials` meets its contract. The loop's invariant: what is left to write is the lines of the polynomials from the
-- next one on. Assumes nothing.
use Prim.Native.Nat.{◌+◌}
use Rattle.text.proofs.Places.{Left}
use Rattle.answer_survey.specs.Steps.TableLines.{lines_from}
use Rattle.answer_survey.proofs.put_polynomials.Given as goal

abbrev pub invariant-loop-polynomial : goal.invariant-loop-polynomial
invariant-loop-polynomial l = Left l.initial.writer (lines_from l.first l.last) l.writer (lines_from (l.first + l.polynomial-index) l.last)
