-- `text::line_one_length` meets its contract: six bytes more for each further number.
-- Assumes nothing.
use native.Mathlib.Omega.{arith}
use Rattle.text.specs.Reading.{line_one_length}
use Rattle.text.proofs.Lengths.{further_le}
use Rattle.text.proofs.line_one_length.Goals as goal

pub overflow_mul-result : goal.overflow_mul-result
overflow_mul-result c = omega (arith, c.further_numbers.ensures, further_le c.args.kind)

pub overflow_add-result : goal.overflow_add-result
overflow_add-result c = omega (arith, c.further_numbers.ensures, further_le c.args.kind)

pub returns : goal.returns
unfolding line_one_length
returns c = rw c.further_numbers.ensures
