-- How rows are compared (documents 01 and 02), and the lightest row of a shape. To be believed. Assumes nothing.
use Rattle.std.specs.Prelude.{List, ℕ, suc, ◌+◌, ◌*◌, ◌^◌, get_or}
use Rattle.field.specs.Polynomial.{degree}
use Rattle.lines.specs.Counts.{element_count}
use Rattle.lines.specs.Depths.{line_depth}
use Rattle.rows.specs.Lightest.{Best, lightest, rows_over}
use Rattle.rows.specs.Shape.{Shape, is_good}

-- what is printed, and compared first: the sum of the XOR counts of the row's elements
unfoldable pub sum_of : ℕ → ℕ → List ℕ → ℕ
sum_of p n row = element_count p n (λ j. get_or row j 0)

-- the depth of a row: that of the first output of its matrix, whose line of entries the row is
unfoldable pub depth_of_row : ℕ → ℕ → List ℕ → ℕ
depth_of_row p n row = line_depth p n (λ j. get_or row j 0)

-- what rows are compared by: the sum, then the depth, which is at most m·n
unfoldable pub key_of : ℕ → ℕ → List ℕ → ℕ
key_of p n row = sum_of p n row * suc (degree p * n) + depth_of_row p n row

-- the good row of a shape over the candidates with the least key, the first in dictionary order
unfoldable pub lightest_row : Shape → ℕ → ℕ → List ℕ → Best
lightest_row shape p n candidates = lightest (is_good shape p n) (key_of p n) (rows_over (2 ^ degree p) candidates n)
