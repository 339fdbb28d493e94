-- XOR counts of rows and matrices. Assumes nothing.
use Rattle.std.specs.Prelude.{ℕ, zero, suc, ◌+◌, ◌-◌, ◌*◌}
use Rattle.algebra.specs.Matrix.{tabulate, weight}
use Rattle.field.specs.Polynomial.{degree, xor_count}
use Rattle.lines.specs.Numbers.{numbers}

-- the sum of f 0, f 1, .. f (n - 1)
unfoldable pub total : ℕ → (ℕ → ℕ) → ℕ
total zero f = 0
total (suc n) f = total n f + f n

-- the sum of the XOR counts of a row's elements
unfoldable pub element_count : ℕ → ℕ → (ℕ → ℕ) → ℕ
element_count p n row = total n (λ j. xor_count p (row j))

-- the XORs that add up the products of a line: (w - 1)·m, where w of its n entries are not 0; none for a line of zeros (0 - 1 is 0)
unfoldable pub addition_count : ℕ → ℕ → (ℕ → ℕ) → ℕ
addition_count p n line = (weight (numbers p) (tabulate n line) - 1) * degree p

-- the XOR count of a line, be it a row or a line of a matrix: the sum of its elements' counts, and its additions
unfoldable pub row_count : ℕ → ℕ → (ℕ → ℕ) → ℕ
row_count p n line = element_count p n line + addition_count p n line

-- a matrix of order n counts the sum over its lines
unfoldable pub matrix_count : ℕ → ℕ → (ℕ → ℕ → ℕ) → ℕ
matrix_count p n f = total n (λ i. row_count p n (f i))
