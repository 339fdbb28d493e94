-- The test for an involution: the matrix times itself is the identity. Assumes nothing.
use Rattle.std.specs.Prelude.{Bool, cond, ℕ, eqb}
use Rattle.algebra.specs.Matrix.{sum}
use Rattle.field.specs.Polynomial.{product}
use Rattle.field.specs.Steps.{every_below}
use Rattle.lines.specs.Numbers.{numbers}

-- entry (i, j) of the identity
unfoldable pub unit : ℕ → ℕ → ℕ
unit i j = cond (eqb i j) 1 0

-- entry (i, j) of the matrix f of order n times itself
unfoldable pub square_entry : ℕ → ℕ → (ℕ → ℕ → ℕ) → ℕ → ℕ → ℕ
square_entry p n f i j = sum (numbers p) n (λ k. product p (f i k) (f k j))

-- line i of the matrix times itself is that of the identity
unfoldable pub is_unit_line : ℕ → ℕ → (ℕ → ℕ → ℕ) → ℕ → Bool
is_unit_line p n f i = every_below n (λ j. eqb (square_entry p n f i j) (unit i j))
