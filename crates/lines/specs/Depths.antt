-- The depth of a circuit that adds up the ones of output bits (document 02, Four). To be believed. Assumes nothing.
use Rattle.std.specs.Prelude.{ℕ, zero, suc, ◌^◌, max, leb}
use Rattle.field.specs.Polynomial.{degree, product, first_below}
use Rattle.lines.specs.Counts.{total}
-- bit b of a number, passed on to the crates above
unfoldable pub use Rattle.field.specs.Polynomial.{bit}

-- the ones of an element for output bit b: those in line b of its bit matrix, whose column k is a times 2^k
unfoldable pub ones_in_line : ℕ → ℕ → ℕ → ℕ
ones_in_line p a b = total (degree p) (λ k. bit b (product p a (2 ^ k)))

-- the ones in the line of bits of output bit b of a line of n entries: the sum over its elements
unfoldable pub output_ones : ℕ → ℕ → (ℕ → ℕ) → ℕ → ℕ
output_ones p n line b = total n (λ j. ones_in_line p (line j) b)

-- the depth of an output bit with t ones in its line of bits: the least d with 2^d at least t, which is t or less
unfoldable pub depth_of : ℕ → ℕ
depth_of t = first_below t (λ d. leb t (2 ^ d))

-- the greatest of f 0, f 1, .. f (n - 1)
unfoldable pub greatest : ℕ → (ℕ → ℕ) → ℕ
greatest zero f = 0
greatest (suc n) f = max (greatest n f) (f n)

-- the depth of a line, be it a row or a line of a matrix: the greatest over the m bits of its output
unfoldable pub line_depth : ℕ → ℕ → (ℕ → ℕ) → ℕ
line_depth p n line = greatest (degree p) (λ b. depth_of (output_ones p n line b))
