-- The shape of a matrix that a row decides: where the row's elements stand in it, and when the row is good.
-- Assumes nothing.
use Rattle.std.specs.Prelude.{Bool, true, false, not, ◌&&◌, ◌||◌, List, ℕ, ◌+◌, ◌-◌, ◌%◌, get_or}
use Rattle.std.specs.Int.Bits.{bit_xor}
use Rattle.algebra.specs.Matrix.{is_mds, is_involution}
use Rattle.lines.specs.Numbers.{numbers, elements}
use Rattle.rows.specs.declared.Family.{Family}
use Rattle.rows.specs.declared.Family.TheVariants.{Hadamard, Circulant}

-- for order, line and column the place of the row's element that stands there; and whether the matrix has to be an involution
pub record Shape : Type 0 where
  pub place : ℕ → ℕ → ℕ → ℕ
  pub involutory : Bool

-- the matrix of order n of a row
unfoldable pub row_matrix : Shape → ℕ → List ℕ → ℕ → ℕ → ℕ
row_matrix shape n row i j = get_or row (shape.place n i j) 0

-- a good row: its matrix is an involution, where the shape asks for it, and has branch number order + 1
unfoldable pub is_good : Shape → ℕ → ℕ → List ℕ → Bool
is_good shape p n row =
    (not shape.involutory || is_involution (numbers p) (elements p) n (row_matrix shape n row))
    && is_mds (numbers p) (elements p) n (row_matrix shape n row)

-- Hadamard matrices: the row's element at (i exclusive or j) at line i, column j; involutions
unfoldable pub hadamard_shape : Shape
hadamard_shape = record { place = λ n i j. bit_xor i j; involutory = true }

-- circulant matrices: the row's element at (j − i) modulo n at line i, column j; they need not be involutions
unfoldable pub circulant_shape : Shape
circulant_shape = record { place = λ n i j. (j + (n - i)) % n; involutory = false }

-- the shape that the code's enum names
abbrev pub shape_of : Family → Shape
shape_of Hadamard = hadamard_shape
shape_of Circulant = circulant_shape
