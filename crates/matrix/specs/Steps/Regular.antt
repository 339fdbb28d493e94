-- The tests on square blocks. Assumes nothing.
use Rattle.std.specs.Prelude.{Bool, not, ◌&&◌, ◌||◌, ℕ, suc, ◌^◌, eqb, ltb, length}
use Rattle.algebra.specs.Operations.{Operations}
use Rattle.algebra.specs.Matrix.{det, chosen, block}
use Rattle.field.specs.Steps.{every_below}
use Rattle.matrix.specs.Steps.Choice.{is_looked_at}

-- the block of the lines r and the columns s is no square block of size k, or its determinant is not 0
unfoldable pub is_regular_block : (K : Operations) → ℕ → (ℕ → ℕ → K.Element) → ℕ → ℕ → ℕ → Bool
is_regular_block K n f k r s =
    not (eqb (length (chosen n r)) k && eqb (length (chosen n s)) k) || not (K.is_null (det K k (block f (chosen n r) (chosen n s))))

-- every square block of size k whose columns are looked at has a nonzero determinant
unfoldable pub regular_of_size : (K : Operations) → ℕ → (ℕ → ℕ → K.Element) → ℕ → ℕ → Bool
regular_of_size K n f look k =
    every_below (2 ^ n) (λ s. every_below (2 ^ n) (λ r. not (is_looked_at look s) || is_regular_block K n f k r s))

-- the same for the sizes above `above` up to `most`
unfoldable pub regular_between : (K : Operations) → ℕ → (ℕ → ℕ → K.Element) → ℕ → ℕ → ℕ → Bool
regular_between K n f look above most = every_below most (λ k. ltb k above || regular_of_size K n f look (suc k))
