-- Steps of the code that contracts need. Nobody need believe these: theorems tie them to the definitions.
-- Assumes nothing.
use Rattle.std.specs.Prelude.{ℕ, suc}
use Rattle.algebra.specs.Operations.{Operations}
use Rattle.algebra.specs.Matrix.{skip}

-- the line u cleared by the pivot's line v: entry 0 vanishes and is left out
abbrev pub cleared_line : (K : Operations) → (ℕ → K.Element) → (ℕ → K.Element) → ℕ → K.Element
cleared_line K v u j = K.plus (K.times (v 0) (u (suc j))) (K.times (u 0) (v (suc j)))

-- the block that is left when column 0 is cleared by line k: without that line and that column
unfoldable pub cleared : (K : Operations) → (ℕ → ℕ → K.Element) → ℕ → ℕ → ℕ → K.Element
cleared K f k i = cleared_line K (f k) (f (skip k i))
