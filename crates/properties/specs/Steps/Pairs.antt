-- The search for the branch number over choices of columns and lines. Assumes nothing.
use Rattle.std.specs.Prelude.{Bool, true, false, List, ℕ, zero, suc, ◌+◌, ◌-◌, ◌^◌, min, length, get_or}
use Rattle.algebra.specs.Operations.{Operations}
use Rattle.algebra.specs.Matrix.{chosen, has_kernel}

-- the smaller of a and best where the test passed, else best
abbrev pub lowered : Bool → ℕ → ℕ → ℕ
lowered true a best = min a best
lowered false a best = best

module _ (K : Operations) (elements : List K.Element) (n : ℕ) where
  -- whether the lines r of a block g of n lines and c columns send an input that is not zero to zero
  unfoldable pub lines_kernel : ℕ → (ℕ → ℕ → K.Element) → ℕ → Bool
  lines_kernel c g r = has_kernel K elements c (length (chosen n r)) (λ i j. g (get_or (chosen n r) i 0) j)

  -- best, lowered by the c columns and the lines left out, for each choice of lines below k that sends an input that is not zero to zero
  unfoldable pub over_lines : ℕ → (ℕ → ℕ → K.Element) → ℕ → ℕ → ℕ
  over_lines c g zero best = best
  over_lines c g (suc r) best = lowered (lines_kernel c g r) (c + (n - length (chosen n r))) (over_lines c g r best)

  -- the same for all choices of columns below k
  unfoldable pub over_pairs : (ℕ → ℕ → K.Element) → ℕ → ℕ → ℕ
  over_pairs f zero best = best
  over_pairs f (suc s) best =
      over_lines (length (chosen n s)) (λ i j. f i (get_or (chosen n s) j 0)) (2 ^ n) (over_pairs f s best)
