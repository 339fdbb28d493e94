-- The counts as they were before zeros cost no gates (request One), kept as what today's are compared with: every entry of a line took
-- part in its additions. A line without zeros, and so a matrix without zeros, counts as before. Assumes nothing.
use mathlib.Core.Path.{◌≡◌, sym, ap, ◌∙◌}
use mathlib.Core.Logic.{◌≢◌}
use Prim.Native.Nat.{ℕ, zero, suc, ◌+◌, ◌-◌, ◌*◌, ◌<◌}
use native.Mathlib.Nat.{suc-mul, zero-mul, mul_assoc}
use native.Mathlib.Omega.{arith}
use Rattle.field.specs.Polynomial.{degree}
use Rattle.lines.specs.Counts.{total, element_count, row_count, matrix_count}
use Rattle.lines.proofs.Tallies.{total_cong, total_rows, full_line}

-- a row's XOR count: the sum of its elements' counts plus (n - 1)·m
unfoldable pub row_count_before : ℕ → ℕ → (ℕ → ℕ) → ℕ
row_count_before p n row = element_count p n row + (n - 1) * degree p

-- a matrix of order n counted the sum over all entries plus n·(n - 1)·m
unfoldable pub matrix_count_before : ℕ → ℕ → (ℕ → ℕ → ℕ) → ℕ
matrix_count_before p n f = total n (λ i. element_count p n (f i)) + n * (n - 1) * degree p

-- a line without zeros counts as before
pub line_as_before : (p n : ℕ) (line : ℕ → ℕ) → ((j : ℕ) → j < n → line j ≢ 0) → row_count p n line ≡ row_count_before p n line
unfolding row_count_before
line_as_before p n line h = full_line p n line h

-- the same number more in each of n places
total_more : (n k : ℕ) (f : ℕ → ℕ) → total n (λ i. f i + k) ≡ total n f + n * k
unfolding total
total_more zero k f = omega (arith, zero-mul k)
total_more (suc n) k f = omega (arith, total_more n k f, suc-mul n k)

-- a matrix without zeros counts as before
pub matrix_as_before : (p n : ℕ) (f : ℕ → ℕ → ℕ) → ((i j : ℕ) → i < n → j < n → f i j ≢ 0) → matrix_count p n f ≡ matrix_count_before p n f
unfolding matrix_count_before
matrix_as_before p n f h =
    sym (total_rows p n f)
    ∙ total_cong n _ _ (λ i l. full_line p n (f i) (λ j m. h i j l m))
    ∙ total_more n ((n - 1) * degree p) (λ i. element_count p n (f i))
    ∙ ap (λ (k : ℕ). total n (λ i. element_count p n (f i)) + k) (sym (mul_assoc n (n - 1) (degree p)))
