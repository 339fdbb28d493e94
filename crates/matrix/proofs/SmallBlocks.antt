-- Square blocks of one line and of two lines of any matrix over the numbers below 2^m: they are regular where no entry is 0 and no two products
-- across two lines and two columns are equal (`one_regular`, `two_regular`). Assumes nothing.
use mathlib.Core.Path.{◌≡◌, sym, ◌∙◌}
use mathlib.Core.Bool.{true}
use Prim.Native.Nat.{ℕ, ◌^◌, ◌<◌}
use native.Mathlib.Omega.{arith}
use lib.ListN.{get_or}
use borrow.Author.Tests.{eqb-true}
use Rattle.algebra.specs.Matrix.{block, chosen}
use Rattle.algebra.proofs.Choices.{chosen_lt, chosen_ascends}
use Rattle.algebra.proofs.Planes.{det_one, det_two}
use Rattle.field.specs.Polynomial.{degree, product, Modulus}
use Rattle.field.proofs.Sum.{sum_zero_l, sum_equal}
use Rattle.field.proofs.Degrees.{polynomial}
use Rattle.field.proofs.Field.{times_one_r}
use Rattle.lines.specs.Numbers.{numbers}
use Rattle.matrix.specs.Steps.Regular.{is_regular_block}
use Rattle.matrix.proofs.Squares.{Singular, regular_of}

module _ (p : ℕ) (h : Modulus p) (n : ℕ) (f : ℕ → ℕ → ℕ) (below : (i j : ℕ) → i < n → j < n → f i j < 2 ^ degree p) (r s : ℕ) where
  -- the i-th of the lines r, the j-th of the columns s
  abbrev line : ℕ → ℕ
  line i = get_or (chosen n r) i 0

  abbrev column : ℕ → ℕ
  column j = get_or (chosen n s) j 0

  -- the block
  abbrev cut : ℕ → ℕ → ℕ
  cut = block f (chosen n r) (chosen n s)

  -- an entry times 1
  once : (k : ℕ) → Singular (numbers p) n f k r s → (i j : ℕ) → i < k → j < k → product p (cut i j) 1 ≡ cut i j
  unfolding block
  once k b i j l m =
      times_one_r p (degree p) (polynomial p h).has (f (line i) (column j))
      (below (line i) (column j) (chosen_lt n r i (rw b.lines l)) (chosen_lt n s j (rw b.columns m)))

  pub one_regular : ((i j : ℕ) → i < n → j < n → 0 < f i j) → is_regular_block (numbers p) n f 1 r s ≡ true
  unfolding block
  one_regular positive = regular_of (numbers p) n f 1 r s (λ b.
      let zero : f (line 0) (column 0) ≡ 0 = sym (det_one (numbers p) sum_zero_l cut (once 1 b 0 0 (omega arith) (omega arith))) ∙ eqb-true _ 0 b.null in
      omega (arith, positive (line 0) (column 0) (chosen_lt n r 0 (omega (arith, b.lines))) (chosen_lt n s 0 (omega (arith, b.columns)))))

  pub two_regular : ((i₁ i₂ j₁ j₂ : ℕ) → i₁ < i₂ → i₂ < n → j₁ < j₂ → j₂ < n → product p (f i₁ j₁) (f i₂ j₂) ≡ product p (f i₁ j₂) (f i₂ j₁) → ⊥)
      → is_regular_block (numbers p) n f 2 r s ≡ true
  unfolding block
  two_regular apart = regular_of (numbers p) n f 2 r s (λ b.
      apart (line 0) (line 1) (column 0) (column 1)
      (chosen_ascends n r 0 1 (omega arith) (omega (arith, b.lines))) (chosen_lt n r 1 (omega (arith, b.lines)))
      (chosen_ascends n s 0 1 (omega arith) (omega (arith, b.columns))) (chosen_lt n s 1 (omega (arith, b.columns)))
      (sum_equal _ _ (sym (det_two (numbers p) sum_zero_l cut (once 2 b 1 0 (omega arith) (omega arith)) (once 2 b 1 1 (omega arith) (omega arith)))
      ∙ eqb-true _ 0 b.null)))
