-- The XOR counts: they are small, are counted one element and one line at a time, and do not depend on the places of a row's elements
-- (`count_moved`); so every line of a Hadamard matrix counts as much as its row, with zeros or without (`hadamard_count`). A line of zeros, a
-- matrix of zeros and the identity count 0 (`zero_line`, `zero_matrix`, `identity_count`). Assumes nothing.
use mathlib.Core.Path.{◌≡◌, refl, sym, ap, ap₂, ◌∙◌}
use mathlib.Core.Logic.{◌≢◌}
use mathlib.Core.Bool.{Bool, true, false, cond}
use mathlib.Core.List.{List}
use Prim.Native.Nat.{ℕ, zero, suc, ◌+◌, ◌-◌, ◌*◌, ◌^◌, ◌≤◌, ◌<◌, zero-le}
use native.Mathlib.Nat.{le_refl, mul-suc, mul-le-mul, suc-mul, zero-mul, mul-zero, zero-add, add-zero, add-suc}
use native.Mathlib.Numerals.{add-one}
use native.Mathlib.Omega.{arith}
use borrow.Author.Tests.{eq-eqb, ne_eqb}
use lib.Bits.{bit_xor, xor_comm}
use lib.Dec.{eqb}
use lib.ListN.{get_or}
use Rattle.algebra.specs.Matrix.{tabulate, sum, hadamard, weight}
use Rattle.algebra.specs.Places.{moved, Inverse}
use Rattle.algebra.proofs.Words.{one_unless, length_tabulate, get_d_tabulate, tabulate_cong}
use Rattle.algebra.proofs.Sums.{Naturals, naturals, sum_cong, sum_null, sum_place, sum_permuted}
use Rattle.algebra.proofs.Weights.{sum_ones, one_unless_le, weight_tabulate, weight_le}
use Rattle.algebra.proofs.Xor.{xor_own}
use Rattle.field.specs.Polynomial.{Modulus, degree, xor_count}
use Rattle.field.proofs.Degrees.{polynomial}
use Rattle.field.proofs.Inverses.{columns_most, count_of_one}
use Rattle.lines.specs.Numbers.{numbers}
use Rattle.lines.specs.Counts.{total, element_count, addition_count, row_count, matrix_count}

-- an element counts at most 56: 8 columns of 8 ones, less 8
pub xor_count_le : (p a : ℕ) → Modulus p → xor_count p a ≤ 56
unfolding xor_count
xor_count_le p zero h = omega arith
xor_count_le p (suc a) h =
    let poly = polynomial p h in
    omega (arith, columns_most p (degree p) (suc a) (degree p) poly.has poly.most, poly.most)

-- a sum of n numbers of at most k is at most n·k
pub total_le : (n k : ℕ) (f : ℕ → ℕ) → ((i : ℕ) → f i ≤ k) → total n f ≤ k * n
unfolding total
total_le zero k f h = omega arith
total_le (suc n) k f h = omega (arith, total_le n k f h, h n, mul-suc k n)

-- each of k further numbers adds at least the least
pub total_least : (f : ℕ → ℕ) (least d k : ℕ) → ((j : ℕ) → d ≤ j → j < d + k → least ≤ f j) → total d f + least * k ≤ total (d + k) f
unfolding total
total_least f least d zero h = rw (mul-zero, add-zero d) (omega arith)
total_least f least d (suc k) h =
    rw (add-suc, mul-suc) (omega (arith, total_least f least d k (λ j a b. h j a (omega arith)), h (d + k) (omega arith) (omega arith)))

-- sums that agree below n
pub total_cong : (n : ℕ) (f g : ℕ → ℕ) → ((i : ℕ) → i < n → f i ≡ g i) → total n f ≡ total n g
unfolding total
total_cong zero f g h = refl
total_cong (suc n) f g h = ap₂ ◌+◌ (total_cong n f g (λ i l. h i (omega arith))) (h n (le_refl (suc n)))

-- a line of 8 counts at most 448
pub element_count_le : (p n : ℕ) (row : ℕ → ℕ) → Modulus p → element_count p n row ≤ 56 * n
unfolding element_count
element_count_le p n row h = total_le n 56 (λ j. xor_count p (row j)) (λ j. xor_count_le p (row j) h)

-- one element more
pub element_count_step : (p j : ℕ) (row : ℕ → ℕ) → element_count p (j + 1) row ≡ element_count p j row + xor_count p (row j)
unfolding element_count total
element_count_step p j row = rw add-one refl

-- one line more
pub total_step : (i : ℕ) (f : ℕ → ℕ) → total (i + 1) f ≡ total i f + f i
unfolding total
total_step i f = rw add-one refl

-- ---- the additions of a line

-- w is at most n
pub weight_most : (p n : ℕ) (line : ℕ → ℕ) → weight (numbers p) (tabulate n line) ≤ n
weight_most p n line = rw (length_tabulate n line) at (weight_le (numbers p) (tabulate n line))

-- one entry more
pub weight_step : (p j : ℕ) (line : ℕ → ℕ)
    → weight (numbers p) (tabulate (j + 1) line) ≡ weight (numbers p) (tabulate j line) + one_unless (eqb (line j) 0)
unfolding sum
weight_step p j line =
    ap (λ (k : ℕ). weight (numbers p) (tabulate k line)) (add-one j)
    ∙ weight_tabulate (numbers p) (suc j) line
    ∙ ap (λ (w : ℕ). w + one_unless (eqb (line j) 0)) (sym (weight_tabulate (numbers p) j line))

-- at most 7 additions of 8 bits
pub addition_count_le : (p n : ℕ) (line : ℕ → ℕ) → Modulus p → n ≤ 8 → addition_count p n line ≤ 56
unfolding addition_count
addition_count_le p n line h l =
    let few : weight (numbers p) (tabulate n line) - 1 ≤ 7 = omega (arith, weight_most p n line) in
    mul-le-mul few (polynomial p h).most

-- a row counts at most 504
pub row_count_le : (p n : ℕ) (row : ℕ → ℕ) → Modulus p → n ≤ 8 → row_count p n row ≤ 504
unfolding row_count
row_count_le p n row h l = omega (arith, element_count_le p n row h, addition_count_le p n row h l)

-- the rows of a matrix count together what the matrix counts
pub total_rows : (p n : ℕ) (f : ℕ → ℕ → ℕ) → total n (λ i. row_count p n (f i)) ≡ matrix_count p n f
unfolding matrix_count
total_rows p n f = refl

-- a matrix counts at most 4,032
pub matrix_count_le : (p n : ℕ) (f : ℕ → ℕ → ℕ) → Modulus p → n ≤ 8 → matrix_count p n f ≤ 4032
matrix_count_le p n f h l =
    rw (← total_rows p n f) (omega (arith, total_le n 504 (λ i. row_count p n (f i)) (λ i. row_count_le p n (f i) h l)))

-- ---- the places of a row's elements

pub total_sum : (n : ℕ) (f : ℕ → ℕ) → total n f ≡ sum Naturals n f
unfolding total sum
total_sum zero f = refl
total_sum (suc n) f = ap (λ (s : ℕ). s + f n) (total_sum n f)

-- counts of rows that agree below n
pub element_count_cong : (p n : ℕ) (row row' : ℕ → ℕ) → ((j : ℕ) → j < n → row j ≡ row' j) → element_count p n row ≡ element_count p n row'
unfolding element_count
element_count_cong p n row row' e = total_cong n _ _ (λ j l. ap (xor_count p) (e j l))

pub addition_count_cong : (p n : ℕ) (row row' : ℕ → ℕ) → ((j : ℕ) → j < n → row j ≡ row' j) → addition_count p n row ≡ addition_count p n row'
unfolding addition_count
addition_count_cong p n row row' e = ap (λ (l : List ℕ). (weight (numbers p) l - 1) * degree p) (tabulate_cong n row row' e)

pub row_count_cong : (p n : ℕ) (row row' : ℕ → ℕ) → ((j : ℕ) → j < n → row j ≡ row' j) → row_count p n row ≡ row_count p n row'
unfolding row_count
row_count_cong p n row row' e = ap₂ ◌+◌ (element_count_cong p n row row' e) (addition_count_cong p n row row' e)

-- a sum is the same with its terms in another order
pub total_permuted : (n : ℕ) (σ ρ : ℕ → ℕ) → Inverse n σ ρ → (f : ℕ → ℕ) → total n (λ j. f (σ j)) ≡ total n f
total_permuted n σ ρ v f = total_sum n _ ∙ sum_permuted Naturals naturals n σ ρ v f ∙ sym (total_sum n f)

module _ (p n : ℕ) (σ ρ : ℕ → ℕ) (v : Inverse n σ ρ) where
  -- a row counts the same with its elements in another order
  pub element_count_permuted : (row : ℕ → ℕ) → element_count p n (λ j. row (σ j)) ≡ element_count p n row
  unfolding element_count
  element_count_permuted row = total_permuted n σ ρ v (λ j. xor_count p (row j))

  weight_permuted : (row : ℕ → ℕ) → weight (numbers p) (tabulate n (λ j. row (σ j))) ≡ weight (numbers p) (tabulate n row)
  weight_permuted row =
      weight_tabulate (numbers p) n (λ j. row (σ j))
      ∙ sum_permuted Naturals naturals n σ ρ v (λ j. one_unless (eqb (row j) 0))
      ∙ sym (weight_tabulate (numbers p) n row)

  pub row_count_permuted : (row : ℕ → ℕ) → row_count p n (λ j. row (σ j)) ≡ row_count p n row
  unfolding row_count addition_count
  row_count_permuted row = ap₂ (λ (s w : ℕ). s + (w - 1) * degree p) (element_count_permuted row) (weight_permuted row)

  module _ (row : List ℕ) where
    pub moved_at : (j : ℕ) → j < n → get_or (moved (numbers p) n σ row) j 0 ≡ get_or row (σ j) 0
    moved_at j l = get_d_tabulate n (λ i. get_or row (σ i) 0) j 0 l

    -- the same of a list
    pub element_count_moved : element_count p n (λ j. get_or (moved (numbers p) n σ row) j 0) ≡ element_count p n (λ j. get_or row j 0)
    element_count_moved = element_count_cong p n _ _ moved_at ∙ element_count_permuted (λ j. get_or row j 0)

    pub count_moved : row_count p n (λ j. get_or (moved (numbers p) n σ row) j 0) ≡ row_count p n (λ j. get_or row j 0)
    count_moved = row_count_cong p n _ _ moved_at ∙ row_count_permuted (λ j. get_or row j 0)

-- ---- Hadamard matrices

pub total_same : (n c : ℕ) → total n (λ i. c) ≡ n * c
unfolding total
total_same zero c = sym (zero-mul c)
total_same (suc n) c = omega (arith, total_same n c, suc-mul n c)

-- a matrix whose lines count c each counts n·c
pub equal_lines : (p n c : ℕ) (f : ℕ → ℕ → ℕ) → ((i : ℕ) → i < n → row_count p n (f i) ≡ c) → matrix_count p n f ≡ n * c
equal_lines p n c f e = sym (total_rows p n f) ∙ total_cong n _ (λ i. c) e ∙ total_same n c

module _ (p k : ℕ) (row : List ℕ) where
  -- a line has the row's elements, with their places moved by exclusive or with the line's number
  pub hadamard_line : (i : ℕ) → i < 2 ^ k → row_count p (2 ^ k) (hadamard (numbers p) row i) ≡ row_count p (2 ^ k) (λ j. get_or row j 0)
  unfolding hadamard
  hadamard_line i l =
      row_count_cong p (2 ^ k) _ (λ j. get_or row (bit_xor j i) 0) (λ j m. ap (λ (c : ℕ). get_or row c 0) (xor_comm i j))
      ∙ row_count_permuted p (2 ^ k) _ _ (xor_own k i l) (λ j. get_or row j 0)

  -- the Hadamard matrix counts n times what its row counts
  pub hadamard_count : matrix_count p (2 ^ k) (hadamard (numbers p) row) ≡ 2 ^ k * row_count p (2 ^ k) (λ j. get_or row j 0)
  hadamard_count = equal_lines p (2 ^ k) (row_count p (2 ^ k) (λ j. get_or row j 0)) (hadamard (numbers p) row) hadamard_line

-- ---- zeros

-- a line without zeros: w is n
pub weight_full : (p n : ℕ) (line : ℕ → ℕ) → ((j : ℕ) → j < n → line j ≢ 0) → weight (numbers p) (tabulate n line) ≡ n
weight_full p n line h =
    weight_tabulate (numbers p) n line
    ∙ sum_cong Naturals n (λ j. one_unless (eqb (line j) 0)) (λ j. 1) (λ j l. ap one_unless (ne_eqb (line j) 0 (h j l)))
    ∙ sum_ones n

-- it counts its elements and (n - 1)·m
pub full_line : (p n : ℕ) (line : ℕ → ℕ) → ((j : ℕ) → j < n → line j ≢ 0) → row_count p n line ≡ element_count p n line + (n - 1) * degree p
unfolding row_count addition_count
full_line p n line h = ap (λ (w : ℕ). element_count p n line + (w - 1) * degree p) (weight_full p n line h)

-- elements that cost nothing, at most one of them not 0: the line counts 0
free_line : (p n : ℕ) (line : ℕ → ℕ) → ((j : ℕ) → j < n → xor_count p (line j) ≡ 0) → weight (numbers p) (tabulate n line) ≤ 1 → row_count p n line ≡ 0
unfolding row_count element_count addition_count
free_line p n line e l =
    let none : weight (numbers p) (tabulate n line) - 1 ≡ 0 = omega arith in
    ap₂ (λ (s w : ℕ). s + w * degree p) (total_cong n _ (λ j. 0) e ∙ total_same n 0 ∙ mul-zero n) none
    ∙ zero-add (0 * degree p)
    ∙ zero-mul (degree p)

-- a line of zeros counts 0
pub zero_line : (p n : ℕ) (line : ℕ → ℕ) → ((j : ℕ) → j < n → line j ≡ 0) → row_count p n line ≡ 0
zero_line p n line e =
    free_line p n line (λ j l. unfold xor_count in ap (xor_count p) (e j l))
    (rw (
      weight_tabulate (numbers p) n line,
      sum_null Naturals naturals n (λ j. one_unless (eqb (line j) 0)) (λ j l. ap one_unless (eq-eqb (line j) 0 (e j l))),
    ) zero-le)

-- a matrix of zeros counts 0
pub zero_matrix : (p n : ℕ) (f : ℕ → ℕ → ℕ) → ((i j : ℕ) → i < n → j < n → f i j ≡ 0) → matrix_count p n f ≡ 0
zero_matrix p n f e = equal_lines p n 0 f (λ i l. zero_line p n (f i) (λ j m. e i j l m)) ∙ mul-zero n

-- the identity of order n over any field counts 0
pub identity_count : (p n : ℕ) → Modulus p → matrix_count p n (λ i j. cond (eqb i j) 1 0) ≡ 0
identity_count p n h = equal_lines p n 0 _ (λ i l. free_line p n _ (λ j m. free (eqb i j)) (alone i l)) ∙ mul-zero n
  where
    free : (b : Bool) → xor_count p (cond b 1 0) ≡ 0
    free true = count_of_one p (polynomial p h).has
    free false = unfold xor_count in refl

    other : (i j : ℕ) → j ≢ i → one_unless (eqb (cond (eqb i j) 1 0) 0) ≡ 0
    other i j d = ap (λ (b : Bool). one_unless (eqb (cond b 1 0) 0)) (ne_eqb i j (λ e. d (sym e)))

    alone : (i : ℕ) → i < n → weight (numbers p) (tabulate n (λ j. cond (eqb i j) 1 0)) ≤ 1
    alone i l =
        rw (
          weight_tabulate (numbers p) n (λ j. cond (eqb i j) 1 0),
          sum_place Naturals naturals n (λ j. one_unless (eqb (cond (eqb i j) 1 0) 0)) i l (λ j m d. other i j d),
        ) (one_unless_le (eqb (cond (eqb i i) 1 0) 0))
