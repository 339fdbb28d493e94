-- The ones of a line of entries for its output bits: together they are the elements' counts, and m for each nonzero entry (`ones_total`); each nonzero
-- entry gives each output bit a one (`weight_ones`, `ones_front`). So without zeros some output bit has no fewer than the average (`average_le`), and a
-- line is at least as deep as its first entries and its count tell (`least_depth_le`). Assumes nothing.
use mathlib.Core.Path.{◌≡◌, sym, ap, ap₂, subst, ◌∙◌}
use Prim.Native.Nat.{ℕ, zero, suc, ◌+◌, ◌-◌, ◌*◌, ◌/◌, ◌^◌, ◌≤◌, ◌<◌, max, zero-le}
use native.Mathlib.Nat.{le_refl, le_trans, max-le, le-max_left, le-max_right, add-max-add_right, add-mul, mul_comm, suc-mul, zero-mul, one-mul, div-mul-le_self, lt_of_mul-lt-mul_right}
use native.Mathlib.Decide.{ℕ_discrete}
use native.Mathlib.Omega.{arith}
use borrow.Author.Tests.{eq-eqb, ne_eqb}
use lib.Dec.{eqb}
use Rattle.algebra.specs.Matrix.{tabulate, sum, weight}
use Rattle.algebra.proofs.Words.{one_unless}
use Rattle.algebra.proofs.Sums.{Naturals, naturals, sum_cong, sum_plus, sum_swap}
use Rattle.algebra.proofs.Weights.{sum_le, weight_tabulate}
use Rattle.field.specs.Polynomial.{Modulus, degree, xor_count}
use Rattle.field.proofs.Degrees.{polynomial}
use Rattle.lines.specs.Numbers.{numbers}
use Rattle.lines.specs.Counts.{element_count}
use Rattle.lines.specs.Depths.{ones_in_line, output_ones, depth_of, greatest, line_depth}
use Rattle.lines.specs.Steps.Figures.{average_ones, least_depth}
use Rattle.lines.proofs.Tallies.{total_sum, total_same, total_least, weight_full}
use Rattle.lines.proofs.Depths.{depth_mono, le_greatest, greatest_cong, output_cong, greatest_of_eight, depth_of_eight}
use Rattle.lines.proofs.BitMatrix.{lines_columns, line_positive, entry_ones}

-- ---- any line

-- a factor taken out
sum_scaled : (n c : ℕ) (f : ℕ → ℕ) → sum Naturals n (λ i. f i * c) ≡ sum Naturals n f * c
unfolding sum
sum_scaled zero c f = sym (zero-mul c)
sum_scaled (suc n) c f = ap (λ (s : ℕ). s + f n * c) (sum_scaled n c f) ∙ sym (add-mul (sum Naturals n f) (f n) c)

-- the ones of an output bit, as a sum
pub output_sum : (p n b : ℕ) (line : ℕ → ℕ) → output_ones p n line b ≡ sum Naturals n (λ j. ones_in_line p (line j) b)
unfolding output_ones
output_sum p n b line = total_sum n (λ j. ones_in_line p (line j) b)

module _ (p n : ℕ) (line : ℕ → ℕ) (h : Modulus p) (small : (j : ℕ) → j < n → line j < 2 ^ degree p) where
  -- each nonzero entry gives each output bit a one
  entry_one : (b j : ℕ) → b < degree p → j < n → one_unless (eqb (line j) 0) ≤ ones_in_line p (line j) b
  entry_one b j k l = elim (ℕ_discrete (line j) 0) [
    | yes e ↦ rw (eq-eqb (line j) 0 e) zero-le
    | no e ↦ rw (ne_eqb (line j) 0 e) (line_positive p h (line j) b (omega arith) (small j l) k)
  ]

  pub weight_ones : (b : ℕ) → b < degree p → weight (numbers p) (tabulate n line) ≤ output_ones p n line b
  weight_ones b k = rw (weight_tabulate (numbers p) n line, output_sum p n b line) (sum_le n _ _ (λ j l. entry_one b j k l))

  -- all ones together: the elements' counts, and m for each nonzero entry
  pub ones_total : sum Naturals (degree p) (output_ones p n line) ≡ element_count p n line + weight (numbers p) (tabulate n line) * degree p
  unfolding element_count
  ones_total =
      sum_cong Naturals (degree p) _ _ (λ b l. output_sum p n b line)
      ∙ sum_swap Naturals naturals (degree p) n (λ b j. ones_in_line p (line j) b)
      ∙ sum_cong Naturals n _ _ (λ j l. lines_columns p h (line j) ∙ entry_ones p h (line j) (small j l))
      ∙ sum_plus Naturals naturals n (λ j. xor_count p (line j)) (λ j. one_unless (eqb (line j) 0) * degree p)
      ∙ ap₂ ◌+◌ (sym (total_sum n (λ j. xor_count p (line j)))) (sum_scaled n (degree p) (λ j. one_unless (eqb (line j) 0)))
      ∙ ap (λ (x : ℕ). element_count p n line + x * degree p) (sym (weight_tabulate (numbers p) n line))

-- ---- a line without zeros

-- where each is larger by c, so is the greatest
greatest_more : (m c : ℕ) (f g : ℕ → ℕ) → ((i : ℕ) → i < suc m → f i + c ≤ g i) → greatest (suc m) f + c ≤ greatest (suc m) g
unfolding greatest
greatest_more zero c f g h =
    subst (λ (x : ℕ). x ≤ max 0 (g 0)) (add-max-add_right 0 (f 0) c)
    (le_trans (max-le (omega (arith, h 0 (le_refl 1))) (h 0 (le_refl 1))) (le-max_right 0 (g 0)))
greatest_more (suc m) c f g h =
    subst (λ (x : ℕ). x ≤ max (greatest (suc m) g) (g (suc m))) (add-max-add_right (greatest (suc m) f) (f (suc m)) c)
    (max-le (le_trans (greatest_more m c f g (λ i l. h i (omega arith))) (le-max_left _ _)) (le_trans (h (suc m) (le_refl _)) (le-max_right _ _)))

module _ (p n : ℕ) (line : ℕ → ℕ) (h : Modulus p) (small : (j : ℕ) → j < n → line j < 2 ^ degree p) (some : (j : ℕ) → j < n → 0 < line j) where
  -- each entry behind the first k adds a one to every output bit
  ones_front : (k b : ℕ) → k ≤ n → b < degree p → output_ones p k line b + (n - k) ≤ output_ones p n line b
  unfolding output_ones
  ones_front k b l m =
      let all : k + (n - k) ≡ n = omega arith in
      subst (λ (e : ℕ). output_ones p k line b + (n - k) ≤ output_ones p e line b) all
      (subst (λ (e : ℕ). output_ones p k line b + e ≤ output_ones p (k + (n - k)) line b) (one-mul (n - k))
      (total_least (λ j. ones_in_line p (line j) b) 1 k (n - k) (λ j x y. line_positive p h (line j) b (some j (omega arith)) (small j (omega arith)) m)))

  greatest_front : (k : ℕ) → k ≤ n → greatest 8 (output_ones p k line) + (n - k) ≤ greatest 8 (output_ones p n line)
  greatest_front k l =
      let m = degree p - 1 in
      let is : degree p ≡ suc m = omega (arith, (polynomial p h).least) in
      rw (greatest_of_eight p k line h, greatest_of_eight p n line h, is)
      (greatest_more m (n - k) (output_ones p k line) (output_ones p n line) (λ b s. ones_front k b l (omega arith)))

  -- some output bit has no fewer ones than the average
  average_le : average_ones p n (element_count p n line) ≤ greatest (degree p) (output_ones p n line)
  unfolding average_ones
  average_le =
      let m = degree p in
      let g = greatest m (output_ones p n line) in
      let count = element_count p n line in
      let few : sum Naturals m (output_ones p n line) ≤ m * g =
      rw (← total_same m g, total_sum m (λ b. g)) (sum_le m (output_ones p n line) (λ b. g) (λ b l. le_greatest m (output_ones p n line) b l)) in
      let all = ones_total p n line h small ∙ ap (λ (w : ℕ). count + w * m) (weight_full p n line (λ j l (e : line j ≡ 0). omega (arith, some j l))) in
      let share = div-mul-le_self (count + m - 1) m in
      let less : (n + (count + m - 1) / m) * m < suc g * m =
      omega (arith, (polynomial p h).least, add-mul n ((count + m - 1) / m) m, suc-mul g m, mul_comm m g) in
      omega (arith, lt_of_mul-lt-mul_right m less)

  -- a line is at least as deep as its first k entries and its count tell
  pub least_depth_le : (k : ℕ) → k ≤ n → least_depth p n line k (element_count p n line) ≤ line_depth p n line
  unfolding least_depth
  least_depth_le k l =
      rw (← depth_of_eight p n line h)
      (max-le (depth_mono _ _ (greatest_front k l)) (depth_mono _ _ (rw (greatest_of_eight p n line h) average_le)))

-- of a whole line no less than its depth is told
pub least_depth_whole : (p n count : ℕ) (line : ℕ → ℕ) → Modulus p → line_depth p n line ≤ least_depth p n line n count
unfolding least_depth
least_depth_whole p n count line h =
    rw (← depth_of_eight p n line h) (le_trans (depth_mono _ _ (omega arith)) (le-max_left (depth_of (greatest 8 (output_ones p n line) + (n - n))) _))

pub least_depth_cong : (p n k count : ℕ) (row row' : ℕ → ℕ) → ((j : ℕ) → j < k → row j ≡ row' j) → least_depth p n row k count ≡ least_depth p n row' k count
unfolding least_depth
least_depth_cong p n k count row row' e =
    ap (λ (g : ℕ). max (depth_of (g + (n - k))) (depth_of (average_ones p n count))) (greatest_cong 8 _ _ (λ b l. output_cong p k b row row' e))
