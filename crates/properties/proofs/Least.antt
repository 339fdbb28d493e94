-- The search over choices of columns and lines finds the branch number. Assumes nothing.
use mathlib.Core.Path.{◌≡◌, refl}
use mathlib.Core.Bool.{Bool, true, false, false≢true}
use mathlib.Core.List.{List}
use mathlib.Core.Logic.{⊎_elim}
use Prim.Native.Nat.{ℕ, zero, suc, ◌+◌, ◌-◌, ◌^◌, ◌≤◌, ◌<◌}
use native.Mathlib.Nat.{le_refl, le_trans, le_antisymm, not-suc-le-zero, le_of_suc-le-suc, eq-or-lt_of_le}
use native.Mathlib.Omega.{arith}
use lib.ListN.{length, get_or}
use Rattle.algebra.specs.Operations.{Operations}
use Rattle.algebra.specs.Matrix.{branch_number, chosen, block, has_kernel}
use Rattle.algebra.proofs.Choices.{chosen_length}
use Rattle.field.specs.Polynomial.{Modulus, degree}
use Rattle.lines.specs.Numbers.{numbers, elements}
use Rattle.properties.specs.Steps.Pairs.{lowered, lines_kernel, over_lines, over_pairs}
use Rattle.matrix.proofs.Theorems.{branch_below, branch_reached, branch_most}

-- ---- one choice

lowered_le : (t : Bool) (a best : ℕ) → lowered t a best ≤ best
lowered_le true a best = omega arith
lowered_le false a best = le_refl best

lowered_at : (t : Bool) (a best : ℕ) → t ≡ true → lowered t a best ≤ a
lowered_at true a best e = omega arith
lowered_at false a best e = absurd (false≢true e)

lowered_ge : (t : Bool) (a best b : ℕ) → b ≤ best → (t ≡ true → b ≤ a) → b ≤ lowered t a best
lowered_ge true a best b l h = omega (arith, h refl)
lowered_ge false a best b l h = l

-- ---- all choices

module _ (K : Operations) (all : List K.Element) (n : ℕ) where
  -- a bound on every choice of lines bounds them all
  lines_ge : (c : ℕ) (g : ℕ → ℕ → K.Element) (b best : ℕ) → b ≤ best
      → ((r : ℕ) → lines_kernel K all n c g r ≡ true → b ≤ c + (n - length (chosen n r)))
      → (k : ℕ) → b ≤ over_lines K all n c g k best
  unfolding over_lines
  lines_ge c g b best l h zero = l
  lines_ge c g b best l h (suc r) =
      lowered_ge (lines_kernel K all n c g r) (c + (n - length (chosen n r))) (over_lines K all n c g r best) b (lines_ge c g b best l h r) (h r)

  -- nothing is raised
  lines_le : (c : ℕ) (g : ℕ → ℕ → K.Element) (k best : ℕ) → over_lines K all n c g k best ≤ best
  unfolding over_lines
  lines_le c g zero best = le_refl best
  lines_le c g (suc r) best =
      le_trans (lowered_le (lines_kernel K all n c g r) (c + (n - length (chosen n r))) (over_lines K all n c g r best)) (lines_le c g r best)

  -- what one choice gives bounds the least
  lines_reach : (c : ℕ) (g : ℕ → ℕ → K.Element) (k best r : ℕ) → r < k → lines_kernel K all n c g r ≡ true
      → over_lines K all n c g k best ≤ c + (n - length (chosen n r))
  unfolding over_lines
  lines_reach c g zero best r l e = absurd (not-suc-le-zero l)
  lines_reach c g (suc k) best r l e =
      ⊎_elim
      (λ (q : r ≡ k). rw q (lowered_at (lines_kernel K all n c g k) (c + (n - length (chosen n k))) (over_lines K all n c g k best) (rw q at e)))
      (λ (m : r < k).
      le_trans (lowered_le (lines_kernel K all n c g k) (c + (n - length (chosen n k))) (over_lines K all n c g k best)) (lines_reach c g k best r m e))
      (eq-or-lt_of_le (le_of_suc-le-suc l))

  -- the same for pairs: what the columns s and the lines r give
  module _ (f : ℕ → ℕ → K.Element) where
    unfoldable pair_kernel : ℕ → ℕ → Bool
    pair_kernel r s = has_kernel K all (length (chosen n s)) (length (chosen n r)) (block f (chosen n r) (chosen n s))

    pairs_ge : (b best : ℕ) → b ≤ best
        → ((r s : ℕ) → pair_kernel r s ≡ true → b ≤ length (chosen n s) + (n - length (chosen n r)))
        → (k : ℕ) → b ≤ over_pairs K all n f k best
    unfolding over_pairs lines_kernel pair_kernel block
    pairs_ge b best l h zero = l
    pairs_ge b best l h (suc s) =
        lines_ge (length (chosen n s)) (λ i j. f i (get_or (chosen n s) j 0)) b (over_pairs K all n f s best) (pairs_ge b best l h s)
        (λ r e. h r s e) (2 ^ n)

    pairs_reach : (k best r s : ℕ) → s < k → r < 2 ^ n → pair_kernel r s ≡ true
        → over_pairs K all n f k best ≤ length (chosen n s) + (n - length (chosen n r))
    unfolding over_pairs lines_kernel pair_kernel block
    pairs_reach zero best r s l m e = absurd (not-suc-le-zero l)
    pairs_reach (suc k) best r s l m e =
        ⊎_elim
        (λ (q : s ≡ k).
        rw q (lines_reach (length (chosen n k)) (λ i j. f i (get_or (chosen n k) j 0)) (2 ^ n) (over_pairs K all n f k best) r m (rw q at e)))
        (λ (o : s < k).
        le_trans (lines_le (length (chosen n k)) (λ i j. f i (get_or (chosen n k) j 0)) (2 ^ n) (over_pairs K all n f k best))
        (pairs_reach k best r s o m e))
        (eq-or-lt_of_le (le_of_suc-le-suc l))

-- the least of them is the branch number
pub pairs_branch : (p : ℕ) → Modulus p → (n : ℕ) (f : ℕ → ℕ → ℕ) → ((i j : ℕ) → i < n → j < n → f i j < 2 ^ degree p) → 0 < n
    → over_pairs (numbers p) (elements p) n f (2 ^ n) (suc n) ≡ branch_number (numbers p) (elements p) n f
unfolding pair_kernel
pairs_branch p h n f below positive =
    le_antisymm
    (let w = branch_reached p h n f below positive in
    let r = w.0 in
    let s = w.1 in
    omega (arith, pairs_reach (numbers p) (elements p) n f (2 ^ n) (suc n) r s w.3 w.2 w.4, w.5, chosen_length n r))
    (pairs_ge (numbers p) (elements p) n f (branch_number (numbers p) (elements p) n f) (suc n) (branch_most p h n f below positive)
    (λ r s e. omega (arith, branch_below p h n f below r s e))
    (2 ^ n))
