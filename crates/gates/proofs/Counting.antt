-- The number of gates is the matrix count (`gates_count`). An output bit with t inputs takes t - 1 gates, none for no input. A line with w nonzero
-- entries has at least w inputs for each bit, so where w is not 0 its m bits take m gates less than they have inputs. Assumes nothing.
use mathlib.Core.Path.{◌≡◌, refl, sym, ap, ap₂, ◌∙◌}
use mathlib.Core.Bool.{cond}
use mathlib.Core.Logic.{⊎_elim}
use mathlib.Core.List.{List, [], ◌∷◌}
use Prim.Native.Nat.{ℕ, zero, suc, ◌+◌, ◌-◌, ◌*◌, ◌/◌, ◌%◌, ◌^◌, ◌≤◌, ◌<◌}
use native.Mathlib.Nat.{le_refl, zero-mul, suc-mul, eq-zero-or-pos}
use native.Mathlib.Decide.{ℕ_discrete}
use native.Mathlib.Omega.{arith}
use borrow.Author.Tests.{ne_eqb}
use lib.Dec.{eqb}
use lib.ListN.{length, length-append}
use Rattle.algebra.specs.Matrix.{tabulate, sum, weight}
use Rattle.algebra.proofs.Words.{one_unless}
use Rattle.algebra.proofs.Sums.{Naturals, naturals, sum_cong, sum_flat}
use Rattle.algebra.proofs.Weights.{sum_le, weight_tabulate}
use Rattle.field.specs.Polynomial.{Modulus, degree, product}
use Rattle.lines.specs.Numbers.{numbers}
use Rattle.lines.specs.Counts.{element_count, addition_count, row_count, matrix_count}
use Rattle.lines.proofs.Tallies.{total_sum, total_rows, zero_line}
use Rattle.lines.specs.Depths.{bit, output_ones}
use Rattle.lines.proofs.Bits.{at_bit}
use Rattle.lines.proofs.BitMatrix.{line_sum, sum_none}
use Rattle.lines.proofs.LineOnes.{output_sum, weight_ones, ones_total}
use Rattle.gates.specs.Gates.{is_input, inputs_of, outputs, joining, gates_of, gates_from, gates_of_matrix}
use Rattle.gates.proofs.Lists.{list_sum, length_sum, tabulate_sum, passing_sum}

-- ---- the gates of an output bit

pub length_joining : (next running : ℕ) (l : List ℕ) → length (joining next running l) ≡ length l
unfolding joining
length_joining next running [] = refl
length_joining next running (v ∷ l) = ap suc (length_joining (suc next) next l)

-- one less than its inputs
pub length_gates : (next : ℕ) (l : List ℕ) → length (gates_of next l) ≡ length l - 1
unfolding gates_of
length_gates next [] = refl
length_gates next (v ∷ l) = omega (arith, length_joining next v l)

-- one output bit more
pub length_more : (next : ℕ) (l : List ℕ) (outs : List (List ℕ))
    → length (gates_from next (l ∷ outs)) ≡ length (gates_of next l) + length (gates_from (next + length (gates_of next l)) outs)
unfolding gates_from
length_more next l outs = length-append (gates_of next l) (gates_from (next + length (gates_of next l)) outs)

-- of all outputs together
pub length_from : (next : ℕ) (outs : List (List ℕ)) → length (gates_from next outs) ≡ list_sum Naturals (λ l. length l - 1) outs
unfolding gates_from list_sum
length_from next [] = refl
length_from next (l ∷ outs) =
    length_more next l outs ∙ ap₂ ◌+◌ (length_gates next l) (length_from (next + length (gates_of next l)) outs)

-- ---- sums

-- one taken from each of k numbers that are not 0
sum_less : (k : ℕ) (f : ℕ → ℕ) → ((i : ℕ) → i < k → 0 < f i) → sum Naturals k (λ i. f i - 1) + k ≡ sum Naturals k f
unfolding sum
sum_less zero f h = refl
sum_less (suc k) f h = omega (arith, sum_less k f (λ i l. h i (omega arith)), h k (le_refl (suc k)))

-- ---- the inputs of an output bit

-- they are the ones of the line's entries, which decide on the bit's depth
pub inputs_ones : (p n b : ℕ) (line : ℕ → ℕ) → length (inputs_of p n line b) ≡ output_ones p n line b
unfolding inputs_of is_input
inputs_ones p n b line =
    length_sum (inputs_of p n line b)
    ∙ passing_sum Naturals naturals (is_input p line b) (λ v. 1) (n * degree p)
    ∙ sum_cong Naturals (n * degree p) _ (λ v. bit b (product p (line (v / degree p)) (2 ^ (v % degree p))))
    (λ v l. at_bit (λ d. cond (eqb d 1) 1 0 ≡ d) refl refl b (product p (line (v / degree p)) (2 ^ (v % degree p))))
    ∙ sum_flat Naturals naturals (degree p) n (λ j k. bit b (product p (line j) (2 ^ k)))
    ∙ sum_cong Naturals n _ _ (λ j l. sym (line_sum p (line j) b))
    ∙ sym (output_sum p n b line)

-- ---- the gates of a line

module _ (p n : ℕ) (line : ℕ → ℕ) (h : Modulus p) (small : (j : ℕ) → j < n → line j < 2 ^ degree p) where
  -- w, the nonzero entries
  abbrev w : ℕ
  w = weight (numbers p) (tabulate n line)

  w_sum : w ≡ sum Naturals n (λ j. one_unless (eqb (line j) 0))
  w_sum = weight_tabulate (numbers p) n line

  -- each nonzero entry gives each bit an input
  w_inputs : (b : ℕ) → b < degree p → w ≤ length (inputs_of p n line b)
  w_inputs b k = rw (inputs_ones p n b line) (weight_ones p n line h small b k)

  -- all inputs together: the elements' counts, and m for each nonzero entry
  inputs_total : sum Naturals (degree p) (λ b. length (inputs_of p n line b)) ≡ element_count p n line + w * degree p
  inputs_total = sum_cong Naturals (degree p) _ _ (λ b l. inputs_ones p n b line) ∙ ones_total p n line h small

  -- where some entry is not 0
  line_some : 0 < w → sum Naturals (degree p) (λ b. length (inputs_of p n line b) - 1) ≡ row_count p n line
  unfolding row_count addition_count
  line_some pos =
      let less = sum_less (degree p) (λ b. length (inputs_of p n line b)) (λ b k. omega (arith, w_inputs b k)) in
      let split : w * degree p ≡ (w - 1) * degree p + degree p =
      ap (λ (x : ℕ). x * degree p) (omega arith) ∙ suc-mul (w - 1) (degree p) in
      omega (arith, inputs_total)

  -- where all are 0
  entries_zero : w ≡ 0 → (j : ℕ) → j < n → line j ≡ 0
  entries_zero e j l = elim (ℕ_discrete (line j) 0) [
    | yes q ↦ q
    | no q ↦
        let one : one_unless (eqb (line j) 0) ≡ 1 = rw (ne_eqb (line j) 0 q) refl in
        let none : one_unless (eqb (line j) 0) ≡ 0 = sum_none n _ (sym w_sum ∙ e) j l in
        let z : ⊥ = omega arith in
        absurd z
  ]

  line_none : w ≡ 0 → sum Naturals (degree p) (λ b. length (inputs_of p n line b) - 1) ≡ row_count p n line
  line_none e =
      let none : row_count p n line ≡ 0 = zero_line p n line (entries_zero e) in
      let few = sum_le (degree p) (λ b. length (inputs_of p n line b) - 1) (λ b. length (inputs_of p n line b)) (λ b l. omega arith) in
      let all : sum Naturals (degree p) (λ b. length (inputs_of p n line b)) ≡ element_count p n line =
      inputs_total ∙ ap (λ (x : ℕ). element_count p n line + x * degree p) e ∙ omega (arith, zero-mul (degree p)) in
      omega (arith, row_parts)
    where
      row_parts : element_count p n line ≤ row_count p n line
      row_parts = unfold row_count in omega arith

  -- a line's bits take as many gates as the line counts
  pub line_gates : sum Naturals (degree p) (λ b. length (inputs_of p n line b) - 1) ≡ row_count p n line
  line_gates = ⊎_elim (λ (e : w ≡ 0). line_none e) (λ (q : 0 < w). line_some q) (eq-zero-or-pos w)

-- ---- the gates of a matrix

-- the number of gates is the matrix count
pub gates_count : (p n : ℕ) (f : ℕ → ℕ → ℕ) → Modulus p → ((i j : ℕ) → i < n → j < n → f i j < 2 ^ degree p)
    → length (gates_of_matrix p n f) ≡ matrix_count p n f
unfolding gates_of_matrix outputs
gates_count p n f h small =
    length_from _ (outputs p n f)
    ∙ tabulate_sum Naturals naturals (λ l. length l - 1) (n * degree p) (λ o. inputs_of p n (f (o / degree p)) (o % degree p))
    ∙ sum_flat Naturals naturals (degree p) n (λ i b. length (inputs_of p n (f i) b) - 1)
    ∙ sum_cong Naturals n _ _ (λ i l. line_gates p n (f i) h (λ j m. small i j l m))
    ∙ sym (total_sum n (λ i. row_count p n (f i)))
    ∙ total_rows p n f
