-- The values of a request, as they are read one by one; order and count; and matrices with the same entries.
-- Assumes nothing.
use mathlib.Core.Path.{◌≡◌, sym, ap, ◌∙◌}
use mathlib.Core.Bool.{Bool, true, false, not, ◌||◌}
use mathlib.Core.List.{List, [], ◌∷◌}
use Prim.Native.Nat.{ℕ, suc, ◌+◌, ◌*◌, ◌^◌, ◌≤◌, ◌<◌, zero-le}
use native.Mathlib.Nat.{mul-le-mul, le_refl, suc-mul, zero-add}
use native.Mathlib.Omega.{arith}
use borrow.Author.Tests.{ltb-false, eq-eqb, ne_eqb}
use lib.Dec.{eqb, ltb}
use lib.ListN.{length, get_or, drop}
use Rattle.refusal.proofs.Tests.{or_none}
use Rattle.algebra.specs.Matrix.{is_mds, is_involution}
use Rattle.algebra.proofs.Bridge.{branch_cong, mds_cong, involution_cong}
use Rattle.field.specs.Polynomial.{Modulus, degree}
use Rattle.field.specs.Faults.{is_too_large}
use Rattle.field.proofs.Calls.{not_too_large}
use Rattle.lines.specs.Numbers.{numbers, elements}
use Rattle.lines.specs.Counts.{matrix_count}
use Rattle.lines.proofs.Tallies.{row_count_cong, total_cong, matrix_count_le}
use Rattle.matrix.proofs.Theorems.{branch_most}
use Rattle.checks.specs.Answers.{yes_no, check_of}
use Rattle.rows.specs.Candidates.{some_too_large}
use Rattle.lightest.proofs.LetterCounts.{fits_at}
use Rattle.search.proofs.Refusals.{large_here}
use Rattle.text.specs.Reading.{value_at, values_from}
use Rattle.text.specs.Text.{SixDigits}
use Rattle.text.proofs.Form.{six_none, six_more}
use Rattle.text.proofs.Lengths.{length_values_from}
use Rattle.text.proofs.Requests.{value_of}
use Rattle.reply.specs.Due.{entries_of, check_lines}

-- ---- the values, as they are read

value_read : (s : List ℕ) (n k : ℕ) → k < n → get_or (values_from s 0 n) k 0 ≡ value_at s k
value_read s n k h = value_of s 0 n k h ∙ ap (value_at s) (zero-add k)

-- the test of value i and of those behind it
pub large_read : (p : ℕ) (s : List ℕ) (n i : ℕ) → i < n
    → some_too_large p (drop i (values_from s 0 n)) ≡ (is_too_large p (value_at s i) || some_too_large p (drop (suc i) (values_from s 0 n)))
large_read p s n i h = rw (← value_read s n i h) (large_here (values_from s 0 n) i (rw (length_values_from s 0 n) h) p)

-- where no value is too large, each is an element
pub value_small : (p : ℕ) (s : List ℕ) (n k : ℕ) → some_too_large p (values_from s 0 n) ≡ false → k < n → value_at s k < 2 ^ degree p
value_small p s n k e h =
    not_too_large p (value_at s k) (rw (value_read s n k h) at (fits_at p (values_from s 0 n) e k (rw (length_values_from s 0 n) h)))

-- ---- order and count

-- a degree from 2 to 8
pub degree_passed : (m : ℕ) → (ltb m 2 || ltb 8 m) ≡ false → (2 ≤ m) × (m ≤ 8)
degree_passed m e = let r = or_none (ltb m 2) (ltb 8 m) e in (ltb-false m 2 r.0, ltb-false 8 m r.1)

-- how many values there are is the count
pub count_wrong : (s : List ℕ) (count k : ℕ) → (count ≡ k → ⊥) → not (eqb (length (values_from s 0 count)) k) ≡ true
count_wrong s count k h = rw (length_values_from s 0 count, ne_eqb count k h)

pub count_right : (s : List ℕ) (count k : ℕ) → count ≡ k → not (eqb (length (values_from s 0 count)) k) ≡ false
count_right s count k e = rw (length_values_from s 0 count, eq-eqb count k e)

-- ---- the matrix

-- the place of an entry
pub place_below_holds : (n i j : ℕ) → i < n → j < n → i * n + j < n * n
place_below_holds n i j l m = omega (arith, mul-le-mul l (le_refl n), suc-mul i n)

-- the entries of the values, as they are read
pub entries_read : (s : List ℕ) (n i j : ℕ) → i < n → j < n → entries_of n (values_from s 0 (n * n)) i j ≡ value_at s (i * n + j)
unfolding entries_of
entries_read s n i j l m = value_read s (n * n) (i * n + j) (place_below_holds n i j l m)

matrix_count_cong : (p n : ℕ) (f g : ℕ → ℕ → ℕ) → ((i j : ℕ) → i < n → j < n → f i j ≡ g i j) → matrix_count p n f ≡ matrix_count p n g
unfolding matrix_count
matrix_count_cong p n f g e = total_cong n _ _ (λ i l. row_count_cong p n (f i) (g i) (λ j m. e i j l m))

-- only the entries below the order count
pub check_cong : (p n : ℕ) (f g : ℕ → ℕ → ℕ) → ((i j : ℕ) → i < n → j < n → f i j ≡ g i j) → check_of p n f ≡ check_of p n g
unfolding check_of
check_cong p n f g e =
    rw (
      branch_cong (numbers p) n f g e (elements p),
      mds_cong (numbers p) n f g e (elements p),
      involution_cong (numbers p) n f g e (elements p),
      matrix_count_cong p n f g e,
    )

yes_no_le : (b : Bool) → yes_no b ≤ 1
yes_no_le true = le_refl 1
yes_no_le false = zero-le

-- every number of a check fits its columns
pub six_check : (p n : ℕ) (f : ℕ → ℕ → ℕ) → Modulus p → 1 ≤ n → n ≤ 8 → ((i j : ℕ) → i < n → j < n → f i j < 2 ^ degree p)
    → SixDigits (0 ∷ check_of p n f)
unfolding check_of
six_check p n f h l u b =
    six_more _ zero-le
    (six_more _ (omega (arith, branch_most p h n f b l))
    (six_more _ (omega (arith, yes_no_le (is_mds (numbers p) (elements p) n f)))
    (six_more _ (omega (arith, yes_no_le (is_involution (numbers p) (elements p) n f)))
    (six_more _ (omega (arith, matrix_count_le p n f h u)) six_none))))

pub check_read : (p : ℕ) (s : List ℕ) (n count : ℕ) → count ≡ n * n → check_lines p n (λ i j. value_at s (i * n + j)) ≡ check_lines p n (entries_of n (values_from s 0 count))
unfolding check_lines
check_read p s n count e =
    rw e
    (ap (λ (l : List ℕ). (0 ∷ l) ∷ [])
    (sym (check_cong p n (entries_of n (values_from s 0 (n * n))) (λ i j. value_at s (i * n + j)) (entries_read s n))))
