-- The faults of the calls on matrices in the order in which they are looked at, and what the calls yield. Assumes nothing.
use Rattle.std.specs.Prelude.{Bool, true, false, not, ◌||◌, List, [], ◌∷◌, ℕ, eqb, ltb, get_or, replicate, Result}
use Rattle.refusal.specs.declared.Refusal.{Refusal}
use Rattle.refusal.specs.Refusals.{Fault, Answer, answer_by}
use Rattle.algebra.specs.Matrix.{branch_number, is_mds, is_involution}
use Rattle.field.specs.Polynomial.{some_below}
use Rattle.field.specs.Faults.{is_too_large, call_faults}
use Rattle.lines.specs.Numbers.{numbers, elements}
use Rattle.lines.specs.Counts.{matrix_count}
use Rattle.checks.specs.declared.Found.{Found}

-- 1 for yes, 0 for no
abbrev pub yes_no : Bool → ℕ
yes_no true = 1
yes_no false = 0

-- ---- faults

-- 5: no order from 1 to 8; of the halved product, none of 2, 4 and 8
unfoldable pub is_wrong_order : ℕ → Bool
is_wrong_order n = eqb n 0 || ltb 8 n

unfoldable pub is_wrong_halved_order : ℕ → Bool
is_wrong_halved_order n = not (eqb n 2 || eqb n 4 || eqb n 8)

-- 7: some word of a row, or some entry of a matrix, is 2^m or more
unfoldable pub some_word_too_large : ℕ → ℕ → List ℕ → Bool
some_word_too_large p n row = some_below n (λ j. is_too_large p (get_or row j 0))

unfoldable pub some_entry_too_large : ℕ → ℕ → (ℕ → ℕ → ℕ) → Bool
some_entry_too_large p n f = some_below n (λ i. some_below n (λ j. is_too_large p (f i j)))

-- the determinant of a block of size n: 5 above 8
unfoldable pub determinant_faults : ℕ → ℕ → (ℕ → ℕ → ℕ) → List Fault
determinant_faults p n f = call_faults p (ltb 8 n) false (some_entry_too_large p n f) false

-- the calls on a matrix of order n
unfoldable pub matrix_faults : ℕ → ℕ → (ℕ → ℕ → ℕ) → List Fault
matrix_faults p n f = call_faults p (is_wrong_order n) false (some_entry_too_large p n f) false

-- the XOR count of a row of n elements
unfoldable pub row_faults : ℕ → ℕ → List ℕ → List Fault
row_faults p n row = call_faults p (is_wrong_order n) false (some_word_too_large p n row) false

-- the plain product of a matrix and an input x
unfoldable pub plain_faults : ℕ → ℕ → (ℕ → ℕ → ℕ) → List ℕ → List Fault
plain_faults p n f x = call_faults p (is_wrong_order n) false (some_entry_too_large p n f || some_word_too_large p n x) false

-- the halved product of a row's Hadamard matrix and an input x
unfoldable pub halved_faults : ℕ → ℕ → List ℕ → List ℕ → List Fault
halved_faults p n row x = call_faults p (is_wrong_halved_order n) false (some_word_too_large p n row || some_word_too_large p n x) false

-- ---- what is returned

-- with eight words
abbrev pub words_of : Result (List ℕ) Refusal → Answer (List ℕ)
words_of = answer_by (λ w. w) (replicate 8 0)

-- with the four numbers of a check
abbrev pub check_found : Found → List ℕ
check_found f = f.branch ∷ yes_no f.mds ∷ yes_no f.involution ∷ f.count ∷ []

abbrev pub checked_of : Result Found Refusal → Answer (List ℕ)
checked_of = answer_by check_found (replicate 4 0)

-- what is found of a matrix: branch number, MDS and involution (1 or 0), XOR count
unfoldable pub check_of : ℕ → ℕ → (ℕ → ℕ → ℕ) → List ℕ
check_of p n f =
    branch_number (numbers p) (elements p) n f
    ∷ yes_no (is_mds (numbers p) (elements p) n f)
    ∷ yes_no (is_involution (numbers p) (elements p) n f)
    ∷ matrix_count p n f
    ∷ []
