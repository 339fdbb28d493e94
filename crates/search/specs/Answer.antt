-- The search over the candidates of a brief, in the words of documents 01 and 02: what the call answers, and what the result of the code says.
-- Assumes nothing.
use Rattle.std.specs.Prelude.{Bool, true, false, not, ◌&&◌, ◌||◌, List, [], ◌∷◌, ◌++◌, ℕ, ◌-◌, eqb, ltb, length, replicate, Result}
use Rattle.refusal.specs.declared.Refusal.{Refusal}
use Rattle.refusal.specs.Refusals.{Fault, fault, Answer, answer_after, answer_by}
use Rattle.field.specs.Faults.{call_faults}
use Rattle.rows.specs.Lightest.{Best, nothing, found}
use Rattle.rows.specs.Candidates.{some_too_large, some_bad}
use Rattle.rows.specs.declared.Family.{Family}
use Rattle.rows.specs.declared.Family.TheVariants.{Hadamard, Circulant}
use Rattle.rows.specs.Shape.{shape_of}
use Rattle.rows.specs.Keys.{sum_of, lightest_row}
use Rattle.search.specs.declared.LightestRow.{LightestRow}

-- ---- the call

-- 5: the order of a search for a Hadamard matrix is 4 or 8
unfoldable pub is_wrong_search_order : ℕ → Bool
is_wrong_search_order n = not (eqb n 4 || eqb n 8)

-- 6: 1 to 255 candidates for order 4, 1 to 16 for order 8
unfoldable pub is_wrong_search_count : ℕ → ℕ → Bool
is_wrong_search_count n count = eqb count 0 || (eqb n 4 && ltb 255 count) || (eqb n 8 && ltb 16 count)

-- 5: the order of a search for a circulant matrix is 2 to 8
unfoldable pub is_wrong_circulant_order : ℕ → Bool
is_wrong_circulant_order n = ltb n 2 || ltb 8 n

-- 6: 1 to 8 candidates, whatever the order
unfoldable pub is_wrong_circulant_count : ℕ → Bool
is_wrong_circulant_count count = eqb count 0 || ltb 8 count

-- 5 and 6 of a search, by the family of its matrices
abbrev pub is_wrong_order_for : Family → ℕ → Bool
is_wrong_order_for Hadamard n = is_wrong_search_order n
is_wrong_order_for Circulant n = is_wrong_circulant_order n

abbrev pub is_wrong_count_for : Family → ℕ → ℕ → Bool
is_wrong_count_for Hadamard n count = is_wrong_search_count n count
is_wrong_count_for Circulant n count = is_wrong_circulant_count count

-- 9: there is no row
abbrev pub is_none : Best → Bool
is_none nothing = true
is_none (found row) = false

-- 3 to 8: the faults of a brief, in the order in which they are looked at
abbrev pub brief_faults : Family → ℕ → ℕ → List ℕ → List Fault
brief_faults family p n candidates =
    call_faults p (is_wrong_order_for family n) (is_wrong_count_for family n (length candidates)) (some_too_large p candidates) (some_bad candidates)

-- the faults of a search whose lightest row this is: those of its brief, then 9
unfoldable pub search_faults : Family → ℕ → ℕ → List ℕ → Best → List Fault
search_faults family p n candidates best = brief_faults family p n candidates ++ fault 9 (is_none best) ∷ []

-- what a search finds: the sum of the row's element counts, and the row, filled up to eight entries with 0
pub record RowFound : Type 0 where
  pub sum : ℕ
  pub row : List ℕ

abbrev pub no_row : RowFound
no_row = record { sum = 0; row = replicate 8 0 }

abbrev pub row_found : ℕ → ℕ → Best → RowFound
row_found p n nothing = no_row
row_found p n (found row) = record { sum = sum_of p n row; row = row ++ replicate (8 - n) 0 }

-- what a search for matrices of a family with polynomial p and order n over the candidates answers: the first fault, or the lightest row
unfoldable pub search_answer : Family → ℕ → ℕ → List ℕ → Answer RowFound
search_answer family p n candidates =
    let best = lightest_row (shape_of family) p n candidates in
    answer_after no_row (search_faults family p n candidates best) (row_found p n best)

-- ---- what the code returns

-- the row that is told
abbrev pub row_told : LightestRow → RowFound
row_told r = record { sum = r.sum; row = r.row }

-- the answer of a search
abbrev pub says_search : Result LightestRow Refusal → Answer RowFound
says_search = answer_by row_told no_row
