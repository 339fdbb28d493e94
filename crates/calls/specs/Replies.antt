-- What is replied to a record, by the number of its call: what the contracts of the library say that the call yields. Assumes nothing.
use Rattle.std.specs.Prelude.{List, [], ◌∷◌, ◌++◌, map, ℕ, ◌-◌, ◌%◌, ◌^◌, get_or, replicate}
use Rattle.refusal.specs.Refusals.{Answer, answer, answer_after}
use Rattle.algebra.specs.Matrix.{apply, hadamard, det, branch_number, is_mds, is_involution}
use Rattle.field.specs.Polynomial.{degree, product, inverse, xor_count}
use Rattle.field.specs.Faults.{polynomial_faults, product_faults, inverse_faults, count_faults}
use Rattle.lines.specs.Numbers.{numbers, elements, entry}
use Rattle.lines.specs.Counts.{row_count, matrix_count}
use Rattle.checks.specs.Answers.{yes_no, determinant_faults, matrix_faults, row_faults, plain_faults, halved_faults, check_of}
use Rattle.rows.specs.declared.Family.TheVariants.{Hadamard, Circulant}
use Rattle.search.specs.Answer.{RowFound, search_answer}
use Rattle.walk.specs.Answer.{WalkFound, walk_answer}
use Rattle.calls.specs.Records.{call_in, polynomial_in, first_in, second_in, matrix_in, input_in, candidates_in, budget_in}

-- ---- the reply: the number that is returned, four values and eight words; what a call does not yield is 0

abbrev pub value_reply : Answer ℕ → List ℕ
value_reply a = a.number ∷ a.value ∷ 0 ∷ 0 ∷ 0 ∷ replicate 8 0

abbrev pub words_reply : Answer (List ℕ) → List ℕ
words_reply a = a.number ∷ 0 ∷ 0 ∷ 0 ∷ 0 ∷ a.value

abbrev pub check_reply : Answer (List ℕ) → List ℕ
check_reply a = a.number ∷ a.value ++ replicate 8 0

abbrev pub search_reply : Answer RowFound → List ℕ
search_reply a = a.number ∷ a.value.sum ∷ 0 ∷ 0 ∷ 0 ∷ a.value.row

-- of the rows tried the low 32 bits; no brief has 2 ^ 32 rows
abbrev pub walk_reply : Answer WalkFound → List ℕ
walk_reply a = a.number ∷ a.value.finished ∷ a.value.tried % 2 ^ 32 ∷ a.value.count ∷ a.value.bound ∷ a.value.row

-- ---- the calls, each at its number

-- nothing is called
abbrev pub no_answer : Answer ℕ
no_answer = answer 0 0

-- 1 degree, 2 product, 3 inverse, 4 XOR count, 5 determinant, 6 branch number, 7 MDS, 8 involution, 9 matrix count, 10 row count
unfoldable pub value_answers : ℕ → ℕ → ℕ → List (List ℕ) → List ℕ → List (Answer ℕ)
value_answers p a b m x =
    no_answer
    ∷ answer_after 0 (polynomial_faults p) (degree p)
    ∷ answer_after 0 (product_faults p a b) (product p a b)
    ∷ answer_after 0 (inverse_faults p a) (inverse p a)
    ∷ answer_after 0 (count_faults p a) (xor_count p a)
    ∷ answer_after 0 (determinant_faults p a (entry m)) (det (numbers p) a (entry m))
    ∷ answer_after 0 (matrix_faults p a (entry m)) (branch_number (numbers p) (elements p) a (entry m))
    ∷ answer_after 0 (matrix_faults p a (entry m)) (yes_no (is_mds (numbers p) (elements p) a (entry m)))
    ∷ answer_after 0 (matrix_faults p a (entry m)) (yes_no (is_involution (numbers p) (elements p) a (entry m)))
    ∷ answer_after 0 (matrix_faults p a (entry m)) (matrix_count p a (entry m))
    ∷ answer_after 0 (row_faults p a x) (row_count p a (λ j. get_or x j 0))
    ∷ []

-- eight words: those of a product of order n, and zeros behind them
abbrev pub eight_words : ℕ → List ℕ → List ℕ
eight_words n words = words ++ replicate (8 - n) 0

-- behind them 11 plain product, 12 halved product of the row that is the first line of the matrix, 13 check, 14 search, 15 search for a circulant
-- matrix, 16 walk
unfoldable pub replies : ℕ → ℕ → ℕ → List (List ℕ) → List ℕ → List ℕ → ℕ → List (List ℕ)
replies p a b m x candidates budget =
    let row = get_or m 0 [] in
    map value_reply (value_answers p a b m x)
    ++ words_reply (answer_after (replicate 8 0) (plain_faults p a (entry m) x) (eight_words a (apply (numbers p) a (entry m) x)))
    ∷ words_reply (answer_after (replicate 8 0) (halved_faults p a row x) (eight_words a (apply (numbers p) a (hadamard (numbers p) row) x)))
    ∷ check_reply (answer_after (replicate 4 0) (matrix_faults p a (entry m)) (check_of p a (entry m)))
    ∷ search_reply (search_answer Hadamard p a candidates)
    ∷ search_reply (search_answer Circulant p a candidates)
    ∷ walk_reply (walk_answer p a candidates budget)
    ∷ []

-- the reply to a call; to a number that no call has, nothing
unfoldable pub reply_to : ℕ → ℕ → ℕ → ℕ → List (List ℕ) → List ℕ → List ℕ → ℕ → List ℕ
reply_to call p a b m x candidates budget = get_or (replies p a b m x candidates budget) call (value_reply no_answer)

-- the reply to a record
unfoldable pub reply_of : List ℕ → List ℕ
reply_of bytes =
    reply_to (call_in bytes) (polynomial_in bytes) (first_in bytes) (second_in bytes) (matrix_in bytes) (input_in bytes) (candidates_in bytes) (budget_in bytes)
