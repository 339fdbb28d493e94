-- Document 01's example: the search over 19 and its answer, byte by byte; a leading zero; a budget; the number 0.
-- Assumes nothing.
use mathlib.Core.Path.{◌≡◌, refl}
use mathlib.Core.Bool.{true, false}
use mathlib.Core.List.{List, [], ◌∷◌}
use Prim.Native.Nat.{ℕ}
use lib.ListN.{set}
use Rattle.text.specs.Text.{column_byte, column, columns, line_text, line_end, value_text, further_numbers, request_text, answer_text}
use Rattle.text.specs.Reading.{number_at, value_at, values_from, numbers_from, kind_of, polynomial_of, order_of, count_of, further_of, budget_of, line_one_length, values_of, rewritten, same_bytes, in_form}

pub request : List ℕ
request =
    32 ∷ 32 ∷ 32 ∷ 32 ∷ 32 ∷ 49 ∷ 32 ∷ 32 ∷ 32 ∷ 32 ∷ 49 ∷ 57 ∷ 32 ∷ 32 ∷ 32 ∷ 32 ∷ 32 ∷ 52 ∷ 32 ∷ 32 ∷ 32 ∷ 32 ∷ 32 ∷ 52 ∷ 10
    ∷ 32 ∷ 32 ∷ 32 ∷ 32 ∷ 32 ∷ 49 ∷ 32 ∷ 32 ∷ 32 ∷ 32 ∷ 32 ∷ 52 ∷ 32 ∷ 32 ∷ 32 ∷ 32 ∷ 32 ∷ 57 ∷ 32 ∷ 32 ∷ 32 ∷ 32 ∷ 49 ∷ 51 ∷ 10
    ∷ []

pub answer : List ℕ
answer =
    32 ∷ 32 ∷ 32 ∷ 32 ∷ 32 ∷ 48 ∷ 32 ∷ 32 ∷ 32 ∷ 32 ∷ 32 ∷ 54 ∷ 32 ∷ 32 ∷ 32 ∷ 32 ∷ 49 ∷ 56 ∷ 32 ∷ 32 ∷ 32 ∷ 32 ∷ 55 ∷ 50 ∷ 10
    ∷ 32 ∷ 32 ∷ 32 ∷ 32 ∷ 32 ∷ 49 ∷ 32 ∷ 32 ∷ 32 ∷ 32 ∷ 32 ∷ 52 ∷ 32 ∷ 32 ∷ 32 ∷ 32 ∷ 32 ∷ 57 ∷ 32 ∷ 32 ∷ 32 ∷ 32 ∷ 49 ∷ 51 ∷ 10
    ∷ []

pub the_request : request_text 1 19 4 [] (1 ∷ 4 ∷ 9 ∷ 13 ∷ []) ≡ request
unfolding request request_text line_text columns column column_byte value_text line_end
the_request = refl

pub the_answer : answer_text ((0 ∷ 6 ∷ 18 ∷ 72 ∷ []) ∷ (1 ∷ 4 ∷ 9 ∷ 13 ∷ []) ∷ []) ≡ answer
unfolding answer answer_text line_text columns column column_byte
the_answer = refl

pub the_request_read : in_form request ≡ true
unfolding request in_form rewritten same_bytes kind_of polynomial_of order_of count_of further_of further_numbers line_one_length values_of values_from numbers_from value_at number_at request_text line_text columns column column_byte value_text line_end
the_request_read = refl

-- a zero before the 1 of line one is refused
pub leading_zero_refused : in_form (set request 4 48) ≡ false
unfolding request in_form rewritten same_bytes kind_of polynomial_of order_of count_of further_of further_numbers line_one_length values_of values_from numbers_from value_at number_at request_text line_text columns column column_byte value_text line_end
leading_zero_refused = refl

-- the text of a kind with a budget
pub budgeted : List ℕ
budgeted = request_text 6 19 4 (999999 ∷ []) (1 ∷ 4 ∷ 9 ∷ 13 ∷ [])

pub the_budget_read : (in_form budgeted ≡ true) × (budget_of budgeted ≡ 999999) × (values_of budgeted ≡ 1 ∷ 4 ∷ 9 ∷ 13 ∷ [])
unfolding budgeted in_form rewritten same_bytes kind_of polynomial_of order_of count_of further_of budget_of further_numbers line_one_length values_of values_from numbers_from value_at number_at request_text line_text columns column column_byte value_text line_end
the_budget_read = (refl, refl, refl)

-- without the budget it is refused, and so is any other kind with one
pub no_budget_refused : in_form (request_text 6 19 4 [] (1 ∷ 4 ∷ 9 ∷ 13 ∷ [])) ≡ false
unfolding in_form rewritten same_bytes kind_of polynomial_of order_of count_of further_of further_numbers line_one_length values_of values_from numbers_from value_at number_at request_text line_text columns column column_byte value_text line_end
no_budget_refused = refl

pub other_budget_refused : in_form (request_text 1 19 4 (999999 ∷ []) (1 ∷ 4 ∷ 9 ∷ 13 ∷ [])) ≡ false
unfolding in_form rewritten same_bytes kind_of polynomial_of order_of count_of further_of further_numbers line_one_length values_of values_from numbers_from value_at number_at request_text line_text columns column column_byte value_text line_end
other_budget_refused = refl

-- 0 is one digit
pub zero_column : column 0 ≡ 32 ∷ 32 ∷ 32 ∷ 32 ∷ 32 ∷ 48 ∷ []
unfolding column column_byte
zero_column = refl
