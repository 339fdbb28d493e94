-- Numbers taken from their columns, and the test whether a text is in form. A number is read without a look at its spaces;
-- the text is in form if the request text of the numbers read is the text itself (`in_form_exactly` of proofs/Requests.antt: this is InForm).
-- Assumes nothing.
use Rattle.std.specs.Prelude.{Bool, true, false, not, ◌&&◌, List, [], ◌∷◌, ℕ, zero, suc, ◌+◌, ◌*◌, ◌/◌, ◌%◌, length, get_or, drop, leb, eqb, Result}
use Rattle.refusal.specs.declared.Refusal.{Refusal}
use Rattle.refusal.specs.Refusals.{fault, Answer, answer_by, answer_after}
use Rattle.text.specs.declared.Header.{Header}
use Rattle.text.specs.Text.{further_numbers, request_text}

-- the digit in a column: 0 to 9 of bytes 48 to 57, and 0 of a space. Any other byte gives some digit too.
abbrev pub digit_at : List ℕ → ℕ → ℕ
digit_at s at = get_or s at 0 % 16 % 10

-- the number in the six columns from byte `at` on
unfoldable pub number_at : List ℕ → ℕ → ℕ
number_at s at =
    digit_at s at * 100000
    + digit_at s (at + 1) * 10000
    + digit_at s (at + 2) * 1000
    + digit_at s (at + 3) * 100
    + digit_at s (at + 4) * 10
    + digit_at s (at + 5)

-- value i of the part of a request text that follows line one
unfoldable pub value_at : List ℕ → ℕ → ℕ
value_at values i = number_at values (6 * i + i / 16)

-- the n values from number i on
unfoldable pub values_from : List ℕ → ℕ → ℕ → List ℕ
values_from values i zero = []
values_from values i (suc n) = value_at values i ∷ values_from values (suc i) n

-- the n numbers side by side from byte `at` on
unfoldable pub numbers_from : List ℕ → ℕ → ℕ → List ℕ
numbers_from s at zero = []
numbers_from s at (suc n) = number_at s at ∷ numbers_from s (at + 6) n

-- the numbers of line one, and the values, of a text
unfoldable pub kind_of : List ℕ → ℕ
kind_of s = number_at s 0

unfoldable pub polynomial_of : List ℕ → ℕ
polynomial_of s = number_at s 6

unfoldable pub order_of : List ℕ → ℕ
order_of s = number_at s 12

unfoldable pub count_of : List ℕ → ℕ
count_of s = number_at s 18

unfoldable pub further_of : List ℕ → List ℕ
further_of s = numbers_from s 24 (further_numbers (kind_of s))

-- the budget, 0 where line one has none
unfoldable pub budget_of : List ℕ → ℕ
budget_of s = get_or (further_of s) 0 0

unfoldable pub line_one : List ℕ → List ℕ
line_one s = kind_of s ∷ polynomial_of s ∷ order_of s ∷ count_of s ∷ further_of s

-- the bytes of line one, by the kind
unfoldable pub line_one_length : ℕ → ℕ
line_one_length kind = 25 + 6 * further_numbers kind

unfoldable pub values_of : List ℕ → List ℕ
values_of s = values_from (drop (line_one_length (kind_of s)) s) 0 (count_of s)

-- the request text of the numbers read from a text
unfoldable pub rewritten : List ℕ → List ℕ
rewritten s = request_text (kind_of s) (polynomial_of s) (order_of s) (further_of s) (values_of s)

-- whether two lists of bytes are the same
unfoldable pub same_bytes : List ℕ → List ℕ → Bool
same_bytes [] [] = true
same_bytes [] (b ∷ t) = false
same_bytes (a ∷ s) [] = false
same_bytes (a ∷ s) (b ∷ t) = eqb a b && same_bytes s t

-- whether a text is in form: at most 4,096 bytes, and the request text of the numbers read from it
unfoldable pub in_form : List ℕ → Bool
in_form s = leb (length s) 4096 && same_bytes s (rewritten s)

-- what the reading of line one says: the number of the refusal where the text is refused, else kind, polynomial, order, count and budget
abbrev pub says_header : Result Header Refusal → Answer (List ℕ)
says_header = answer_by (λ header. header.kind ∷ header.polynomial ∷ header.order ∷ header.count ∷ header.budget ∷ []) []

-- line one of a text; 1: not of the form
unfoldable pub header_answer : List ℕ → Answer (List ℕ)
header_answer s =
    answer_after [] (fault 1 (not (in_form s)) ∷ []) (kind_of s ∷ polynomial_of s ∷ order_of s ∷ count_of s ∷ budget_of s ∷ [])
