-- The request and answer texts of document 01, as lists of bytes. Byte 32 is the space, bytes 48 to 57 are the digits, and
-- byte 10 ends a line.
-- Assumes nothing.
use Rattle.std.specs.Prelude.{◌≡◌, cond, ◌||◌, List, [], ◌∷◌, ◌++◌, ℕ, suc, ◌+◌, ◌/◌, ◌%◌, ◌≤◌, length, get_or, ltb, eqb}

-- the byte of v in the column that counts `place`s, 10 or more: a digit of v, or a space where v has no such digit
unfoldable pub column_byte : ℕ → ℕ → ℕ
column_byte v place = cond (ltb v place) 32 (48 + v / place % 10)

-- "six columns": the number v, at most 999999, right-justified with spaces before it; the last column always has a digit
unfoldable pub column : ℕ → List ℕ
column v =
    column_byte v 100000
    ∷ column_byte v 10000
    ∷ column_byte v 1000
    ∷ column_byte v 100
    ∷ column_byte v 10
    ∷ (48 + v % 10)
    ∷ []

-- numbers side by side
unfoldable pub columns : List ℕ → List ℕ
columns [] = []
columns (v ∷ vs) = column v ++ columns vs

-- "line": numbers side by side, and byte 10
unfoldable pub line_text : List ℕ → List ℕ
line_text vs = columns vs ++ (10 ∷ [])

-- what follows value i where `left` values are still to come: a line ends after sixteen values, and after the last
unfoldable pub line_end : ℕ → ℕ → List ℕ
line_end i left = cond (eqb (i % 16) 15 || eqb left 0) (10 ∷ []) []

-- "values", "sixteen to a line": the values from number i on
unfoldable pub value_text : ℕ → List ℕ → List ℕ
value_text i [] = []
value_text i (v ∷ vs) = column v ++ line_end i (length vs) ++ value_text (suc i) vs

-- how many numbers stand in line one behind the count, by the kind: kind 6 has a budget there (document 02, Seven)
unfoldable pub further_numbers : ℕ → ℕ
further_numbers kind = cond (eqb kind 6) 1 0

-- "request text": line one with kind, polynomial, order, count and the further numbers of the kind, then exactly count values
unfoldable pub request_text : ℕ → ℕ → ℕ → List ℕ → List ℕ → List ℕ
request_text kind polynomial order further values =
    line_text (kind ∷ polynomial ∷ order ∷ length values ∷ further) ++ value_text 0 values

-- "answer text": one line after the other
unfoldable pub answer_text : List (List ℕ) → List ℕ
answer_text [] = []
answer_text (line ∷ lines) = line_text line ++ answer_text lines

-- every number of the list has at most six digits
unfoldable pub SixDigits : List ℕ → Type 0
SixDigits vs = (i : ℕ) → get_or vs i 0 ≤ 999999

-- "of the form above": the request text of some numbers, of at most 4,096 bytes
pub record InForm (text : List ℕ) : Type 0 where
  pub kind : ℕ
  pub polynomial : ℕ
  pub order : ℕ
  pub further : List ℕ
  pub values : List ℕ
  pub as_many : length further ≡ further_numbers kind
  pub six : SixDigits (kind ∷ polynomial ∷ order ∷ length values ∷ further ++ values)
  pub is_text : text ≡ request_text kind polynomial order further values
  pub short : length text ≤ 4096
