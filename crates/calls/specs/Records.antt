-- A record of a call, and the bytes of its answer. A number has four bytes, the lowest first. Assumes nothing.
use Rattle.std.specs.Prelude.{List, [], ◌∷◌, ◌++◌, ℕ, ◌+◌, ◌*◌, ◌/◌, ◌%◌, ◌^◌, get_or, take, drop, replicate}

-- the number in the four bytes from place `at` on
abbrev pub four_bytes : List ℕ → ℕ → ℕ
four_bytes bytes at = get_or bytes at 0 + get_or bytes (at + 1) 0 * 256 + get_or bytes (at + 2) 0 * 65536 + get_or bytes (at + 3) 0 * 16777216

-- eight bytes from place `at` on
unfoldable pub words_at : List ℕ → ℕ → List ℕ
words_at bytes at = take 8 (drop at bytes)

-- bytes 0 to 15, four numbers: call, polynomial, order or first value, count or second value
unfoldable pub call_in : List ℕ → ℕ
call_in bytes = four_bytes bytes 0

unfoldable pub polynomial_in : List ℕ → ℕ
polynomial_in bytes = four_bytes bytes 4

unfoldable pub first_in : List ℕ → ℕ
first_in bytes = four_bytes bytes 8

unfoldable pub second_in : List ℕ → ℕ
second_in bytes = four_bytes bytes 12

-- bytes 16 to 79: the matrix, eight lines
unfoldable pub matrix_in : List ℕ → List (List ℕ)
matrix_in bytes =
    words_at bytes 16
    ∷ words_at bytes 24
    ∷ words_at bytes 32
    ∷ words_at bytes 40
    ∷ words_at bytes 48
    ∷ words_at bytes 56
    ∷ words_at bytes 64
    ∷ words_at bytes 72
    ∷ []

-- the same bytes as candidates, as many as the second number says; behind the 64 stand zeros, 256 candidates at most
unfoldable pub candidates_in : List ℕ → List ℕ
candidates_in bytes = take (second_in bytes) (take 64 (drop 16 bytes) ++ replicate 192 0)

-- bytes 80 to 87: the input, or the row whose count is asked for
unfoldable pub input_in : List ℕ → List ℕ
input_in bytes = words_at bytes 80

-- the same bytes as the budget of a walk
abbrev pub budget_in : List ℕ → ℕ
budget_in bytes = four_bytes bytes 80 + four_bytes bytes 84 * 2 ^ 32

-- ---- the answer

-- byte k of a number, the lowest at 0
abbrev pub byte_of : ℕ → ℕ → ℕ
byte_of v k = v / 2 ^ (8 * k) % 256

-- numbers one after the other, in four bytes each
unfoldable pub as_bytes : List ℕ → List ℕ
as_bytes [] = []
as_bytes (v ∷ vs) = byte_of v 0 ∷ byte_of v 1 ∷ byte_of v 2 ∷ byte_of v 3 ∷ as_bytes vs
