-- The reference lines of document 01 that are marked P, as one table, with the limits of its last point, its example of a search,
-- whole, the gate lists of request Two, surveys in the order of request Three, the depths of request Four, the steps of request Five,
-- the circulant searches of request Six, line one by the kind and the walks of request Seven, and lines that tell apart what the others cannot.
-- Assumes nothing.
use Rattle.std.specs.Prelude.{◌≡◌, ◌≢◌, ℕ, zero, suc, ◌*◌, ◌/◌, ◌%◌, length, replicate}
use mathlib.Core.List.{List, [], ◌∷◌, ◌++◌, map, foldl}
use Prim.Native.Char.{code}
use Prim.Native.String.{String, len, char_at}
use Rattle.refusal.specs.Refusals.{Fault, first_number, Answer, answer}
use Rattle.algebra.specs.Matrix.{tabulate, det, circulant}
use Rattle.field.specs.Polynomial.{◌⊕◌, degree, product, xor_count}
use Rattle.field.specs.Doubling.{doubled, sum_after}
use Rattle.field.specs.Faults.{inverse_faults}
use Rattle.lines.specs.Numbers.{numbers}
use Rattle.lines.specs.Counts.{matrix_count}
use Rattle.lines.specs.Depths.{ones_in_line, depth_of}
use Rattle.checks.specs.Answers.{determinant_faults, matrix_faults, halved_faults}
use Rattle.gates.specs.Gates.{gates_of_matrix, carriers_of_matrix}
use Rattle.gates.specs.Wires.{evaluate}
use Rattle.rows.specs.Keys.{depth_of_row}
use Rattle.text.specs.Text.{request_text}
use Rattle.reply.specs.Due.{entries_of, due}
use Rattle.reply.specs.Answered.{text_of}

-- a line of the table
pub data ReferenceLine : Type 0 where
  -- over the polynomial the counts of these elements are these
  counts : ℕ → List ℕ → List ℕ → ReferenceLine
  -- over the polynomial the product of two elements is this, and an element to this power is this
  products : ℕ → ℕ → ℕ → ℕ → ReferenceLine
  powers : ℕ → ℕ → ℕ → ℕ → ReferenceLine
  -- over the polynomial this element, doubled 0, 1, 2, .. times, is these
  doublings : ℕ → ℕ → List ℕ → ReferenceLine
  -- over the polynomial the product of two elements has these sums after 0, 1, 2, .. bits of the second
  partial_sums : ℕ → ℕ → ℕ → List ℕ → ReferenceLine
  -- these elements exclusive-or to this
  sums : List ℕ → ℕ → ReferenceLine
  -- over the polynomial the matrix of this order with these entries has this determinant
  determinants : ℕ → ℕ → List ℕ → ℕ → ReferenceLine
  -- over the polynomial the matrix of this order with these entries has this XOR count
  matrix_counts : ℕ → ℕ → List ℕ → ℕ → ReferenceLine
  -- over the polynomial this element has these ones for its output bits
  output_ones_holds : ℕ → ℕ → List ℕ → ReferenceLine
  -- over the polynomial the circulant matrix of this order of this row has these entries, line by line
  circulants : ℕ → ℕ → List ℕ → List ℕ → ReferenceLine
  -- output bits with these numbers of ones have these depths
  depths : List ℕ → List ℕ → ReferenceLine
  -- over the polynomial the row of this order has this depth
  row_depths : ℕ → ℕ → List ℕ → ℕ → ReferenceLine
  -- evaluating the gates of this matrix on these input bits gives these output bits
  evaluations : ℕ → ℕ → List ℕ → List ℕ → List ℕ → ReferenceLine
  -- to the request of this kind, polynomial, order and values this is due
  requests : ℕ → ℕ → ℕ → List ℕ → Answer (List (List ℕ)) → ReferenceLine
  -- to the walk with this polynomial, order, candidates and budget this is due
  walks : ℕ → ℕ → List ℕ → ℕ → Answer (List (List ℕ)) → ReferenceLine
  -- such a request is not refused with this number
  not_given : ℕ → ℕ → ℕ → List ℕ → ℕ → ReferenceLine
  -- a library call that has these faults is refused with this number; 0: it is accepted
  calls : List Fault → ℕ → ReferenceLine
  -- to the request text of these lines, byte by byte, the text of these lines is due
  texts : List String → List String → ReferenceLine
  -- the request text of these lines, byte by byte, is not refused with this number
  not_refused : List String → ℕ → ReferenceLine

unfoldable pub power : ℕ → ℕ → ℕ → ℕ
power p a zero = 1
power p a (suc k) = product p (power p a k) a

-- the bytes of a text: those of each line, and byte 10
unfoldable pub bytes_of : List String → List ℕ
bytes_of [] = []
bytes_of (line ∷ rest) = tabulate (len line) (λ i. code (char_at line i)) ++ 10 ∷ bytes_of rest

-- what a line says
unfoldable pub ReferenceSays : ReferenceLine → Type 0
ReferenceSays (counts p elements numbers) = map (xor_count p) elements ≡ numbers
ReferenceSays (products p a b c) = product p a b ≡ c
ReferenceSays (powers p a k c) = power p a k ≡ c
ReferenceSays (doublings p a values) = tabulate (length values) (doubled p a) ≡ values
ReferenceSays (partial_sums p a b values) = tabulate (length values) (sum_after p a b) ≡ values
ReferenceSays (sums elements total) = foldl ◌⊕◌ 0 elements ≡ total
ReferenceSays (determinants p n entries c) = det (numbers p) n (entries_of n entries) ≡ c
ReferenceSays (matrix_counts p n entries c) = matrix_count p n (entries_of n entries) ≡ c
ReferenceSays (circulants p n row entries) = tabulate (n * n) (λ k. circulant (numbers p) n row (k / n) (k % n)) ≡ entries
ReferenceSays (output_ones_holds p a numbers) = tabulate (degree p) (ones_in_line p a) ≡ numbers
ReferenceSays (depths numbers results) = map depth_of numbers ≡ results
ReferenceSays (row_depths p n row d) = depth_of_row p n row ≡ d
ReferenceSays (evaluations p n entries bits result) = evaluate (gates_of_matrix p n (entries_of n entries)) (carriers_of_matrix p n (entries_of n entries)) bits ≡ result
ReferenceSays (requests kind polynomial order values d) = due (request_text kind polynomial order [] values) ≡ d
ReferenceSays (walks polynomial order candidates budget d) = due (request_text 6 polynomial order (budget ∷ []) candidates) ≡ d
ReferenceSays (not_given kind polynomial order values number) = (due (request_text kind polynomial order [] values)).number ≢ number
ReferenceSays (calls faults number) = first_number faults ≡ number
ReferenceSays (texts request reply) = text_of (due (bytes_of request)).number (due (bytes_of request)).value ≡ bytes_of reply
ReferenceSays (not_refused request number) = (due (bytes_of request)).number ≢ number

infixr 60 ◌and◌
-- every line of a table holds
pub data AllReferenceSay : List ReferenceLine → Type 0 where
  all_none : AllReferenceSay []
  ◌and◌ : {line : ReferenceLine} {rest : List ReferenceLine} → ReferenceSays line → AllReferenceSay rest → AllReferenceSay (line ∷ rest)

-- elements over 19, and over 31; determinants; the counts of a matrix whose lines have no, one and three nonzero entries, of the FIPS 197 matrix, of
-- the matrix with the longest gate list, and of the upper triangle of the FIPS 197 matrix
unfoldable pub element_lines : List ReferenceLine
element_lines =
    counts 19 (0 ∷ 1 ∷ 2 ∷ 3 ∷ 4 ∷ 5 ∷ 6 ∷ 7 ∷ 8 ∷ 9 ∷ 10 ∷ 11 ∷ 12 ∷ 13 ∷ 14 ∷ 15 ∷ []) (0 ∷ 0 ∷ 1 ∷ 5 ∷ 2 ∷ 6 ∷ 5 ∷ 9 ∷ 3 ∷ 1 ∷ 8 ∷ 6 ∷ 5 ∷ 3 ∷ 8 ∷ 6 ∷ []) ∷
    products 19 2 9 1 ∷
    products 19 8 15 1 ∷
    powers 31 2 5 1 ∷
    determinants 19 2 (2 ∷ 3 ∷ 4 ∷ 5 ∷ []) 6 ∷
    determinants 19 3 (1 ∷ 2 ∷ 3 ∷ 4 ∷ 5 ∷ 6 ∷ 7 ∷ 8 ∷ 9 ∷ []) 9 ∷
    matrix_counts 19 3 (0 ∷ 0 ∷ 0 ∷ 0 ∷ 7 ∷ 0 ∷ 1 ∷ 2 ∷ 3 ∷ []) 23 ∷
    matrix_counts 283 4 (2 ∷ 3 ∷ 1 ∷ 1 ∷ 1 ∷ 2 ∷ 3 ∷ 1 ∷ 1 ∷ 1 ∷ 2 ∷ 3 ∷ 3 ∷ 1 ∷ 1 ∷ 2 ∷ []) 152 ∷
    matrix_counts 395 8 (replicate 64 251) 3136 ∷
    matrix_counts 283 4 (2 ∷ 3 ∷ 1 ∷ 1 ∷ 0 ∷ 2 ∷ 3 ∷ 1 ∷ 0 ∷ 0 ∷ 2 ∷ 3 ∷ 0 ∷ 0 ∷ 0 ∷ 2 ∷ []) 93 ∷
    []

-- the worked example of FIPS 197 (2001), section 4.2.1 (document 02, Five): {57}, {ae}, {47}, {8e}, {07} and three doubled values more; the products
-- {57} • {13} = {fe} and {57} • {83} = {c1}, with the sum after each bit; and values of another degree
unfoldable pub product_steps : List ReferenceLine
product_steps =
    doublings 283 87 (87 ∷ 174 ∷ 71 ∷ 142 ∷ 7 ∷ 14 ∷ 28 ∷ 56 ∷ []) ∷
    products 283 87 2 174 ∷
    products 283 87 4 71 ∷
    products 283 87 8 142 ∷
    products 283 87 16 7 ∷
    partial_sums 283 87 19 (0 ∷ 87 ∷ 249 ∷ 249 ∷ 249 ∷ 254 ∷ []) ∷
    products 283 87 19 254 ∷
    partial_sums 283 87 131 (0 ∷ 87 ∷ 249 ∷ 249 ∷ 249 ∷ 249 ∷ 249 ∷ 249 ∷ 193 ∷ []) ∷
    products 283 87 131 193 ∷
    doublings 19 9 (9 ∷ 1 ∷ 2 ∷ 4 ∷ []) ∷
    []

-- searches over 19, order 4
unfoldable pub searches : List ReferenceLine
searches =
    requests 1 19 4 (1 ∷ 2 ∷ 4 ∷ 8 ∷ []) (answer 9 []) ∷
    sums (1 ∷ 3 ∷ 8 ∷ 11 ∷ []) 1 ∷
    products 19 3 8 11 ∷
    products 19 1 11 11 ∷
    requests 1 19 4 (1 ∷ 3 ∷ 8 ∷ 11 ∷ []) (answer 9 []) ∷
    requests 1 19 4 (1 ∷ 4 ∷ 9 ∷ []) (answer 9 []) ∷
    requests 1 19 4 (1 ∷ 2 ∷ 3 ∷ 4 ∷ 5 ∷ 6 ∷ 7 ∷ 8 ∷ 9 ∷ 10 ∷ 11 ∷ 12 ∷ 13 ∷ 14 ∷ 15 ∷ []) (answer 0 ((0 ∷ 6 ∷ 18 ∷ 72 ∷ []) ∷ (1 ∷ 4 ∷ 9 ∷ 13 ∷ []) ∷ [])) ∷
    []

-- depths (document 02, Four): over 19 element 2, whose lines and columns differ; numbers of ones; rows, among them two of one element over 7, where
-- the first output bit alone is the deepest, or the last; searches over 31, order 4, where the depth decides: all fifteen, of which 1 2 4 6 has the
-- count of 1 2 13 15 and an earlier place, and eleven of them; one over 67 where the count decides before the depth: 1 8 16 24 is shallower and
-- earlier, but heavier
unfoldable pub depth_lines : List ReferenceLine
depth_lines =
    output_ones_holds 19 2 (1 ∷ 2 ∷ 1 ∷ 1 ∷ []) ∷
    depths (0 ∷ 1 ∷ 2 ∷ 3 ∷ 4 ∷ 5 ∷ 8 ∷ 9 ∷ 64 ∷ 65 ∷ []) (0 ∷ 0 ∷ 1 ∷ 2 ∷ 2 ∷ 3 ∷ 3 ∷ 4 ∷ 6 ∷ 7 ∷ []) ∷
    row_depths 7 1 (3 ∷ []) 1 ∷
    row_depths 7 1 (2 ∷ []) 1 ∷
    row_depths 19 4 (1 ∷ 4 ∷ 9 ∷ 13 ∷ []) 3 ∷
    row_depths 31 4 (1 ∷ 2 ∷ 4 ∷ 6 ∷ []) 4 ∷
    row_depths 31 4 (1 ∷ 2 ∷ 13 ∷ 15 ∷ []) 3 ∷
    requests 1 31 4 (1 ∷ 2 ∷ 3 ∷ 4 ∷ 5 ∷ 6 ∷ 7 ∷ 8 ∷ 9 ∷ 10 ∷ 11 ∷ 12 ∷ 13 ∷ 14 ∷ 15 ∷ []) (answer 0 ((0 ∷ 12 ∷ 24 ∷ 96 ∷ []) ∷ (1 ∷ 2 ∷ 13 ∷ 15 ∷ []) ∷ [])) ∷
    requests 1 31 4 (1 ∷ 2 ∷ 3 ∷ 4 ∷ 6 ∷ 7 ∷ 8 ∷ 9 ∷ 10 ∷ 12 ∷ 14 ∷ []) (answer 0 ((0 ∷ 12 ∷ 24 ∷ 96 ∷ []) ∷ (1 ∷ 4 ∷ 8 ∷ 12 ∷ []) ∷ [])) ∷
    row_depths 67 4 (1 ∷ 8 ∷ 49 ∷ 57 ∷ []) 4 ∷
    row_depths 67 4 (1 ∷ 8 ∷ 16 ∷ 24 ∷ []) 3 ∷
    requests 1 67 4 (1 ∷ 8 ∷ 16 ∷ 24 ∷ 49 ∷ 57 ∷ []) (answer 0 ((0 ∷ 12 ∷ 30 ∷ 120 ∷ []) ∷ (1 ∷ 8 ∷ 49 ∷ 57 ∷ []) ∷ [])) ∷
    []

-- checks over 7: the identity of order 2, order 1 with entry 0, and a matrix that is not its own transpose
unfoldable pub checks : List ReferenceLine
checks =
    requests 2 7 2 (1 ∷ 0 ∷ 0 ∷ 1 ∷ []) (answer 0 ((0 ∷ 2 ∷ 0 ∷ 1 ∷ 0 ∷ []) ∷ [])) ∷
    requests 2 7 1 (0 ∷ []) (answer 0 ((0 ∷ 1 ∷ 0 ∷ 0 ∷ 0 ∷ []) ∷ [])) ∷
    requests 2 7 2 (1 ∷ 1 ∷ 0 ∷ 0 ∷ []) (answer 0 ((0 ∷ 2 ∷ 0 ∷ 0 ∷ 2 ∷ []) ∷ [])) ∷
    []

-- the surveys of degrees 2, 3 and 4, their lines by polynomial (document 02, Three)
unfoldable pub surveys : List ReferenceLine
surveys =
    requests 3 2 0 [] (answer 0 ((0 ∷ 1 ∷ []) ∷ (7 ∷ 2 ∷ 2 ∷ []) ∷ [])) ∷
    requests 3 3 0 [] (answer 0 ((0 ∷ 2 ∷ []) ∷ (11 ∷ 15 ∷ 47 ∷ []) ∷ (13 ∷ 15 ∷ 47 ∷ []) ∷ [])) ∷
    requests 3 4 0 [] (answer 0 ((0 ∷ 3 ∷ []) ∷ (19 ∷ 68 ∷ 416 ∷ []) ∷ (25 ∷ 68 ∷ 416 ∷ []) ∷ (31 ∷ 68 ∷ 352 ∷ []) ∷ [])) ∷
    []

-- a survey, request text and answer text
unfoldable pub survey_texts : List ReferenceLine
survey_texts =
    texts
    ("     3     3     0     0" ∷ [])
    ("     0     2" ∷ "    11    15    47" ∷ "    13    15    47" ∷ []) ∷
    []

-- gates over 7 (document 02, Two): a matrix that is not its own transpose, whose first output bit joins three inputs; one input alone; a bit that
-- is always 0. Over 11, order 2: three bits to a word, and output bits of the second word. What the first list computes: the words 1 2 give 3 2,
-- the words 3 3 give 3 3. The refusals of a check; kind 9 is none
unfoldable pub gate_lists : List ReferenceLine
gate_lists =
    requests 4 7 2 (2 ∷ 3 ∷ 0 ∷ 1 ∷ [])
    (answer 0 ((0 ∷ 4 ∷ []) ∷ (1 ∷ 2 ∷ []) ∷ (4 ∷ 3 ∷ []) ∷ (0 ∷ 1 ∷ []) ∷ (6 ∷ 2 ∷ []) ∷ (5 ∷ []) ∷ (7 ∷ []) ∷ (2 ∷ []) ∷ (3 ∷ []) ∷ [])) ∷
    requests 4 7 1 (3 ∷ []) (answer 0 ((0 ∷ 1 ∷ []) ∷ (0 ∷ 1 ∷ []) ∷ (2 ∷ []) ∷ (0 ∷ []) ∷ [])) ∷
    requests 4 7 1 (0 ∷ []) (answer 0 ((0 ∷ 0 ∷ []) ∷ (999999 ∷ []) ∷ (999999 ∷ []) ∷ [])) ∷
    requests 4 11 2 (0 ∷ 0 ∷ 1 ∷ 2 ∷ [])
    (answer 0 ((0 ∷ 4 ∷ []) ∷ (0 ∷ 5 ∷ []) ∷ (1 ∷ 3 ∷ []) ∷ (7 ∷ 5 ∷ []) ∷ (2 ∷ 4 ∷ []) ∷ (999999 ∷ []) ∷ (999999 ∷ []) ∷ (999999 ∷ []) ∷ (6 ∷ []) ∷ (8 ∷ []) ∷ (9 ∷ []) ∷ [])) ∷
    evaluations 7 2 (2 ∷ 3 ∷ 0 ∷ 1 ∷ []) (1 ∷ 0 ∷ 0 ∷ 1 ∷ []) (1 ∷ 1 ∷ 0 ∷ 1 ∷ []) ∷
    evaluations 7 2 (2 ∷ 3 ∷ 0 ∷ 1 ∷ []) (1 ∷ 1 ∷ 1 ∷ 1 ∷ []) (1 ∷ 1 ∷ 1 ∷ 1 ∷ []) ∷
    evaluations 7 1 (0 ∷ []) (1 ∷ 1 ∷ []) (0 ∷ 0 ∷ []) ∷
    requests 4 3 1 (0 ∷ []) (answer 3 []) ∷
    requests 4 5 1 (0 ∷ []) (answer 4 []) ∷
    requests 4 7 0 [] (answer 5 []) ∷
    requests 4 7 9 [] (answer 5 []) ∷
    requests 4 7 2 (1 ∷ 1 ∷ 1 ∷ []) (answer 6 []) ∷
    requests 4 7 1 (4 ∷ []) (answer 7 []) ∷
    requests 9 7 1 (0 ∷ []) (answer 2 []) ∷
    []

-- a gate list, request text and answer text
unfoldable pub gate_texts : List ReferenceLine
gate_texts =
    texts
    ("     4     7     1     1" ∷ "     3" ∷ [])
    ("     0     1" ∷ "     0     1" ∷ "     2" ∷ "     0" ∷ []) ∷
    []

-- circulant searches (document 02, Six): which entry stands where; order 2, where the row is an involution too; orders 3 and 4, where an element stands
-- twice and there are fewer candidates than entries; no row of one element; the refusals
unfoldable pub circulant_lines : List ReferenceLine
circulant_lines =
    circulants 7 3 (1 ∷ 2 ∷ 3 ∷ []) (1 ∷ 2 ∷ 3 ∷ 3 ∷ 1 ∷ 2 ∷ 2 ∷ 3 ∷ 1 ∷ []) ∷
    requests 5 7 2 (3 ∷ 2 ∷ []) (answer 0 ((0 ∷ 2 ∷ 4 ∷ 8 ∷ []) ∷ (2 ∷ 3 ∷ []) ∷ [])) ∷
    requests 2 7 2 (2 ∷ 3 ∷ 3 ∷ 2 ∷ []) (answer 0 ((0 ∷ 3 ∷ 1 ∷ 1 ∷ 8 ∷ []) ∷ [])) ∷
    requests 5 19 3 (1 ∷ 2 ∷ 3 ∷ 4 ∷ []) (answer 0 ((0 ∷ 1 ∷ 9 ∷ 27 ∷ []) ∷ (1 ∷ 1 ∷ 2 ∷ []) ∷ [])) ∷
    requests 5 283 4 (1 ∷ 2 ∷ 3 ∷ []) (answer 0 ((0 ∷ 14 ∷ 38 ∷ 152 ∷ []) ∷ (1 ∷ 1 ∷ 2 ∷ 3 ∷ []) ∷ [])) ∷
    requests 5 7 2 (1 ∷ []) (answer 9 []) ∷
    requests 5 3 2 (1 ∷ []) (answer 3 []) ∷
    requests 5 5 2 (1 ∷ []) (answer 4 []) ∷
    requests 5 7 1 (1 ∷ []) (answer 5 []) ∷
    requests 5 7 9 (1 ∷ []) (answer 5 []) ∷
    requests 5 7 2 [] (answer 6 []) ∷
    requests 5 19 2 (tabulate 9 suc) (answer 6 []) ∷
    requests 5 19 8 (tabulate 9 suc) (answer 6 []) ∷
    not_given 5 19 8 (tabulate 8 suc) 6 ∷
    requests 5 7 2 (4 ∷ []) (answer 7 []) ∷
    requests 5 7 2 (0 ∷ []) (answer 8 []) ∷
    requests 5 7 2 (2 ∷ 2 ∷ []) (answer 8 []) ∷
    []

-- a circulant search, request text and answer text
unfoldable pub circulant_texts : List ReferenceLine
circulant_texts =
    texts
    ("     5   283     4     3" ∷ "     1     2     3" ∷ [])
    ("     0    14    38   152" ∷ "     1     1     2     3" ∷ []) ∷
    []

-- line one by the kind (document 02, Seven): kind 6 without a budget, other kinds with one; kind 6 with one has the form
unfoldable pub line_one_texts : List ReferenceLine
line_one_texts =
    texts ("     6    19     4     4" ∷ "     1     4     9    13" ∷ []) ("     1" ∷ []) ∷
    texts ("     1    19     4     4     0" ∷ "     1     4     9    13" ∷ []) ("     1" ∷ []) ∷
    texts ("     9    19     4     4     0" ∷ "     1     4     9    13" ∷ []) ("     1" ∷ []) ∷
    not_refused ("     6    19     4     4999999" ∷ "     1     4     9    13" ∷ []) 1 ∷
    []

-- walks (document 02, Seven) over 19, order 4: the first row of 1 4 9 13, all of its 24, none; all but the last row of 1 2 4 8, and all; fewer
-- candidates than the order; all fifteen. A candidate before the four with the least counts. Over 31 rows of the same count, the deeper one tried
-- first, in dictionary order whatever the order of the candidates; the budget that all rows need. The refusals of a search of kind 1
unfoldable pub budget_lines : List ReferenceLine
budget_lines =
    walks 19 4 (1 ∷ 4 ∷ 9 ∷ 13 ∷ []) 1 (answer 0 ((0 ∷ 0 ∷ 1 ∷ 18 ∷ 18 ∷ []) ∷ (1 ∷ 4 ∷ 9 ∷ 13 ∷ []) ∷ [])) ∷
    walks 19 4 (1 ∷ 4 ∷ 9 ∷ 13 ∷ []) 24 (answer 0 ((0 ∷ 1 ∷ 24 ∷ 18 ∷ 18 ∷ []) ∷ (1 ∷ 4 ∷ 9 ∷ 13 ∷ []) ∷ [])) ∷
    walks 19 4 (1 ∷ 4 ∷ 9 ∷ 13 ∷ []) 0 (answer 0 ((0 ∷ 0 ∷ 0 ∷ 999999 ∷ 18 ∷ []) ∷ (0 ∷ 0 ∷ 0 ∷ 0 ∷ []) ∷ [])) ∷
    walks 19 4 (1 ∷ 2 ∷ 4 ∷ 8 ∷ []) 23 (answer 0 ((0 ∷ 0 ∷ 23 ∷ 999999 ∷ 18 ∷ []) ∷ (0 ∷ 0 ∷ 0 ∷ 0 ∷ []) ∷ [])) ∷
    walks 19 4 (1 ∷ 2 ∷ 4 ∷ 8 ∷ []) 24 (answer 9 []) ∷
    walks 19 4 (1 ∷ 4 ∷ 9 ∷ []) 0 (answer 9 []) ∷
    walks 19 4 (tabulate 15 suc) 999999 (answer 0 ((0 ∷ 1 ∷ 32760 ∷ 18 ∷ 16 ∷ []) ∷ (1 ∷ 4 ∷ 9 ∷ 13 ∷ []) ∷ [])) ∷
    walks 19 4 (3 ∷ 1 ∷ 4 ∷ 9 ∷ 13 ∷ []) 0 (answer 0 ((0 ∷ 0 ∷ 0 ∷ 999999 ∷ 18 ∷ []) ∷ (0 ∷ 0 ∷ 0 ∷ 0 ∷ []) ∷ [])) ∷
    walks 31 4 (15 ∷ 1 ∷ 13 ∷ 2 ∷ 4 ∷ 6 ∷ []) 8 (answer 0 ((0 ∷ 0 ∷ 8 ∷ 24 ∷ 21 ∷ []) ∷ (1 ∷ 2 ∷ 4 ∷ 6 ∷ []) ∷ [])) ∷
    walks 31 4 (15 ∷ 1 ∷ 13 ∷ 2 ∷ 4 ∷ 6 ∷ []) 9 (answer 0 ((0 ∷ 0 ∷ 9 ∷ 24 ∷ 21 ∷ []) ∷ (1 ∷ 2 ∷ 13 ∷ 15 ∷ []) ∷ [])) ∷
    walks 31 4 (tabulate 15 suc) 32760 (answer 0 ((0 ∷ 1 ∷ 32760 ∷ 24 ∷ 21 ∷ []) ∷ (1 ∷ 2 ∷ 13 ∷ 15 ∷ []) ∷ [])) ∷
    walks 3 4 (1 ∷ []) 1 (answer 3 []) ∷
    walks 5 4 (1 ∷ []) 1 (answer 4 []) ∷
    walks 7 2 (2 ∷ 3 ∷ []) 1 (answer 5 []) ∷
    walks 7 4 [] 1 (answer 6 []) ∷
    walks 37 8 (tabulate 17 suc) 1 (answer 6 []) ∷
    walks 7 4 (4 ∷ []) 1 (answer 7 []) ∷
    walks 7 4 (0 ∷ []) 1 (answer 8 []) ∷
    walks 7 4 (2 ∷ 2 ∷ []) 1 (answer 8 []) ∷
    []

-- a walk, request text and answer text
unfoldable pub budget_texts : List ReferenceLine
budget_texts =
    texts
    ("     6    19     4     4     1" ∷ "     1     4     9    13" ∷ [])
    ("     0     0     1    18    18" ∷ "     1     4     9    13" ∷ []) ∷
    []

-- library calls over 19: the inverse of 0; determinants up to size 8; halved products of order 2, 4 or 8
unfoldable pub refusals : List ReferenceLine
refusals =
    calls (inverse_faults 19 0) 8 ∷
    calls (inverse_faults 19 15) 0 ∷
    calls (inverse_faults 19 16) 7 ∷
    calls (determinant_faults 19 8 (λ i j. 0)) 0 ∷
    calls (determinant_faults 19 9 (λ i j. 0)) 5 ∷
    calls (matrix_faults 19 0 (λ i j. 0)) 5 ∷
    calls (halved_faults 19 1 [] []) 5 ∷
    calls (halved_faults 19 2 [] []) 0 ∷
    []

-- the candidates 1, 2, .. n
abbrev pub from_one : ℕ → List ℕ
from_one n = tabulate n suc

-- the limits: polynomials, here of checks of order 1 (7 is accepted above); counts of candidates
unfoldable pub limits : List ReferenceLine
limits =
    requests 2 3 1 (0 ∷ []) (answer 3 []) ∷
    requests 2 21 1 (0 ∷ []) (answer 4 []) ∷
    requests 2 511 1 (0 ∷ []) (answer 4 []) ∷
    requests 2 512 1 (0 ∷ []) (answer 3 []) ∷
    not_given 1 37 8 (from_one 16) 6 ∷
    requests 1 37 8 (from_one 17) (answer 6 []) ∷
    requests 1 37 4 (replicate 256 1) (answer 6 []) ∷
    []

-- the worked example, request text and answer text; and a text of seventeen values, sixteen to a line, that is refused
unfoldable pub example : List ReferenceLine
example =
    requests 1 19 4 (1 ∷ 4 ∷ 9 ∷ 13 ∷ []) (answer 0 ((0 ∷ 6 ∷ 18 ∷ 72 ∷ []) ∷ (1 ∷ 4 ∷ 9 ∷ 13 ∷ []) ∷ [])) ∷
    texts
    ("     1    19     4     4" ∷ "     1     4     9    13" ∷ [])
    ("     0     6    18    72" ∷ "     1     4     9    13" ∷ []) ∷
    texts
    ("     1    19     8    17" ∷ "     1     2     3     4     5     6     7     8     9    10    11    12    13    14    15    16" ∷ "    17" ∷ [])
    ("     6" ∷ []) ∷
    []

-- the table
unfoldable pub reference_lines : List ReferenceLine
reference_lines = element_lines ++ product_steps ++ searches ++ depth_lines ++ checks ++ surveys ++ survey_texts ++ gate_lists ++ gate_texts ++ circulant_lines ++ circulant_texts ++ line_one_texts ++ budget_lines ++ budget_texts ++ refusals ++ limits ++ example
