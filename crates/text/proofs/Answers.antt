-- Laws for whoever writes an answer: a line behind other lines, the refusal line, and that every byte of a text fits a byte.
-- Assumes nothing.
use mathlib.Core.Path.{◌≡◌, refl, ap, ◌∙◌}
use mathlib.Core.Bool.{Bool, true, false, cond, ◌||◌}
use mathlib.Core.List.{List, [], ◌∷◌, ◌++◌, append_assoc, append-nil}
use Prim.Native.Nat.{ℕ, zero, suc, ◌+◌, ◌/◌, ◌%◌, ◌<◌}
use native.Mathlib.Omega.{arith}
use lib.ListN.{length, get_or}
use lib.Dec.{ltb, eqb}
use Rattle.text.specs.Text.{column_byte, column, columns, line_text, line_end, value_text, request_text, answer_text}
use Rattle.text.specs.Writing.{Put}
use Rattle.text.proofs.Places.{put_join}
use Rattle.text.proofs.Lengths.{length_line}

-- lines behind others
pub answer_append : (lines more : List (List ℕ)) → answer_text (lines ++ more) ≡ answer_text lines ++ answer_text more
unfolding answer_text
answer_append [] more = refl
answer_append (l ∷ lines) more = rw (answer_append lines more, append_assoc)

-- one line more, behind the others
pub answer_more : (lines : List (List ℕ)) (line : List ℕ) → answer_text (lines ++ (line ∷ [])) ≡ answer_text lines ++ line_text line
unfolding answer_text
answer_more lines line = answer_append lines (line ∷ []) ∙ ap (λ (l : List ℕ). answer_text lines ++ l) (append-nil (line_text line))

pub put_line_more : {l l' l'' : List ℕ} {at next last : ℕ} (lines : List (List ℕ)) (line : List ℕ)
    → Put l l' at (answer_text lines) next → Put l' l'' next (line_text line) last → Put l l'' at (answer_text (lines ++ (line ∷ []))) last
put_line_more lines line p q = rw (answer_more lines line) (put_join (answer_text lines) (line_text line) p q)

-- an answer of one line, as a refusal is
pub answer_one : (line : List ℕ) → answer_text (line ∷ []) ≡ line_text line
unfolding answer_text
answer_one line = append-nil (line_text line)

pub length_refusal : (v : ℕ) → length (line_text (v ∷ [])) ≡ 7
length_refusal v = length_line (v ∷ [])

-- every byte is below 256
unfoldable pub Bytes : List ℕ → Type 0
Bytes s = (i : ℕ) → get_or s i 0 < 256

bytes_append : (s t : List ℕ) → Bytes s → Bytes t → Bytes (s ++ t)
unfolding Bytes
bytes_append s t h k = go s h
  where
    go : (s : List ℕ) → ((i : ℕ) → get_or s i 0 < 256) → (i : ℕ) → get_or (s ++ t) i 0 < 256
    go [] h i = k i
    go (x ∷ s) h zero = h zero
    go (x ∷ s) h (suc i) = go s (λ n. h (suc n)) i

bytes_one : (b : ℕ) → b < 256 → Bytes (b ∷ [])
unfolding Bytes
bytes_one b h = go
  where
    go : (i : ℕ) → get_or (b ∷ []) i 0 < 256
    go zero = h
    go (suc i) = omega arith

bytes_none : Bytes []
unfolding Bytes
bytes_none i = omega arith

column_byte_fits : (v place : ℕ) → column_byte v place < 256
unfolding column_byte
column_byte_fits v place = go (ltb v place)
  where
    go : (t : Bool) → cond t 32 (48 + v / place % 10) < 256
    go true = omega arith
    go false = omega arith

pub column_bytes : (v : ℕ) → Bytes (column v)
unfolding column
column_bytes v =
    bytes_append (column_byte v 100000 ∷ []) _ (bytes_one _ (column_byte_fits v 100000))
    (bytes_append (column_byte v 10000 ∷ []) _ (bytes_one _ (column_byte_fits v 10000))
    (bytes_append (column_byte v 1000 ∷ []) _ (bytes_one _ (column_byte_fits v 1000))
    (bytes_append (column_byte v 100 ∷ []) _ (bytes_one _ (column_byte_fits v 100))
    (bytes_append (column_byte v 10 ∷ []) _ (bytes_one _ (column_byte_fits v 10)) (bytes_one (48 + v % 10) (omega arith))))))

columns_bytes : (vs : List ℕ) → Bytes (columns vs)
unfolding columns
columns_bytes [] = bytes_none
columns_bytes (v ∷ vs) = bytes_append (column v) (columns vs) (column_bytes v) (columns_bytes vs)

pub line_bytes : (vs : List ℕ) → Bytes (line_text vs)
unfolding line_text
line_bytes vs = bytes_append (columns vs) (10 ∷ []) (columns_bytes vs) (bytes_one 10 (omega arith))

end_bytes : (i left : ℕ) → Bytes (line_end i left)
unfolding line_end
end_bytes i left = go (eqb (i % 16) 15 || eqb left 0)
  where
    go : (t : Bool) → Bytes (cond {A = List ℕ} t (10 ∷ []) [])
    go true = bytes_one 10 (omega arith)
    go false = bytes_none

value_bytes : (i : ℕ) (vs : List ℕ) → Bytes (value_text i vs)
unfolding value_text
value_bytes i [] = bytes_none
value_bytes i (v ∷ vs) =
    bytes_append (column v ++ line_end i (length vs)) (value_text (suc i) vs)
    (bytes_append (column v) (line_end i (length vs)) (column_bytes v) (end_bytes i (length vs)))
    (value_bytes (suc i) vs)

pub request_bytes : (kind polynomial order : ℕ) (further values : List ℕ) → Bytes (request_text kind polynomial order further values)
unfolding request_text
request_bytes k p o fs vs =
    bytes_append (line_text (k ∷ p ∷ o ∷ length vs ∷ fs)) (value_text 0 vs) (line_bytes (k ∷ p ∷ o ∷ length vs ∷ fs)) (value_bytes 0 vs)

pub answer_bytes : (lines : List (List ℕ)) → Bytes (answer_text lines)
unfolding answer_text
answer_bytes [] = bytes_none
answer_bytes (l ∷ lines) = bytes_append (line_text l) (answer_text lines) (line_bytes l) (answer_bytes lines)
