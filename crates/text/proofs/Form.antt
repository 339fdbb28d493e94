-- The test `in_form`, for the proofs of the functions: the text written anew, its length, and texts that are too short or too long.
-- Assumes nothing.
use mathlib.Core.Path.{◌≡◌, refl, ap, ◌∙◌}
use mathlib.Core.Bool.{true, false}
use mathlib.Core.List.{List, [], ◌∷◌, ◌++◌}
use Prim.Native.Nat.{ℕ, zero, suc, ◌+◌, ◌-◌, ◌*◌, ◌/◌, ◌≤◌, zero-le}
use native.Mathlib.Omega.{arith}
use borrow.Author.Tests.{leb-true, le-leb}
use lib.ListN.{length, get_or, take, drop, length-append, length-drop}
use lib.Seq.{take_all}
use lib.Dec.{leb}
use Rattle.text.specs.Text.{line_text, value_text, further_numbers, request_text, SixDigits}
use Rattle.text.specs.Reading.{number_at, values_from, numbers_from, kind_of, polynomial_of, order_of, count_of, further_of, budget_of, line_one, line_one_length, values_of, rewritten, same_bytes, in_form}
use Rattle.text.proofs.Lengths.{length_line, length_values, further_le, length_numbers_from, length_values_from}
use Rattle.text.proofs.Numbers.{number_six}
use Rattle.text.proofs.Compare.{both_true, is_false, same_true}

pub six_none : SixDigits []
unfolding SixDigits
six_none i = zero-le

pub six_more : {v : ℕ} (vs : List ℕ) → v ≤ 999999 → SixDigits vs → SixDigits (v ∷ vs)
unfolding SixDigits
six_more {v} vs h k = go
  where
    go : (i : ℕ) → get_or (v ∷ vs) i 0 ≤ 999999
    go zero = h
    go (suc i) = k i

pub six_append : (vs ws : List ℕ) → SixDigits vs → SixDigits ws → SixDigits (vs ++ ws)
unfolding SixDigits
six_append [] ws h k = k
six_append (v ∷ vs) ws h k = six_more (vs ++ ws) (h 0) (six_append vs ws (λ i. h (suc i)) k)

pub six_front : (vs ws : List ℕ) → SixDigits (vs ++ ws) → SixDigits vs
unfolding SixDigits
six_front [] ws h = six_none
six_front (v ∷ vs) ws h = six_more vs (h 0) (six_front vs ws (λ i. h (suc i)))

pub six_back : (vs ws : List ℕ) → SixDigits (vs ++ ws) → SixDigits ws
unfolding SixDigits
six_back [] ws h = h
six_back (v ∷ vs) ws h = six_back vs ws (λ i. h (suc i))

pub six_numbers : (s : List ℕ) (at n : ℕ) → SixDigits (numbers_from s at n)
unfolding numbers_from
six_numbers s at zero = six_none
six_numbers s at (suc n) = six_more _ (number_six s at) (six_numbers s (at + 6) n)

pub six_line_one : (s : List ℕ) → SixDigits (line_one s)
unfolding line_one kind_of polynomial_of order_of count_of further_of
six_line_one s =
    six_more _ (number_six s 0) (six_more _ (number_six s 6) (six_more _ (number_six s 12) (six_more _ (number_six s 18) (six_numbers s 24 _))))

pub length_further : (s : List ℕ) → length (further_of s) ≡ further_numbers (kind_of s)
unfolding further_of
length_further s = length_numbers_from s 24 (further_numbers (kind_of s))

pub length_line_one : (s : List ℕ) → length (line_text (line_one s)) ≡ line_one_length (kind_of s)
unfolding line_one line_one_length
length_line_one s = omega (arith, length_line (kind_of s ∷ polynomial_of s ∷ order_of s ∷ count_of s ∷ further_of s), length_further s)

-- as the code reads it: by the number in the first columns
pub line_one_read : (s : List ℕ) {kind n : ℕ} → kind ≡ number_at s 0 → n ≡ line_one_length kind → n ≡ line_one_length (kind_of s)
unfolding kind_of
line_one_read s k e = e ∙ ap line_one_length k

pub line_one_least : (kind : ℕ) → 25 ≤ line_one_length kind
unfolding line_one_length
line_one_least kind = omega arith

pub line_one_most : (kind : ℕ) → line_one_length kind ≤ 31
unfolding line_one_length
line_one_most kind = omega (arith, further_le kind)

-- line one is the first of these five numbers, as many as it has
pub line_one_taken : (s : List ℕ)
    → take (4 + further_numbers (kind_of s)) (kind_of s ∷ polynomial_of s ∷ order_of s ∷ count_of s ∷ number_at s 24 ∷ []) ≡ line_one s
unfolding line_one further_of numbers_from
line_one_taken s = go (further_numbers (kind_of s)) (further_le (kind_of s))
  where
    go : (n : ℕ) → n ≤ 1
        → take (4 + n) (kind_of s ∷ polynomial_of s ∷ order_of s ∷ count_of s ∷ number_at s 24 ∷ []) ≡ kind_of s ∷ polynomial_of s ∷ order_of s ∷ count_of s ∷ numbers_from s 24 n
    go zero h = refl
    go (suc zero) h = refl
    go (suc (suc n)) h = let z : ⊥ = omega arith in absurd z

-- the budget
pub budget_none : (s : List ℕ) → further_numbers (kind_of s) ≡ 0 → budget_of s ≡ 0
unfolding budget_of further_of numbers_from
budget_none s e = rw e

pub budget_some : (s : List ℕ) → (further_numbers (kind_of s) ≡ 0 → ⊥) → budget_of s ≡ number_at s 24
unfolding budget_of further_of numbers_from
budget_some s = go (further_numbers (kind_of s))
  where
    go : (n : ℕ) → (n ≡ 0 → ⊥) → get_or (numbers_from s 24 n) 0 0 ≡ number_at s 24
    go zero h = absurd (h refl)
    go (suc n) h = refl

-- the part behind line one
abbrev pub behind : List ℕ → List ℕ
behind s = drop (line_one_length (kind_of s)) s

-- the values read from s, as they are written
abbrev pub tail_text : List ℕ → List ℕ
tail_text s = value_text 0 (values_from (behind s) 0 (number_at s 18))

pub rewritten_is : (s : List ℕ) → rewritten s ≡ line_text (line_one s) ++ tail_text s
unfolding rewritten request_text line_one values_of count_of
rewritten_is s = rw (length_values_from (behind s) 0 (number_at s 18))

pub length_rewritten : (s : List ℕ) → length (rewritten s) ≡ line_one_length (kind_of s) + 6 * number_at s 18 + (number_at s 18 + 15) / 16
length_rewritten s =
    let values = values_from (behind s) 0 (number_at s 18) in
    rw (rewritten_is s)
    (omega (
      arith,
      length-append (line_text (line_one s)) (value_text 0 values),
      length_line_one s,
      length_values values,
      length_values_from (behind s) 0 (number_at s 18),
    ))

-- the part behind n bytes, as the code makes it
pub part_is : (n : ℕ) (s : List ℕ) → take (length s - n) (drop n s) ≡ drop n s
part_is n s = take_all (length s - n) (drop n s) (omega (arith, length-drop n s))

-- a text in form has the length that its kind and count say
pub form_length : (s : List ℕ) → in_form s ≡ true → (length s ≤ 4096) × (s ≡ rewritten s)
unfolding in_form
form_length s e =
    let p = both_true (leb (length s) 4096) (same_bytes s (rewritten s)) e in
    (leb-true (length s) 4096 p.0, same_true s (rewritten s) p.1)

pub no_form : (s : List ℕ)
    → (length s ≤ 4096 → length s ≡ line_one_length (kind_of s) + 6 * number_at s 18 + (number_at s 18 + 15) / 16 → ⊥) → in_form s ≡ false
no_form s h =
    is_false (in_form s) (λ e. let p = form_length s e in h p.0 (ap length p.1 ∙ length_rewritten s))

-- a text in form has line one
pub form_long : (s : List ℕ) → in_form s ≡ true → line_one_length (kind_of s) ≤ length s
form_long s e = omega (arith, ap length (form_length s e).1, length_rewritten s)

pub form_same : (s : List ℕ) → length s ≤ 4096 → in_form s ≡ same_bytes s (rewritten s)
unfolding in_form
form_same s h = rw (le-leb (length s) 4096 h)
