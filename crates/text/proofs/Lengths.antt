-- How many bytes the texts have: six for a number, one for a line's end, 25 + 6 k + 6 n + (n + 15) / 16 for a request of n values with
-- k further numbers.
-- Assumes nothing.
use mathlib.Core.Path.{◌≡◌, refl, ap}
use mathlib.Core.Bool.{Bool, true, false, cond, ◌||◌, or-true}
use mathlib.Core.List.{List, [], ◌∷◌, ◌++◌}
use Prim.Native.Nat.{ℕ, zero, suc, ◌+◌, ◌*◌, ◌/◌, ◌%◌, ◌≤◌}
use native.Mathlib.Omega.{arith}
use native.Mathlib.Decide.{ℕ_discrete}
use borrow.Author.Tests.{eq-eqb, ne_eqb}
use lib.ListN.{length, length-append}
use lib.Dec.{eqb}
use Rattle.text.specs.Text.{column, columns, line_text, line_end, value_text, further_numbers, request_text}
use Rattle.text.specs.Reading.{values_from, numbers_from}

pub length_column : (v : ℕ) → length (column v) ≡ 6
unfolding column
length_column v = refl

pub length_columns : (vs : List ℕ) → length (columns vs) ≡ 6 * length vs
unfolding columns
length_columns [] = refl
length_columns (v ∷ vs) = omega (arith, length-append (column v) (columns vs), length_column v, length_columns vs)

pub length_line : (vs : List ℕ) → length (line_text vs) ≡ 6 * length vs + 1
unfolding line_text
length_line vs = omega (arith, length-append (columns vs) (10 ∷ []), length_columns vs)

-- what follows a value: a line's end, or nothing
pub end_yes : (i left : ℕ) → (eqb (i % 16) 15 || eqb left 0) ≡ true → line_end i left ≡ 10 ∷ []
unfolding line_end
end_yes i left e = rw e

pub end_no : (i left : ℕ) → (eqb (i % 16) 15 || eqb left 0) ≡ false → line_end i left ≡ []
unfolding line_end
end_no i left e = rw e

pub end_full : (i left : ℕ) → i % 16 ≡ 15 → line_end i left ≡ 10 ∷ []
end_full i left e = end_yes i left (rw (eq-eqb (i % 16) 15 e))

pub end_last : (i : ℕ) → line_end i 0 ≡ 10 ∷ []
end_last i = end_yes i 0 (or-true (eqb (i % 16) 15))

pub end_none : (i left : ℕ) → (i % 16 ≡ 15 → ⊥) → line_end i (suc left) ≡ []
end_none i left h = end_no i (suc left) (rw (ne_eqb (i % 16) 15 h, ne_eqb (suc left) 0 (omega arith)))

-- the bytes of the values from number i on, where there are n + 1 of them
ends : (i n : ℕ) → ℕ
ends i n = (i % 16 + n) / 16 + 1

ends_step : (i n : ℕ) → length (line_end i (suc n)) + ends (suc i) n ≡ ends i (suc n)
unfolding ends
ends_step i n = elim (ℕ_discrete (i % 16) 15) [
  | yes e ↦ rw (end_full i (suc n) e) (omega (arith, e))
  | no d ↦ rw (end_none i n d) (omega (arith, d))
]

values_step : (i v : ℕ) (vs : List ℕ) → length (value_text i (v ∷ vs)) ≡ 6 + length (line_end i (length vs)) + length (value_text (suc i) vs)
unfolding value_text
values_step i v vs =
    omega (
      arith,
      length-append (column v ++ line_end i (length vs)) (value_text (suc i) vs),
      length-append (column v) (line_end i (length vs)),
      length_column v,
    )

values_suc : (i v : ℕ) (vs : List ℕ) → length (value_text i (v ∷ vs)) ≡ 6 * suc (length vs) + ends i (length vs)
unfolding ends value_text
values_suc i v [] = omega (arith, values_step i v [], ap length (end_last i))
values_suc i v (w ∷ vs) = omega (arith, values_step i v (w ∷ vs), values_suc (suc i) w vs, ends_step i (length vs))

pub length_values : (vs : List ℕ) → length (value_text 0 vs) ≡ 6 * length vs + (length vs + 15) / 16
unfolding ends value_text
length_values [] = refl
length_values (v ∷ vs) = omega (arith, values_suc 0 v vs)

pub length_request : (kind polynomial order : ℕ) (further vs : List ℕ)
    → length (request_text kind polynomial order further vs) ≡ 25 + 6 * length further + 6 * length vs + (length vs + 15) / 16
unfolding request_text
length_request k p o fs vs =
    let numbers = k ∷ p ∷ o ∷ length vs ∷ fs in
    omega (arith, length-append (line_text numbers) (value_text 0 vs), length_line numbers, length_values vs)

-- line one has at most one further number
pub further_le : (kind : ℕ) → further_numbers kind ≤ 1
unfolding further_numbers
further_le kind = go (eqb kind 6)
  where
    go : (t : Bool) → cond t 1 0 ≤ 1
    go true = omega arith
    go false = omega arith

pub length_numbers_from : (s : List ℕ) (at n : ℕ) → length (numbers_from s at n) ≡ n
unfolding numbers_from
length_numbers_from s at zero = refl
length_numbers_from s at (suc n) = ap suc (length_numbers_from s (at + 6) n)

pub length_values_from : (s : List ℕ) (i n : ℕ) → length (values_from s i n) ≡ n
unfolding values_from
length_values_from s i zero = refl
length_values_from s i (suc n) = ap suc (length_values_from s (suc i) n)
