-- The faults of the calls of the field, in the order in which they are looked at. Assumes nothing.
use Rattle.std.specs.Prelude.{Bool, false, not, ◌||◌, List, [], ◌∷◌, ◌++◌, ℕ, ◌^◌, eqb, leb, ltb}
use Rattle.refusal.specs.Refusals.{Fault, fault}
use Rattle.field.specs.Polynomial.{degree, is_irreducible}

-- 3: not in 4 to 511
unfoldable pub is_outside : ℕ → Bool
is_outside p = ltb p 4 || ltb 511 p

-- 7: a value of 2^m or more
unfoldable pub is_too_large : ℕ → ℕ → Bool
is_too_large p a = leb (2 ^ degree p) a

-- 3 and 4, before all others
unfoldable pub polynomial_faults : ℕ → List Fault
polynomial_faults p = fault 3 (is_outside p) ∷ fault 4 (not (is_irreducible p)) ∷ []

-- those of every call: 3 and 4 for the polynomial, 5 where the order is wrong, 6 where the count is, 7 where a value is too large, 8 where a
-- value may not be; a call that has no such test gives `false` there
abbrev pub call_faults : ℕ → Bool → Bool → Bool → Bool → List Fault
call_faults p order count large bad = polynomial_faults p ++ fault 5 order ∷ fault 6 count ∷ fault 7 large ∷ fault 8 bad ∷ []

-- the product of a and b
unfoldable pub product_faults : ℕ → ℕ → ℕ → List Fault
product_faults p a b = call_faults p false false (is_too_large p a || is_too_large p b) false

-- the inverse of a: there is none of 0
unfoldable pub inverse_faults : ℕ → ℕ → List Fault
inverse_faults p a = call_faults p false false (is_too_large p a) (eqb a 0)

-- the XOR count of a
unfoldable pub count_faults : ℕ → ℕ → List Fault
count_faults p a = call_faults p false false (is_too_large p a) false
