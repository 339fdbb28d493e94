-- What document 01 says of each number with which a call is refused, of a call with a polynomial. Assumes nothing.
use Rattle.std.specs.Prelude.{◌≡◌, ◌⊎◌, ℕ, ◌≤◌, ◌<◌, ◌^◌}
use Rattle.field.specs.Polynomial.{degree, Irreducible}

-- a value of 2^m or more among the values of a call
abbrev pub SomeTooLarge : ℕ → (ℕ → Type 0) → Type 0
SomeTooLarge p Value = (a : ℕ) × Value a × (2 ^ degree p ≤ a)

-- The numbers 3 to 8. What the values of a call are, and which order, which count and which value are not allowed, depends on the call.
pub data Stated (p : ℕ) (WrongOrder WrongCount : Type 0) (Value : ℕ → Type 0) (BadValue : Type 0) : ℕ → Type 0 where
  -- 3: polynomial not in 4 to 511
  outside : (p < 4) ⊎ (511 < p) → Stated p WrongOrder WrongCount Value BadValue 3
  -- 4: polynomial reducible
  reducible : (Irreducible p → ⊥) → Stated p WrongOrder WrongCount Value BadValue 4
  -- 5: order not allowed
  wrong_order : WrongOrder → Stated p WrongOrder WrongCount Value BadValue 5
  -- 6: count not allowed
  wrong_count : WrongCount → Stated p WrongOrder WrongCount Value BadValue 6
  -- 7: a value of 2^m or more
  too_large : SomeTooLarge p Value → Stated p WrongOrder WrongCount Value BadValue 7
  -- 8: a value that is not allowed
  bad_value : BadValue → Stated p WrongOrder WrongCount Value BadValue 8

-- ---- the calls of the field: no order, no count

-- the degree: no value
abbrev pub DegreeStated : ℕ → ℕ → Type 0
DegreeStated p = Stated p ⊥ ⊥ (λ x. ⊥) ⊥

-- the product of a and b
abbrev pub ProductStated : ℕ → ℕ → ℕ → ℕ → Type 0
ProductStated p a b = Stated p ⊥ ⊥ (λ x. (x ≡ a) ⊎ (x ≡ b)) ⊥

-- the inverse of a: that of 0 is refused with 8
abbrev pub InverseStated : ℕ → ℕ → ℕ → Type 0
InverseStated p a = Stated p ⊥ ⊥ (λ x. x ≡ a) (a ≡ 0)

-- the XOR count of a
abbrev pub CountStated : ℕ → ℕ → ℕ → Type 0
CountStated p a = Stated p ⊥ ⊥ (λ x. x ≡ a) ⊥
