-- The product in the steps of section 4.2.1 of FIPS 197 (2001), with any polynomial in the place of the standard's m(x) (document 02, Five).
-- To be believed. Assumes nothing.
use Rattle.std.specs.Prelude.{ℕ, zero, suc, ◌*◌}
use Rattle.field.specs.Polynomial.{bit, ◌⊕◌, degree}

-- multiplication by x, the standard's xtime(): a left shift, and where the degree is reached (its bit is set) the polynomial is subtracted
unfoldable pub xtime : ℕ → ℕ → ℕ
xtime p a = a * 2 ⊕ bit (degree p) (a * 2) * p

-- the value doubled k times: repeated application of xtime()
unfoldable pub doubled : ℕ → ℕ → ℕ → ℕ
doubled p a zero = a
doubled p a (suc k) = xtime p (doubled p a k)

-- the sum after k bits: the doubled values that the lowest k bits of b select, added from the lowest bit on
unfoldable pub sum_after : ℕ → ℕ → ℕ → ℕ → ℕ
sum_after p a b zero = 0
sum_after p a b (suc k) = sum_after p a b k ⊕ bit k b * doubled p a k
