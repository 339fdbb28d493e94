-- Polynomials over two elements and the field of their remainders, in the words of document 01. A polynomial is a number whose
-- bit i is the coefficient of x^i; an element of the field of degree m is a number below 2^m.
-- Assumes nothing.
use Rattle.std.specs.Prelude.{◌≡◌, Bool, true, false, cond, not, ◌&&◌, ◌||◌, List, ℕ, zero, suc, ◌+◌, ◌-◌, ◌*◌, ◌/◌, ◌%◌, ◌^◌, ◌≤◌, ◌<◌, min, eqb, leb, ltb, get_or}
use Rattle.std.specs.Int.Bits.{bit_xor}
use Rattle.std.specs.Int.Count.{ones}

infixl 68 ◌⊕◌
infixl 69 ◌⊗◌
-- ---- polynomials

-- bit b of a number: the coefficient of x^b
unfoldable pub bit : ℕ → ℕ → ℕ
bit b a = a / 2 ^ b % 2

-- a sum: the exclusive or
unfoldable pub ◌⊕◌ : ℕ → ℕ → ℕ
a ⊕ b = bit_xor a b

-- Recursion over the binary digits of a number: 0 at 0; else `step` of the lowest digit and of what the digits above it give.
-- The first number bounds how many digits are looked at.
unfoldable pub digits_within : (ℕ → ℕ → ℕ) → ℕ → ℕ → ℕ
digits_within step zero a = 0
digits_within step (suc n) zero = 0
digits_within step (suc n) (suc a) = step (suc a % 2) (digits_within step n (suc a / 2))

unfoldable pub over_digits : (ℕ → ℕ → ℕ) → ℕ → ℕ
over_digits step a = digits_within step a a

-- the degree: the place of the highest set bit
unfoldable pub degree : ℕ → ℕ
degree a = over_digits (λ d rest. suc rest) a - 1

-- the polynomial product over two elements: each digit of a times b, a digit higher up for each place
unfoldable pub ◌⊗◌ : ℕ → ℕ → ℕ
a ⊗ b = over_digits (λ d rest. (d * b) ⊕ (rest * 2)) a

-- one step of long division by p: p is subtracted where x has p's leading bit, which is where that makes x smaller
unfoldable pub reduce : ℕ → ℕ → ℕ
reduce p x = min x (x ⊕ p)

-- the remainder after division by p: long division, the digits of a brought down one by one
unfoldable pub rem : ℕ → ℕ → ℕ
rem p a = over_digits (λ d rest. reduce p (rest * 2 + d)) a

-- irreducible: no product of two polynomials of degree 1 or more equals it (degree 1 or more: 2 or more as a number)
unfoldable pub Irreducible : ℕ → Type 0
Irreducible p = (a b : ℕ) → 2 ≤ a → 2 ≤ b → a ⊗ b ≡ p → ⊥

-- some number below n passes the test
unfoldable pub some_below : ℕ → (ℕ → Bool) → Bool
some_below zero test = false
some_below (suc n) test = test n || some_below n test

-- irreducible, as a test: a factor of p with a cofactor of degree 1 or more is below p
unfoldable pub is_irreducible : ℕ → Bool
is_irreducible p = not (some_below p (λ a. some_below p (λ b. leb 2 a && leb 2 b && eqb (a ⊗ b) p)))

-- ---- the field

-- the polynomials that a field is made with: of degree 2 to 8, that is from 4 to 511, and irreducible
pub record Modulus (p : ℕ) : Type 0 where
  pub low : 4 ≤ p
  pub high : p ≤ 511
  pub irreducible : is_irreducible p ≡ true

-- a product of the field: the polynomial product, reduced to the remainder after division by the polynomial
unfoldable pub product : ℕ → ℕ → ℕ → ℕ
product p a b = rem p (a ⊗ b)

-- 0 where the test passed, else one more than what the others gave
abbrev pub or_next : Bool → ℕ → ℕ
or_next true rest = 0
or_next false rest = suc rest

-- the first number below n that passes the test, or n
unfoldable pub first_below : ℕ → (ℕ → Bool) → ℕ
first_below zero test = 0
first_below (suc n) test = or_next (test 0) (first_below n (λ k. test (suc k)))

-- the inverse: the element whose product with a is 1
unfoldable pub inverse : ℕ → ℕ → ℕ
inverse p a = first_below (2 ^ degree p) (λ b. eqb (product p a b) 1)

-- the ones in the first k columns of the bit matrix of a: column j is a times 2^j
unfoldable pub ones_in_columns : ℕ → ℕ → ℕ → ℕ
ones_in_columns p a zero = 0
ones_in_columns p a (suc k) = ones_in_columns p a k + ones (product p a (2 ^ k))

-- the XOR count of an element: the ones in its m by m bit matrix, less m; the count of 0 is 0
unfoldable pub xor_count : ℕ → ℕ → ℕ
xor_count p zero = 0
xor_count p (suc a) = ones_in_columns p (suc a) (degree p) - degree p

-- ---- the table of all products

-- entry i of a table of all products: a times b at place a · 256 + b, for every element a and every byte b; 0 behind them
unfoldable pub product_at : ℕ → ℕ → ℕ
product_at p i = cond (ltb (i / 256) (2 ^ degree p)) (product p (i / 256) (i % 256)) 0

-- an array of 65,536 is the table of all products
unfoldable pub Products : ℕ → List ℕ → Type 0
Products p table = (i : ℕ) → i < 65536 → get_or table i 0 ≡ product_at p i
