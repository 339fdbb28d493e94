-- The polynomials over two elements are a commutative ring, and degrees add. Assumes nothing.
use mathlib.Core.Path.{◌≡◌, refl, sym, ap, ap₂, ◌∙◌}
use Prim.Native.Nat.{ℕ, zero, suc, ◌*◌, ◌/◌, ◌%◌, ◌≤◌}
use native.Mathlib.Nat.{mul-div_cancel, mul-mod_left, mul-zero, mod-lt, zero-lt-suc, zero-mul, one-mul, mul-one, mul_assoc, div-add-mod', not-suc-le-zero, le_refl}
use native.Mathlib.Decide.{le_ind}
use lib.Arith.{bin_ind, half_le}
use lib.Bits.{differ}
use Rattle.field.specs.Polynomial.{◌⊕◌, ◌⊗◌, digits_within, over_digits}
use Rattle.field.proofs.Sum.{at_digit_holds, sum_zero_l, sum_zero_r, sum_comm, sum_self, sum_half, sum_digit, sum_double, sum_low, sums}

-- ---- recursion over the digits

module _ (step : ℕ → ℕ → ℕ) where
  more : (n a : ℕ) → a ≤ n → digits_within step (suc n) a ≡ digits_within step n a
  unfolding digits_within
  more zero zero h = refl
  more zero (suc a) h = absurd (not-suc-le-zero h)
  more (suc n) zero h = refl
  more (suc n) (suc a) h = ap (step (suc a % 2)) (more n (suc a / 2) (half_le h))

  enough : (n a : ℕ) → a ≤ n → digits_within step n a ≡ over_digits step a
  unfolding over_digits
  enough n a h = le_ind (λ (m : ℕ). digits_within step m a ≡ digits_within step a a) refl (λ m k e. more m a k ∙ e) n h

  -- the lowest digit, and the digits above it
  pub digits_suc : (a : ℕ) → over_digits step (suc a) ≡ step (suc a % 2) (over_digits step (suc a / 2))
  unfolding over_digits digits_within
  digits_suc a = ap (step (suc a % 2)) (enough a (suc a / 2) (half_le (le_refl (suc a))))

  pub digits_step : step 0 0 ≡ 0 → (a : ℕ) → over_digits step a ≡ step (a % 2) (over_digits step (a / 2))
  unfolding over_digits digits_within
  digits_step e zero = sym e
  digits_step e (suc a) = digits_suc a

-- ---- the product

pub product_step : (a b : ℕ) → a ⊗ b ≡ a % 2 * b ⊕ (a / 2 ⊗ b) * 2
unfolding ◌⊗◌
product_step a b = digits_step (λ d rest. d * b ⊕ rest * 2) (ap (λ (x : ℕ). x ⊕ 0) (zero-mul b) ∙ sum_self 0) a

pub product_zero_l : (b : ℕ) → 0 ⊗ b ≡ 0
unfolding ◌⊗◌ over_digits digits_within
product_zero_l b = refl

pub product_one_l : (b : ℕ) → 1 ⊗ b ≡ b
product_one_l b = product_step 1 b ∙ rw (product_zero_l b, one-mul b, sum_zero_r b) refl

-- a digit times a polynomial is linear
digit_sum : (n a b : ℕ) → n % 2 * (a ⊕ b) ≡ n % 2 * a ⊕ n % 2 * b
digit_sum n a b =
    at_digit_holds (λ d. d * (a ⊕ b) ≡ d * a ⊕ d * b) (simp (zero-mul, sum_self)) (simp one-mul) n

digits_differ : (a b c : ℕ) → differ (a % 2) (b % 2) * c ≡ a % 2 * c ⊕ b % 2 * c
digits_differ a b c =
    at_digit_holds (λ d. differ d (b % 2) * c ≡ d * c ⊕ b % 2 * c) (simp (zero-mul, sum_zero_l))
    (at_digit_holds (λ e. differ 1 e * c ≡ 1 * c ⊕ e * c) (simp (zero-mul, sum_zero_r)) (simp (zero-mul, sum_self)) b)
    a

-- the product is linear in its left factor
pub product_sum_l : (a b c : ℕ) → (a ⊕ b) ⊗ c ≡ a ⊗ c ⊕ b ⊗ c
product_sum_l =
    bin_ind (λ (a : ℕ). (b c : ℕ) → (a ⊕ b) ⊗ c ≡ a ⊗ c ⊕ b ⊗ c)
    (λ b c. rw (sum_zero_l b, product_zero_l c, sum_zero_l (b ⊗ c)) refl)
    (λ a ih b c. product_step (a ⊕ b) c ∙ rw (sum_half a b, sum_digit a b, digits_differ a b c, ih (b / 2) c, product_step a c, product_step b c, sum_double (a / 2 ⊗ c) (b / 2 ⊗ c)) (simp sums))

-- and in its right factor
pub product_sum_r : (a b c : ℕ) → a ⊗ (b ⊕ c) ≡ a ⊗ b ⊕ a ⊗ c
product_sum_r a b c =
    bin_ind (λ (a : ℕ). a ⊗ (b ⊕ c) ≡ a ⊗ b ⊕ a ⊗ c) (rw (product_zero_l (b ⊕ c), product_zero_l b, product_zero_l c) (sym (sum_self 0)))
    (λ a ih. product_step a (b ⊕ c) ∙ rw (ih, digit_sum a b c, product_step a b, product_step a c, sum_double (a / 2 ⊗ b) (a / 2 ⊗ c)) (simp sums))
    a

-- a factor doubled
pub product_double_l : (a b : ℕ) → (a * 2) ⊗ b ≡ (a ⊗ b) * 2
product_double_l a b =
    product_step (a * 2) b ∙ rw (mul-mod_left a 2, mul-div_cancel a (zero-lt-suc 1), zero-mul b, sum_zero_l ((a ⊗ b) * 2)) refl

pub product_double_r : (a b : ℕ) → a ⊗ (b * 2) ≡ (a ⊗ b) * 2
product_double_r a b =
    bin_ind (λ (a : ℕ). a ⊗ (b * 2) ≡ (a ⊗ b) * 2) (rw (product_zero_l (b * 2), product_zero_l b) refl)
    (λ a ih. product_step a (b * 2) ∙ rw (ih, ← mul_assoc (a % 2) b 2, product_step a b) (sym (sum_double (a % 2 * b) ((a / 2 ⊗ b) * 2))))
    a

pub product_zero_r : (a : ℕ) → a ⊗ 0 ≡ 0
product_zero_r = bin_ind (λ (a : ℕ). a ⊗ 0 ≡ 0) (product_zero_l 0) (λ a ih. product_step a 0 ∙ rw (ih, mul-zero (a % 2)) (sum_self 0))

-- a number is its digits
pub digits_sum : (a : ℕ) → a / 2 * 2 ⊕ a % 2 ≡ a
digits_sum a = sum_low (a / 2) (a % 2) (mod-lt a (zero-lt-suc 1)) ∙ div-add-mod' a 2

pub product_one_r : (a : ℕ) → a ⊗ 1 ≡ a
product_one_r =
    bin_ind (λ (a : ℕ). a ⊗ 1 ≡ a) (product_zero_l 1)
    (λ a ih. product_step a 1 ∙ rw (ih, mul-one (a % 2), sum_comm (a % 2) (a / 2 * 2)) (digits_sum a))

-- the same step on the right factor's digits
pub product_step_r : (a b : ℕ) → a ⊗ b ≡ b % 2 * a ⊕ (a ⊗ (b / 2)) * 2
product_step_r a b =
    ap (λ (x : ℕ). a ⊗ x) (sym (digits_sum b)) ∙ product_sum_r a (b / 2 * 2) (b % 2)
    ∙ ap₂ ◌⊕◌ (product_double_r a (b / 2)) (at_digit_holds (λ d. a ⊗ d ≡ d * a) (product_zero_r a ∙ sym (zero-mul a)) (product_one_r a ∙ sym (one-mul a)) b)
    ∙ sum_comm ((a ⊗ (b / 2)) * 2) (b % 2 * a)

pub product_comm : (a b : ℕ) → a ⊗ b ≡ b ⊗ a
product_comm a b =
    bin_ind (λ (a : ℕ). a ⊗ b ≡ b ⊗ a) (product_zero_l b ∙ sym (product_zero_r b))
    (λ a ih. product_step a b ∙ ap (λ (x : ℕ). a % 2 * b ⊕ x * 2) ih ∙ sym (product_step_r b a))
    a

pub product_assoc : (a b c : ℕ) → a ⊗ b ⊗ c ≡ a ⊗ (b ⊗ c)
product_assoc a b c =
    bin_ind (λ (a : ℕ). a ⊗ b ⊗ c ≡ a ⊗ (b ⊗ c)) (rw (product_zero_l b, product_zero_l c) (sym (product_zero_l (b ⊗ c))))
    (λ a ih. ap (λ (x : ℕ). x ⊗ c) (product_step a b) ∙ product_sum_l (a % 2 * b) ((a / 2 ⊗ b) * 2) c
    ∙ ap₂ ◌⊕◌ (at_digit_holds (λ d. (d * b) ⊗ c ≡ d * (b ⊗ c)) (simp (zero-mul, product_zero_l)) (simp one-mul) a)
    (product_double_l (a / 2 ⊗ b) c ∙ ap (λ (x : ℕ). x * 2) ih)
    ∙ sym (product_step a (b ⊗ c)))
    a

pub product_left_comm : (a b c : ℕ) → a ⊗ (b ⊗ c) ≡ b ⊗ (a ⊗ c)
product_left_comm a b c = sym (product_assoc a b c) ∙ ap (λ (x : ℕ). x ⊗ c) (product_comm a b) ∙ product_assoc b a c

-- an equation between sums of products: both sides are brought to one order
pub ruleset products = (sums, product_assoc, product_comm, product_left_comm, product_sum_l, product_sum_r, product_zero_l, product_zero_r, product_one_l, product_one_r)
