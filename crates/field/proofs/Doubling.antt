-- The steps of the product, in the order of FIPS 197 (2001), section 4.2.1: a value doubled k times is the factor times 2^k, and the sum after k bits is
-- the factor times the lowest k bits. For every polynomial, all degrees together. Assumes nothing.
use mathlib.Core.Path.{◌≡◌, refl, sym, ap, ap₂, ◌∙◌}
use mathlib.Core.Logic.{◌⊎◌, inl, inr}
use Prim.Native.Nat.{ℕ, zero, suc, ◌+◌, ◌*◌, ◌/◌, ◌%◌, ◌^◌, ◌≤◌, ◌<◌, min}
use native.Mathlib.Nat.{zero-mul, one-mul, mod-one, mod-lt, mod-eq_of_lt, suc-add, zero-add, pow-suc, min-eq_left, min-eq_right, le_refl, mul-zero, mul-div_cancel, zero-lt-suc}
use native.Mathlib.Omega.{arith}
use lib.Bits.{bit_xor, xor_block, xor_shifted, xor_zero_r}
use lib.Pow.{pow_pos, shr-shr, split, mod-pow-add}
use Rattle.field.specs.Polynomial.{bit, ◌⊕◌, degree, reduce, rem, product}
use Rattle.field.specs.Doubling.{xtime, doubled, sum_after}
use Rattle.field.proofs.Sum.{digit, at_digit_holds, sum_comm, sum_zero_r, sum_top, sum_tops}
use Rattle.field.proofs.Degrees.{HasDegree, has_degree}
use Rattle.field.proofs.Field.{times_zero_r, times_one_r, times_lt, times_sum_r, times_double, double_reduce}

-- ---- bits

one_add : (k : ℕ) → 1 + k ≡ suc k
one_add k = suc-add 0 k ∙ ap suc (zero-add k)

-- the lowest k + 1 bits
pub low_more : (k x : ℕ) → x % 2 ^ suc k ≡ bit k x * 2 ^ k + x % 2 ^ k
unfolding bit
low_more k x = ap (λ (e : ℕ). x % 2 ^ e) (sym (one_add k)) ∙ mod-pow-add x 1 k

-- the same as a sum
low_sum_more : (k x : ℕ) → x % 2 ^ suc k ≡ bit k x * 2 ^ k ⊕ x % 2 ^ k
unfolding ◌⊕◌
low_sum_more k x = low_more k x ∙ sym (xor_shifted (bit k x) k (x % 2 ^ k) (mod-lt x (pow_pos k)))

-- a left shift moves a bit one place up
pub bit_double : (k x : ℕ) → bit (suc k) (x * 2) ≡ bit k x
unfolding bit
bit_double k x =
    ap (λ (n : ℕ). n % 2)
    (ap (λ (e : ℕ). x * 2 / 2 ^ e) (sym (one_add k)) ∙ sym (shr-shr (x * 2) 1 k) ∙ ap (λ (n : ℕ). n / 2 ^ k) (mul-div_cancel x (zero-lt-suc 1)))

-- ---- the test of the degree

-- p changes the lowest m + 1 bits alone
low_sum : (p m x : ℕ) → HasDegree p m → x ⊕ p ≡ x / 2 ^ suc m * 2 ^ suc m + (x % 2 ^ suc m ⊕ p)
unfolding ◌⊕◌
low_sum p m x d =
    ap₂ bit_xor (sym (split x (suc m))) (sym (ap (λ (n : ℕ). n + p) (zero-mul (2 ^ suc m)) ∙ zero-add p))
    ∙ xor_block (suc m) (x / 2 ^ suc m) 0 (x % 2 ^ suc m) p (mod-lt x (pow_pos (suc m))) d.high
    ∙ ap (λ (n : ℕ). n * 2 ^ suc m + bit_xor (x % 2 ^ suc m) p) (xor_zero_r (x / 2 ^ suc m))

-- p is subtracted where that makes x smaller, which is where the bit of its degree is set
reduced : (p x m : ℕ) → HasDegree p m → min x (x ⊕ p) ≡ x ⊕ bit m x * p
reduced p x m d = from (unfold bit in digit (x / 2 ^ m))
  where
    from : (bit m x ≡ 0) ⊎ (bit m x ≡ 1) → min x (x ⊕ p) ≡ x ⊕ bit m x * p
    from (inl e) =
        let low : x % 2 ^ suc m ≡ x % 2 ^ m = low_more m x ∙ rw (e, zero-mul (2 ^ m)) (zero-add (x % 2 ^ m)) in
        let small : x % 2 ^ suc m < 2 ^ m = rw low (mod-lt x (pow_pos m)) in
        min-eq_left (omega (arith, low_sum p m x d, split x (suc m), sum_comm p (x % 2 ^ suc m), sum_top m p (x % 2 ^ suc m) d.low small))
        ∙ sym (rw (e, zero-mul p) (sum_zero_r x))
    from (inr e) =
        let low : x % 2 ^ suc m ≡ 2 ^ m + x % 2 ^ m = low_more m x ∙ rw (e, one-mul (2 ^ m)) refl in
        let top : 2 ^ m ≤ x % 2 ^ suc m = omega arith in
        min-eq_right (omega (arith, low_sum p m x d, split x (suc m), sum_tops m (x % 2 ^ suc m) p top (mod-lt x (pow_pos (suc m))) d.low d.high))
        ∙ sym (rw (e, one-mul p) refl)

-- long division subtracts p exactly where the bit of its degree is set
pub reduce_degree : (p x : ℕ) → reduce p x ≡ x ⊕ bit (degree p) x * p
unfolding reduce
reduce_degree zero x = ap (min x) (sum_zero_r x) ∙ min-eq_left (le_refl x) ∙ sym (ap (λ (n : ℕ). x ⊕ n) (mul-zero (bit (degree 0) x)) ∙ sum_zero_r x)
reduce_degree (suc p) x = reduced (suc p) x (degree (suc p)) (has_degree (suc p) (zero-lt-suc p))

-- ---- one bit more

module _ (p m : ℕ) (d : HasDegree p m) where
  -- one bit of the second factor selects a times its power of 2
  times_bit : (a k b : ℕ) → product p a (bit k b * 2 ^ k) ≡ bit k b * product p a (2 ^ k)
  unfolding bit
  times_bit a k b =
      at_digit_holds (λ e. product p a (e * 2 ^ k) ≡ e * product p a (2 ^ k)) (rw (zero-mul (2 ^ k), zero-mul (product p a (2 ^ k))) (times_zero_r p a))
      (rw (one-mul (2 ^ k), one-mul (product p a (2 ^ k))) refl)
      (b / 2 ^ k)

  -- one bit more of the second factor
  pub times_low_more : (a b k : ℕ) → product p a (b % 2 ^ suc k) ≡ product p a (b % 2 ^ k) ⊕ bit k b * product p a (2 ^ k)
  times_low_more a b k =
      ap (product p a) (low_sum_more k b)
      ∙ times_sum_r p m d a (bit k b * 2 ^ k) (b % 2 ^ k)
      ∙ sum_comm (product p a (bit k b * 2 ^ k)) (product p a (b % 2 ^ k))
      ∙ ap (λ (x : ℕ). product p a (b % 2 ^ k) ⊕ x) (times_bit a k b)

-- ---- the steps

-- multiplication by x is the remainder of the shifted element
pub xtime_rem : (p a : ℕ) → 0 < p → a < 2 ^ degree p → xtime p a ≡ rem p (a * 2)
unfolding xtime
xtime_rem p a h l = sym (double_reduce p (degree p) (has_degree p h) a l ∙ reduce_degree p (a * 2))

-- the value doubled k times is the first factor times 2^k
pub doubled_power : (p a : ℕ) → 0 < p → a < 2 ^ degree p → (k : ℕ) → doubled p a k ≡ product p a (2 ^ k)
unfolding doubled
doubled_power p a h l zero = sym (times_one_r p (degree p) (has_degree p h) a l)
doubled_power p a h l (suc k) =
    ap (xtime p) (doubled_power p a h l k)
    ∙ xtime_rem p (product p a (2 ^ k)) h (times_lt p (degree p) (has_degree p h) a (2 ^ k))
    ∙ sym (times_double p (degree p) (has_degree p h) a (2 ^ k))
    ∙ ap (product p a) (sym (pow-suc 2 k))

-- the sum after k bits is the first factor times the lowest k bits of the second
pub sum_after_holds : (p a b : ℕ) → 0 < p → a < 2 ^ degree p → (k : ℕ) → sum_after p a b k ≡ product p a (b % 2 ^ k)
unfolding sum_after
sum_after_holds p a b h l zero = sym (ap (product p a) (mod-one b) ∙ times_zero_r p a)
sum_after_holds p a b h l (suc k) =
    ap₂ (λ (s v : ℕ). s ⊕ bit k b * v) (sum_after_holds p a b h l k) (doubled_power p a h l k)
    ∙ sym (times_low_more p (degree p) (has_degree p h) a b k)

-- after all bits of the second factor the sum is the product
pub sum_whole : (p a b : ℕ) → 0 < p → a < 2 ^ degree p → (k : ℕ) → b < 2 ^ k → sum_after p a b k ≡ product p a b
sum_whole p a b h l k all = sum_after_holds p a b h l k ∙ ap (product p a) (mod-eq_of_lt all)
