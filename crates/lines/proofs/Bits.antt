-- The bits of a number: those of a sum, of a product, and how many are 1. Bit b of a times x is the exclusive or, over the bits k of x, of bit k of
-- x times bit b of a·2^k (`bit_product`). Assumes nothing.
use mathlib.Core.Path.{◌≡◌, refl, sym, ap, ap₂, ◌∙◌}
use Prim.Native.Nat.{ℕ, zero, suc, ◌+◌, ◌*◌, ◌/◌, ◌%◌, ◌^◌, ◌<◌}
use native.Mathlib.Nat.{zero-mul, one-mul, zero-div, mod-one, mod-lt, mod-eq_of_lt, div_self, add_comm}
use lib.Bits.{differ}
use lib.Count.{ones, ones_in, ones_cat}
use lib.Pow.{pow_pos}
use Rattle.algebra.specs.Matrix.{sum}
use Rattle.algebra.proofs.Sums.{Naturals}
use Rattle.field.specs.Polynomial.{◌⊕◌, product}
use Rattle.field.proofs.Sum.{at_digit_holds, sum_shr, sum_digit}
use Rattle.field.proofs.Degrees.{HasDegree}
use Rattle.field.proofs.Field.{times_zero_r}
use Rattle.field.proofs.Doubling.{low_more, times_low_more}
use Rattle.lines.specs.Numbers.{numbers}
use Rattle.lines.specs.Depths.{bit}

-- ---- sums

-- what holds of both digits holds of a bit
pub at_bit : (P : ℕ → Type 0) → P 0 → P 1 → (b a : ℕ) → P (bit b a)
unfolding bit
at_bit P zeroth oneth b a = at_digit_holds P zeroth oneth (a / 2 ^ b)

pub bit_zero : (b : ℕ) → bit b 0 ≡ 0
unfolding bit
bit_zero b = ap (λ (x : ℕ). x % 2) (zero-div (2 ^ b))

-- a power of 2 has its own bit
pub bit_own : (b : ℕ) → bit b (2 ^ b) ≡ 1
unfolding bit
bit_own b = ap (λ (x : ℕ). x % 2) (div_self (pow_pos b))

digits_sum : (a b : ℕ) → differ (a % 2) (b % 2) ≡ a % 2 ⊕ b % 2
unfolding ◌⊕◌
digits_sum a b =
    at_digit_holds (λ x. differ x (b % 2) ≡ x ⊕ b % 2) (at_digit_holds (λ y. differ 0 y ≡ 0 ⊕ y) refl refl b) (at_digit_holds (λ y. differ 1 y ≡ 1 ⊕ y) refl refl b) a

pub bit_sum : (b x y : ℕ) → bit b (x ⊕ y) ≡ bit b x ⊕ bit b y
unfolding bit
bit_sum b x y = ap (λ (z : ℕ). z % 2) (sum_shr x y b) ∙ sum_digit (x / 2 ^ b) (y / 2 ^ b) ∙ digits_sum (x / 2 ^ b) (y / 2 ^ b)

pub bit_sums : (p n b : ℕ) (f : ℕ → ℕ) → bit b (sum (numbers p) n f) ≡ sum (numbers p) n (λ i. bit b (f i))
unfolding sum
bit_sums p zero b f = bit_zero b
bit_sums p (suc n) b f = bit_sum b (sum (numbers p) n f) (f n) ∙ ap (λ (x : ℕ). x ⊕ bit b (f n)) (bit_sums p n b f)

-- a bit as a factor
bit_times : (b c x a : ℕ) → bit b (bit c x * a) ≡ bit c x * bit b a
bit_times b c x a =
    at_bit (λ d. bit b (d * a) ≡ d * bit b a) (rw (zero-mul a, zero-mul (bit b a)) (bit_zero b)) (rw (one-mul a, one-mul (bit b a)) refl) c x

-- ---- a number and its bits

low_ones : (k x : ℕ) → sum Naturals k (λ j. bit j x) ≡ ones (x % 2 ^ k)
unfolding sum ones ones_in
low_ones zero x = sym (ap ones (mod-one x))
low_ones (suc k) x =
    ap (λ (s : ℕ). s + bit k x) (low_ones k x)
    ∙ add_comm (ones (x % 2 ^ k)) (bit k x)
    ∙ ap (λ (d : ℕ). d + ones (x % 2 ^ k)) (at_bit (λ d. d ≡ ones d) refl refl k x)
    ∙ sym (ones_cat k (bit k x) (x % 2 ^ k) (mod-lt x (pow_pos k)))
    ∙ ap ones (sym (low_more k x))

-- a number below 2^m has as many ones as bits that are 1
pub bits_ones : (m x : ℕ) → x < 2 ^ m → sum Naturals m (λ j. bit j x) ≡ ones x
bits_ones m x h = low_ones m x ∙ ap ones (mod-eq_of_lt h)

-- ---- products

module _ (p m : ℕ) (d : HasDegree p m) where
  -- the lowest k bits of the second factor
  low_product : (a x b k : ℕ) → bit b (product p a (x % 2 ^ k)) ≡ sum (numbers p) k (λ j. bit j x * bit b (product p a (2 ^ j)))
  unfolding sum
  low_product a x b zero = ap (bit b) (ap (product p a) (mod-one x) ∙ times_zero_r p a) ∙ bit_zero b
  low_product a x b (suc k) =
      ap (bit b) (times_low_more p m d a x k)
      ∙ bit_sum b (product p a (x % 2 ^ k)) (bit k x * product p a (2 ^ k))
      ∙ ap₂ ◌⊕◌ (low_product a x b k) (bit_times b k x (product p a (2 ^ k)))

  -- bit b of a product, by the bits of the second factor
  pub bit_product : (a x b : ℕ) → x < 2 ^ m → bit b (product p a x) ≡ sum (numbers p) m (λ k. bit k x * bit b (product p a (2 ^ k)))
  bit_product a x b h = ap (λ (y : ℕ). bit b (product p a y)) (sym (mod-eq_of_lt h)) ∙ low_product a x b m
