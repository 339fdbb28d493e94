-- The degree is the place of the highest set bit, and degrees add under the product. Assumes nothing.
use mathlib.Core.Path.{◌≡◌, refl, sym, ap, ◌∙◌, subst, subst⁻¹}
use mathlib.Core.Logic.{⊎_elim}
use Prim.Native.Nat.{ℕ, zero, suc, ◌+◌, ◌-◌, ◌*◌, ◌/◌, ◌%◌, ◌^◌, ◌≤◌, ◌<◌}
use native.Mathlib.Nat.{pow-suc, le_antisymm, le_of_suc-le-suc, lt_of_le_of_lt, lt_of_lt_of_le, lt_of_not-le, not-le_of_lt, zero-add, suc-add, zero-mul, one-mul, le_trans, eq-zero-or-pos}
use native.Mathlib.Decide.{dec_le}
use native.Mathlib.Omega.{arith}
use lib.Arith.{bin_ind}
use lib.Pow.{pow_pos, pow_mono}
use lib.Bits.{bit_or, and_mask, or_add_and}
use lib.Count.{count_leading_zeros, leading_top}
use Rattle.field.specs.Polynomial.{◌⊕◌, ◌⊗◌, digits_within, over_digits, degree, Modulus}
use Rattle.field.proofs.Sum.{at_digit_holds, sum_comm, sum_lt, sum_top}
use Rattle.field.proofs.Ring.{digits_suc, product_step, product_one_l}

-- p has degree m: its highest set bit is bit m
pub record HasDegree (p m : ℕ) : Type 0 where
  pub low : 2 ^ m ≤ p
  pub high : p < 2 ^ suc m

-- ---- `degree` is the degree

-- how many digits a number has
size : ℕ → ℕ
size a = over_digits (λ d rest. suc rest) a

size_suc : (a : ℕ) → size (suc a) ≡ suc (size (suc a / 2))
unfolding size
size_suc a = digits_suc (λ d rest. suc rest) a

size_bounds : (a : ℕ) → (a < 2 ^ size a) × (0 < a → 2 ^ size a ≤ a * 2)
unfolding size
size_bounds = bin_ind (λ (a : ℕ). (a < 2 ^ size a) × (0 < a → 2 ^ size a ≤ a * 2)) nothing more
  where
    nothing : (0 < 2 ^ size 0) × (0 < 0 → 2 ^ size 0 ≤ 0 * 2)
    nothing = (pow_pos (size 0), λ h. let z : ⊥ = omega arith in absurd z)

    empty : (a : ℕ) → a / 2 ≡ 0 → size (a / 2) ≡ 0
    empty a e = ap size e ∙ empty_size
      where
        empty_size : size 0 ≡ 0
        empty_size = unfold over_digits digits_within in refl

    low : (a : ℕ) → (0 < suc a / 2 → 2 ^ size (suc a / 2) ≤ suc a / 2 * 2) → 2 ^ size (suc a / 2) ≤ suc a
    low a ih =
        ⊎_elim (λ (e : suc a / 2 ≡ 0). subst (λ (n : ℕ). 2 ^ n ≤ suc a) (sym (empty (suc a) e)) (omega arith))
        (λ (h : 0 < suc a / 2). let q : 2 ^ size (suc a / 2) ≤ suc a / 2 * 2 = ih h in omega arith)
        (eq-zero-or-pos (suc a / 2))

    more : (a : ℕ) → (a / 2 < 2 ^ size (a / 2)) × (0 < a / 2 → 2 ^ size (a / 2) ≤ a / 2 * 2) → (a < 2 ^ size a) × (0 < a → 2 ^ size a ≤ a * 2)
    more zero ih = nothing
    more (suc a) ih =
        subst (λ (n : ℕ). (suc a < 2 ^ n) × (0 < suc a → 2 ^ n ≤ suc a * 2)) (sym (size_suc a))
        (let high : suc a / 2 < 2 ^ size (suc a / 2) = ih.0 in omega (arith, pow-suc 2 (size (suc a / 2))), λ h. omega (arith, low a ih.1, pow-suc 2 (size (suc a / 2))))

pub has_degree : (p : ℕ) → 0 < p → HasDegree p (degree p)
unfolding degree size
has_degree p h = from (size p) (size_bounds p).0 ((size_bounds p).1 h)
  where
    from : (n : ℕ) → p < 2 ^ n → 2 ^ n ≤ p * 2 → HasDegree p (n - 1)
    from zero l u = let z : ⊥ = omega arith in absurd z
    from (suc n) l u =
        let e : suc n - 1 ≡ n = omega arith in
        subst (λ (k : ℕ). HasDegree p k) (sym e) (record { low = omega (arith, pow-suc 2 n); high = l })

-- a smaller power of 2 has a smaller exponent
pub pow_cancel : (i j : ℕ) → 2 ^ i < 2 ^ j → i < j
pow_cancel i j h = elim (dec_le j i) [ yes k ↦ absurd (not-le_of_lt h (pow_mono k)) | no k ↦ lt_of_not-le k ]

-- a number has one degree
pub degree_unique : (p m n : ℕ) → HasDegree p m → HasDegree p n → m ≡ n
degree_unique p m n d e = le_antisymm (at_most m n d e) (at_most n m e d)
  where
    at_most : (i j : ℕ) → HasDegree p i → HasDegree p j → i ≤ j
    at_most i j d e = le_of_suc-le-suc (pow_cancel i (suc j) (lt_of_le_of_lt d.low e.high))

pub degree_is : (p m : ℕ) → HasDegree p m → degree p ≡ m
degree_is p m d = degree_unique p (degree p) m (has_degree p (lt_of_lt_of_le (pow_pos m) d.low)) d

-- ---- degrees add

half_degree : (a i : ℕ) → HasDegree a (suc i) → HasDegree (a / 2) i
half_degree a i d = record { low = omega (arith, pow-suc 2 i); high = omega (arith, pow-suc 2 (suc i)) }

double_degree : (a i : ℕ) → HasDegree a i → HasDegree (a * 2) (suc i)
double_degree a i d = record { low = omega (arith, pow-suc 2 i); high = omega (arith, pow-suc 2 (suc i)) }

-- adding a polynomial of smaller degree keeps the degree
pub sum_degree : (a b i : ℕ) → HasDegree a i → b < 2 ^ i → HasDegree (a ⊕ b) i
sum_degree a b i d h =
    record { low = sum_top i a b d.low h; high = sum_lt (suc i) a b d.high (omega (arith, pow-suc 2 i)) }

pub product_degree : (i j a b : ℕ) → HasDegree a i → HasDegree b j → HasDegree (a ⊗ b) (i + j)
product_degree zero j a b d e =
    let one : a ≡ 1 = omega arith in
    subst⁻¹ (λ (n : ℕ). HasDegree (a ⊗ b) n) (zero-add j) (subst⁻¹ (λ (n : ℕ). HasDegree n j) (ap (λ (x : ℕ). x ⊗ b) one ∙ product_one_l b) e)
product_degree (suc i) j a b d e =
    subst (λ (n : ℕ). HasDegree (a ⊗ b) n) (sym (suc-add i j))
    (subst (λ (n : ℕ). HasDegree n (suc (i + j))) (sum_comm ((a / 2 ⊗ b) * 2) (a % 2 * b) ∙ sym (product_step a b))
    (sum_degree ((a / 2 ⊗ b) * 2) (a % 2 * b) (suc (i + j)) (double_degree (a / 2 ⊗ b) (i + j) (product_degree i j (a / 2) b (half_degree a i d) e)) small))
  where
    small : a % 2 * b < 2 ^ suc (i + j)
    small =
        lt_of_le_of_lt (at_digit_holds (λ x. x * b ≤ b) (omega (arith, zero-mul b)) (omega (arith, one-mul b)) a)
        (lt_of_lt_of_le e.high (pow_mono (omega arith)))

-- a product of nonzero polynomials has at least the degree of a factor
pub product_le : (j a b : ℕ) → 0 < a → HasDegree b j → 2 ^ j ≤ a ⊗ b
product_le j a b h e =
    le_trans (pow_mono (omega arith)) (product_degree (degree a) j a b (has_degree a h) e).low

-- ---- the degree of a number of k + 1 bits

pub degree_small : (p : ℕ) → p < 2 → degree p ≡ 0
unfolding degree over_digits digits_within
degree_small zero h = refl
degree_small (suc zero) h = refl
degree_small (suc (suc p)) h = let z : ⊥ = omega arith in absurd z

-- the lowest bit set: an even number gets one more
or_one : (p : ℕ) → bit_or p 1 + p % 2 ≡ p + 1
or_one p = ap (λ (x : ℕ). bit_or p 1 + x) (sym (and_mask p 1)) ∙ or_add_and p 1

-- which keeps the degree
degree_or_one : (p : ℕ) → degree (bit_or p 1) ≡ degree p
degree_or_one zero = degree_small (bit_or 0 1) (omega (arith, or_one 0)) ∙ sym (degree_small 0 (omega arith))
degree_or_one (suc p) = degree_is (bit_or (suc p) 1) (degree (suc p)) (kept (degree (suc p)) (has_degree (suc p) (omega arith)))
  where
    kept : (m : ℕ) → HasDegree (suc p) m → HasDegree (bit_or (suc p) 1) m
    kept m d = record { low = omega (arith, or_one (suc p)); high = omega (arith, or_one (suc p), pow-suc 2 m) }

-- and leaves no number without a set bit: above the highest stand the leading zeros
pub degree_leading : (k p : ℕ) → p < 2 ^ suc k → count_leading_zeros (suc k) (bit_or p 1) + degree p ≡ k
degree_leading k p h =
    let (j, is, low, high) = leading_top (suc k) (bit_or p 1) (omega (arith, or_one p)) (omega (arith, or_one p, pow-suc 2 k)) in
    let same : degree p ≡ j = sym (degree_or_one p) ∙ degree_is (bit_or p 1) j (record { low = low; high = high }) in
    omega arith

pub degree_lt : (p k : ℕ) → p < 2 ^ suc k → degree p ≤ k
degree_lt zero k h = omega (arith, degree_small 0 (omega arith))
degree_lt (suc p) k h =
    le_of_suc-le-suc (pow_cancel (degree (suc p)) (suc k) (lt_of_le_of_lt (has_degree (suc p) (omega arith)).low h))

pub degree_ge : (p k : ℕ) → 2 ^ k ≤ p → k ≤ degree p
degree_ge p k h =
    le_of_suc-le-suc
    (pow_cancel k (suc (degree p)) (lt_of_le_of_lt h (has_degree p (lt_of_lt_of_le (pow_pos k) h)).high))

-- the degree of a modulus is from 2 to 8
pub record Polynomial (p : ℕ) : Type 0 where
  pub has : HasDegree p (degree p)
  pub least : 2 ≤ degree p
  pub most : degree p ≤ 8

pub polynomial : (p : ℕ) → Modulus p → Polynomial p
polynomial p h =
    record { has = has_degree p (omega arith); least = degree_ge p 2 h.low; most = degree_lt p 8 (omega arith) }
