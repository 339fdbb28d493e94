-- Laws of the sum, the exclusive or. Assumes nothing.
use mathlib.Core.Path.{◌≡◌, refl, sym, ap, ap₂, ◌∙◌, subst, subst⁻¹}
use mathlib.Core.Logic.{◌⊎◌, inl, inr, ⊎_elim}
use Prim.Native.Nat.{ℕ, zero, suc, ◌+◌, ◌*◌, ◌/◌, ◌%◌, ◌^◌, ◌≤◌, ◌<◌}
use native.Mathlib.Nat.{add-zero, pow-suc, div-eq_of_lt-le, div-lt_iff_lt-mul, mul-div_cancel, mul-mod_left, mod-lt, zero-lt-suc, zero-mul, one-mul, lt_of_not-le, not-le_of_lt}
use native.Mathlib.Decide.{dec_le}
use native.Mathlib.Omega.{arith}
use lib.Arith.{bin_ind, digits_mod}
use lib.Pow.{pow_pos}
use lib.Bits.{bit_and, and_mask, differ, xor_step, xor_zero_l, xor_zero_r, xor_comm, xor_self, xor_lt, xor_shr, xor_shifted}
use Rattle.field.specs.Polynomial.{◌⊕◌}

-- ---- digits

-- a binary digit is 0 or 1
pub digit : (n : ℕ) → (n % 2 ≡ 0) ⊎ (n % 2 ≡ 1)
digit n = cases (n % 2) (mod-lt n (zero-lt-suc 1))
  where
    cases : (d : ℕ) → d < 2 → (d ≡ 0) ⊎ (d ≡ 1)
    cases zero h = inl refl
    cases (suc zero) h = inr refl
    cases (suc (suc d)) h = let z : ⊥ = omega arith in absurd z

-- what holds at the digits 0 and 1 holds at a number's lowest digit
pub at_digit_holds : (P : ℕ → Type 0) → P 0 → P 1 → (n : ℕ) → P (n % 2)
at_digit_holds P p0 p1 n = ⊎_elim (λ (e : n % 2 ≡ 0). subst P (sym e) p0) (λ (e : n % 2 ≡ 1). subst P (sym e) p1) (digit n)

differ_assoc : (a b c : ℕ) → differ (differ (a % 2) (b % 2)) (c % 2) ≡ differ (a % 2) (differ (b % 2) (c % 2))
differ_assoc a b c =
    at_digit_holds (λ x. differ (differ x (b % 2)) (c % 2) ≡ differ x (differ (b % 2) (c % 2))) refl
    (at_digit_holds (λ y. differ (differ 1 y) (c % 2) ≡ differ 1 (differ y (c % 2)))
    refl
    (at_digit_holds (λ z. differ (differ 1 1) z ≡ differ 1 (differ 1 z)) refl refl c)
    b)
    a

differ_lt : (a b : ℕ) → differ (a % 2) (b % 2) < 2
differ_lt a b =
    at_digit_holds (λ x. differ x (b % 2) < 2) (mod-lt b (zero-lt-suc 1)) (at_digit_holds (λ y. differ 1 y < 2) (omega arith) (omega arith) b) a

-- ---- the sum

pub sum_zero_l : (a : ℕ) → 0 ⊕ a ≡ a
unfolding ◌⊕◌
sum_zero_l a = xor_zero_l a

pub sum_zero_r : (a : ℕ) → a ⊕ 0 ≡ a
unfolding ◌⊕◌
sum_zero_r a = xor_zero_r a

pub sum_comm : (a b : ℕ) → a ⊕ b ≡ b ⊕ a
unfolding ◌⊕◌
sum_comm a b = xor_comm a b

pub sum_self : (a : ℕ) → a ⊕ a ≡ 0
unfolding ◌⊕◌
sum_self a = xor_self a

pub sum_step : (a b : ℕ) → a ⊕ b ≡ (a / 2 ⊕ b / 2) * 2 + differ (a % 2) (b % 2)
unfolding ◌⊕◌
sum_step a b = xor_step a b

pub sum_shr : (a b k : ℕ) → (a ⊕ b) / 2 ^ k ≡ a / 2 ^ k ⊕ b / 2 ^ k
unfolding ◌⊕◌
sum_shr a b k = xor_shr a b k

pub sum_half : (a b : ℕ) → (a ⊕ b) / 2 ≡ a / 2 ⊕ b / 2
sum_half a b = sum_shr a b 1

pub sum_digit : (a b : ℕ) → (a ⊕ b) % 2 ≡ differ (a % 2) (b % 2)
sum_digit a b = ap (λ (x : ℕ). x % 2) (sum_step a b) ∙ digits_mod (a / 2 ⊕ b / 2) (differ_lt a b)

-- sums stay below a power of 2
pub sum_lt : (k a b : ℕ) → a < 2 ^ k → b < 2 ^ k → a ⊕ b < 2 ^ k
unfolding ◌⊕◌
sum_lt k a b ha hb = xor_lt k a b ha hb

-- doubling is linear
pub sum_double : (a b : ℕ) → (a ⊕ b) * 2 ≡ a * 2 ⊕ b * 2
sum_double a b =
    sym
    (sum_step (a * 2) (b * 2)
    ∙ ap₂ (λ (x y : ℕ). x * 2 + y) (ap₂ ◌⊕◌ (mul-div_cancel a (zero-lt-suc 1)) (mul-div_cancel b (zero-lt-suc 1)))
    (ap₂ differ (mul-mod_left a 2) (mul-mod_left b 2))
    ∙ add-zero ((a ⊕ b) * 2))

-- a digit in the empty lowest place
pub sum_low : (a d : ℕ) → d < 2 → a * 2 ⊕ d ≡ a * 2 + d
unfolding ◌⊕◌
sum_low a d h = xor_shifted a 1 d h

pub sum_assoc : (a b c : ℕ) → a ⊕ b ⊕ c ≡ a ⊕ (b ⊕ c)
sum_assoc =
    bin_ind (λ (a : ℕ). (b c : ℕ) → a ⊕ b ⊕ c ≡ a ⊕ (b ⊕ c)) (λ b c. rw (sum_zero_l b, sum_zero_l (b ⊕ c)) refl)
    (λ a ih b c. sum_step (a ⊕ b) c ∙ ap₂ (λ (x y : ℕ). x * 2 + y) (ap (λ (x : ℕ). x ⊕ c / 2) (sum_half a b) ∙ ih (b / 2) (c / 2) ∙ ap (λ (x : ℕ). a / 2 ⊕ x) (sym (sum_half b c))) (ap (λ (x : ℕ). differ x (c % 2)) (sum_digit a b) ∙ differ_assoc a b c ∙ ap (λ (x : ℕ). differ (a % 2) x) (sym (sum_digit b c))) ∙ sym (sum_step a (b ⊕ c)))

pub sum_left_comm : (a b c : ℕ) → a ⊕ (b ⊕ c) ≡ b ⊕ (a ⊕ c)
sum_left_comm a b c = sym (sum_assoc a b c) ∙ ap (λ (x : ℕ). x ⊕ c) (sum_comm a b) ∙ sum_assoc b a c

pub sum_cancel : (a b : ℕ) → a ⊕ (a ⊕ b) ≡ b
sum_cancel a b = sym (sum_assoc a a b) ∙ ap (λ (x : ℕ). x ⊕ b) (sum_self a) ∙ sum_zero_l b

-- an equation between sums: both sides are brought to one order, and what stands twice goes
pub ruleset sums = (sum_assoc, sum_comm, sum_left_comm, sum_self, sum_cancel, sum_zero_l, sum_zero_r)

-- the sum of two numbers is 0 only if they are equal
pub sum_equal : (a b : ℕ) → a ⊕ b ≡ 0 → a ≡ b
sum_equal a b e = sym (sum_zero_r a) ∙ ap (λ (x : ℕ). a ⊕ x) (sym e) ∙ sum_cancel a b

-- an equation with a summand moved to the other side
pub sum_move : (a b c : ℕ) → a ≡ b ⊕ c → a ⊕ c ≡ b
sum_move a b c e = rw e (simp sums)

-- a number with leading bit k keeps it when a smaller number is added
pub sum_top : (k a b : ℕ) → 2 ^ k ≤ a → b < 2 ^ k → 2 ^ k ≤ a ⊕ b
sum_top k a b ha hb = ⊎_elim (λ (h : 2 ^ k ≤ a ⊕ b). h) (λ (h : a ⊕ b < 2 ^ k). absurd (small h)) (split (2 ^ k) (a ⊕ b))
  where
    split : (n m : ℕ) → (n ≤ m) ⊎ (m < n)
    split n m = elim (dec_le n m) [ yes h ↦ inl h | no h ↦ inr (lt_of_not-le h) ]

    back : (a ⊕ b) ⊕ b ≡ a
    back = simp sums

    small : a ⊕ b < 2 ^ k → ⊥
    small h = not-le_of_lt (subst (λ (x : ℕ). x < 2 ^ k) back (sum_lt k (a ⊕ b) b h hb)) ha

-- the leading bit alone
leading : (k a : ℕ) → 2 ^ k ≤ a → a < 2 ^ suc k → a / 2 ^ k ≡ 1
leading k a h h' = div-eq_of_lt-le (2 ^ k) {m = a} (omega arith) (omega (arith, pow-suc 2 k))

-- two numbers with the same leading bit: it goes from their sum
pub sum_tops : (k a b : ℕ) → 2 ^ k ≤ a → a < 2 ^ suc k → 2 ^ k ≤ b → b < 2 ^ suc k → a ⊕ b < 2 ^ k
sum_tops k a b ha ha' hb hb' =
    subst (λ (x : ℕ). a ⊕ b < x) (one-mul (2 ^ k)) ((div-lt_iff_lt-mul (pow_pos k)).0 (subst (λ (x : ℕ). x < 1) (sym none) (zero-lt-suc 0)))
  where
    none : (a ⊕ b) / 2 ^ k ≡ 0
    none = sum_shr a b k ∙ ap₂ ◌⊕◌ (leading k a ha ha') (leading k b hb hb') ∙ sum_self 1

-- what the lowest bit of y selects
pub selected : (y x k : ℕ) → x < 2 ^ k → bit_and y 1 * x < 2 ^ k
selected y x k h =
    subst⁻¹ (λ (n : ℕ). n * x < 2 ^ k) (and_mask y 1)
    (at_digit_holds (λ d. d * x < 2 ^ k) (subst⁻¹ (λ (n : ℕ). n < 2 ^ k) (zero-mul x) (pow_pos k)) (subst⁻¹ (λ (n : ℕ). n < 2 ^ k) (one-mul x) h) y)
