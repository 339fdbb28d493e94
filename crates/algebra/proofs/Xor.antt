-- Exclusive or, beyond the laws of lib.Bits: it is associative, and so adding one number is its own inverse.
-- Assumes nothing.
use mathlib.Core.Path.{◌≡◌, refl, sym, ap, ap₂, ◌∙◌}
use mathlib.Core.Logic.{◌≢◌}
use Prim.Native.Nat.{ℕ, zero, suc, ◌+◌, ◌*◌, ◌/◌, ◌%◌, ◌^◌, ◌<◌}
use native.Mathlib.Nat.{mod-lt, zero-lt-suc, zero-mul, one-mul, zero-add}
use native.Mathlib.Omega.{arith}
use lib.Arith.{bin_ind}
use lib.Bits.{bit_xor, differ, xor_step, xor_comm, xor_self, xor_zero_r, xor_lt, xor_shr, xor_block}
use Rattle.algebra.specs.Places.{Inverse}
use Rattle.algebra.proofs.Sums.{own}

differ_assoc : (x y z : ℕ) → x < 2 → y < 2 → z < 2 → differ (differ x y) z ≡ differ x (differ y z)
differ_assoc zero y z a b c = refl
differ_assoc (suc zero) zero z a b c = refl
differ_assoc (suc zero) (suc zero) zero a b c = refl
differ_assoc (suc zero) (suc zero) (suc zero) a b c = refl
differ_assoc (suc zero) (suc zero) (suc (suc z)) a b c = absurd (omega arith)
differ_assoc (suc zero) (suc (suc y)) z a b c = absurd (omega arith)
differ_assoc (suc (suc x)) y z a b c = absurd (omega arith)

differ_lt : (x y : ℕ) → x < 2 → y < 2 → differ x y < 2
differ_lt zero y a b = b
differ_lt (suc x) zero a b = a
differ_lt (suc x) (suc y) a b = differ_lt x y (omega arith) (omega arith)

bit_lt : (n : ℕ) → n % 2 < 2
bit_lt n = mod-lt n (zero-lt-suc 1)

-- the last digit
xor_bit : (a b : ℕ) → bit_xor a b % 2 ≡ differ (a % 2) (b % 2)
xor_bit a b =
    let d : differ (a % 2) (b % 2) < 2 = differ_lt (a % 2) (b % 2) (bit_lt a) (bit_lt b) in
    let s : bit_xor a b ≡ bit_xor (a / 2) (b / 2) * 2 + differ (a % 2) (b % 2) = xor_step a b in
    omega arith

xor_assoc_step : (n : ℕ) → ((b c : ℕ) → bit_xor (bit_xor (n / 2) b) c ≡ bit_xor (n / 2) (bit_xor b c)) → (b c : ℕ)
    → bit_xor (bit_xor n b) c ≡ bit_xor n (bit_xor b c)
xor_assoc_step n ih b c =
    xor_step (bit_xor n b) c
    ∙ ap₂ (λ (x y : ℕ). x * 2 + y)
    (ap (λ (x : ℕ). bit_xor x (c / 2)) (xor_shr n b 1) ∙ ih (b / 2) (c / 2) ∙ ap (bit_xor (n / 2)) (sym (xor_shr b c 1)))
    (ap (λ (x : ℕ). differ x (c % 2)) (xor_bit n b) ∙ differ_assoc (n % 2) (b % 2) (c % 2) (bit_lt n) (bit_lt b) (bit_lt c) ∙ ap (differ (n % 2)) (sym (xor_bit b c)))
    ∙ sym (xor_step n (bit_xor b c))

-- exclusive or is associative
pub xor_assoc : (a b c : ℕ) → bit_xor (bit_xor a b) c ≡ bit_xor a (bit_xor b c)
xor_assoc a = bin_ind (λ (n : ℕ). (b c : ℕ) → bit_xor (bit_xor n b) c ≡ bit_xor n (bit_xor b c)) (λ b c. refl) xor_assoc_step a

-- added twice, b is gone
pub xor_xor : (a b : ℕ) → bit_xor (bit_xor a b) b ≡ a
xor_xor a b = xor_assoc a b b ∙ ap (bit_xor a) (xor_self b) ∙ xor_zero_r a

-- added in both parts, c is gone
pub xor_between : (a c b : ℕ) → bit_xor (bit_xor a c) (bit_xor c b) ≡ bit_xor a b
xor_between a c b = sym (xor_assoc (bit_xor a c) c b) ∙ ap (λ (x : ℕ). bit_xor x b) (xor_xor a c)

-- numbers whose exclusive or is 0 are equal
pub xor_zero : (a b : ℕ) → bit_xor a b ≡ 0 → a ≡ b
xor_zero a b e = sym (xor_xor a b) ∙ ap (λ (x : ℕ). bit_xor x b) e

-- added on the left, a can be taken away again
pub xor_cancel : (a b c : ℕ) → bit_xor a b ≡ bit_xor a c → b ≡ c
xor_cancel a b c e = sym (xor_xor b a) ∙ ap (λ (x : ℕ). bit_xor x a) (xor_comm b a ∙ e ∙ xor_comm a c) ∙ xor_xor c a

-- four numbers, the second and the last exchanged
pub xor_exchange : (a b c d : ℕ) → bit_xor (bit_xor a b) (bit_xor c d) ≡ bit_xor (bit_xor a d) (bit_xor c b)
xor_exchange a b c d =
    xor_assoc a b (bit_xor c d) ∙ ap (bit_xor a) (xor_comm b (bit_xor c d) ∙ ap (λ (x : ℕ). bit_xor x b) (xor_comm c d) ∙ xor_assoc d c b) ∙ sym (xor_assoc a d (bit_xor c b))

-- adding t to the numbers below 2 ^ k is its own inverse
pub xor_own : (k t : ℕ) → t < 2 ^ k → Inverse (2 ^ k) (λ i. bit_xor i t) (λ i. bit_xor i t)
xor_own k t l = own (2 ^ k) (λ i. bit_xor i t) (λ i m. xor_lt k i t m l) (λ i m. xor_xor i t)

-- it moves every number, unless t is 0
pub xor_moves : (i t : ℕ) → t ≢ 0 → bit_xor i t ≢ i
xor_moves i t d e = d (sym (xor_xor t i) ∙ ap (λ (x : ℕ). bit_xor x i) (xor_comm t i ∙ e) ∙ xor_self i)

-- ---- the highest digit

module _ (k i j : ℕ) (l : i < 2 ^ k) (m : j < 2 ^ k) where
  -- in the second number alone
  pub xor_right : bit_xor i (2 ^ k + j) ≡ 2 ^ k + bit_xor i j
  xor_right = simp (zero-mul, one-mul, zero-add) at (xor_block k 0 1 i j l m)

  -- in the first number alone
  pub xor_left : bit_xor (2 ^ k + i) j ≡ 2 ^ k + bit_xor i j
  xor_left = simp (zero-mul, one-mul, zero-add) at (xor_block k 1 0 i j l m)

  -- in both numbers
  pub xor_both : bit_xor (2 ^ k + i) (2 ^ k + j) ≡ bit_xor i j
  xor_both = simp (zero-mul, one-mul, zero-add) at (xor_block k 1 1 i j l m)
