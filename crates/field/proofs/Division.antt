-- Division with remainder: every polynomial is a multiple of p plus its remainder, the remainder is below p in degree, and it is
-- the only such number. Hence the remainder is linear and kills multiples. Assumes nothing.
use mathlib.Core.Path.{◌≡◌, refl, sym, ap, ap₂, ◌∙◌, subst}
use mathlib.Core.Logic.{◌⊎◌, inl, inr}
use Prim.Native.Nat.{ℕ, zero, suc, ◌+◌, ◌*◌, ◌/◌, ◌%◌, ◌^◌, ◌≤◌, ◌<◌}
use native.Mathlib.Nat.{pow-suc, mod-lt, zero-lt-suc, zero-min, min-eq_left, min-eq_right, le_of_lt, lt_of_lt_of_le, lt_of_not-le, not-le_of_lt, le_trans}
use native.Mathlib.Decide.{dec_le}
use lib.Arith.{bin_ind, digits_lt}
use lib.Pow.{pow_pos}
use Rattle.field.specs.Polynomial.{◌⊕◌, ◌⊗◌, over_digits, digits_within, reduce, rem}
use Rattle.field.proofs.Sum.{sum_zero_l, sum_zero_r, sum_comm, sum_assoc, sum_self, sum_double, sum_low, sum_lt, sum_top, sum_tops, sum_equal, sum_move, sums}
use Rattle.field.proofs.Ring.{digits_step, digits_sum, product_zero_l, product_one_l, product_sum_l, product_double_l, products}
use Rattle.field.proofs.Degrees.{HasDegree, product_le}

-- ---- one step

reduce_zero : (p : ℕ) → reduce p 0 ≡ 0
unfolding reduce
reduce_zero p = zero-min (0 ⊕ p)

-- a step subtracts p once or not at all
reduce_cases : (p x : ℕ) → (reduce p x ≡ x) ⊎ (reduce p x ≡ x ⊕ p)
unfolding reduce
reduce_cases p x = elim (dec_le x (x ⊕ p)) [ yes h ↦ inl (min-eq_left h) | no h ↦ inr (min-eq_right (le_of_lt (lt_of_not-le h))) ]

-- below the degree nothing is subtracted
pub reduce_small : (p m x : ℕ) → HasDegree p m → x < 2 ^ m → reduce p x ≡ x
unfolding reduce
reduce_small p m x d h =
    min-eq_left (le_trans (le_of_lt h) (subst (λ (y : ℕ). 2 ^ m ≤ y) (sum_comm p x) (sum_top m p x d.low h)))

pub reduce_lt : (p m x : ℕ) → HasDegree p m → x < 2 ^ suc m → reduce p x < 2 ^ m
unfolding reduce
reduce_lt p m x d h =
    elim (dec_le (2 ^ m) x) [
      | yes l ↦
          (let s : x ⊕ p < 2 ^ m = sum_tops m x p l h d.low d.high in
          subst (λ (y : ℕ). y < 2 ^ m) (sym (min-eq_right (le_of_lt (lt_of_lt_of_le s l)))) s)
      | no l ↦ (let s : x < 2 ^ m = lt_of_not-le l in subst (λ (y : ℕ). y < 2 ^ m) (sym (reduce_small p m x d s)) s)
    ]

-- ---- the remainder

pub rem_zero : (p : ℕ) → rem p 0 ≡ 0
unfolding rem over_digits digits_within
rem_zero p = refl

pub rem_step : (p a : ℕ) → rem p a ≡ reduce p (rem p (a / 2) * 2 + a % 2)
unfolding rem
rem_step p a = digits_step (λ d rest. reduce p (rest * 2 + d)) (reduce_zero p) a

-- the remainder is below 2^m
pub rem_lt : (p m a : ℕ) → HasDegree p m → rem p a < 2 ^ m
rem_lt p m a d =
    bin_ind (λ (a : ℕ). rem p a < 2 ^ m) (subst (λ (x : ℕ). x < 2 ^ m) (sym (rem_zero p)) (pow_pos m))
    (λ a ih. subst (λ (x : ℕ). x < 2 ^ m) (sym (rem_step p a))
    (reduce_lt p m (rem p (a / 2) * 2 + a % 2) d
    (subst (λ (x : ℕ). rem p (a / 2) * 2 + a % 2 < x) (sym (pow-suc 2 m)) (digits_lt ih (mod-lt a (zero-lt-suc 1))))))
    a

-- division with remainder: a number and a multiple of p differ by the remainder
pub division : (p a : ℕ) → (q : ℕ) × (a ≡ q ⊗ p ⊕ rem p a)
division p =
    bin_ind (λ (a : ℕ). (q : ℕ) × (a ≡ q ⊗ p ⊕ rem p a)) (0, rw (product_zero_l p, rem_zero p) (sym (sum_self 0)))
    (λ a ih. again a ih.0 ih.1 (reduce_cases p (rem p (a / 2) * 2 + a % 2)))
  where
    -- the digits brought down: twice the quotient, and the next digit under the remainder
    down : (a q : ℕ) → a / 2 ≡ q ⊗ p ⊕ rem p (a / 2) → a ≡ (q * 2) ⊗ p ⊕ (rem p (a / 2) * 2 + a % 2)
    down a q e =
        sym (digits_sum a) ∙ ap (λ (x : ℕ). x * 2 ⊕ a % 2) e ∙ ap (λ (x : ℕ). x ⊕ a % 2) (sum_double (q ⊗ p) (rem p (a / 2)))
        ∙ sum_assoc ((q ⊗ p) * 2) (rem p (a / 2) * 2) (a % 2)
        ∙ ap₂ ◌⊕◌ (sym (product_double_l q p)) (sum_low (rem p (a / 2)) (a % 2) (mod-lt a (zero-lt-suc 1)))

    again : (a q : ℕ) → a / 2 ≡ q ⊗ p ⊕ rem p (a / 2)
        → (reduce p (rem p (a / 2) * 2 + a % 2) ≡ rem p (a / 2) * 2 + a % 2)
        ⊎ (reduce p (rem p (a / 2) * 2 + a % 2) ≡ (rem p (a / 2) * 2 + a % 2) ⊕ p)
        → (q : ℕ) × (a ≡ q ⊗ p ⊕ rem p a)
    again a q e (inl r) = (q * 2, down a q e ∙ ap (λ (x : ℕ). (q * 2) ⊗ p ⊕ x) (sym (rem_step p a ∙ r)))
    again a q e (inr r) = (
      q * 2 ⊕ 1,
      down a q e
          ∙ sym (ap (λ (x : ℕ). (q * 2 ⊕ 1) ⊗ p ⊕ x) (rem_step p a ∙ r) ∙ rw (product_sum_l (q * 2) 1 p, product_one_l p) (simp sums)),
    )

-- the remainder is the only number below 2^m that differs from a by a multiple of p
pub rem_unique : (p m a q r : ℕ) → HasDegree p m → r < 2 ^ m → a ≡ q ⊗ p ⊕ r → rem p a ≡ r
rem_unique p m a q r d h e = sum_equal (rem p a) r (vanishes (q ⊕ (division p a).0) refl)
  where
    multiple : (q ⊕ (division p a).0) ⊗ p ≡ rem p a ⊕ r
    multiple = rw (product_sum_l q (division p a).0 p) (from (q ⊗ p) ((division p a).0 ⊗ p) a (rem p a) r e (division p a).1)
      where
        from : (x y a s r : ℕ) → a ≡ x ⊕ r → a ≡ y ⊕ s → x ⊕ y ≡ s ⊕ r
        from x y a s r e f =
            ap₂ ◌⊕◌ (sym (sum_move a x r e)) (sym (sum_move a y s f)) ∙ simp sums

    vanishes : (k : ℕ) → q ⊕ (division p a).0 ≡ k → rem p a ⊕ r ≡ 0
    vanishes zero f = sym multiple ∙ ap (λ (x : ℕ). x ⊗ p) f ∙ product_zero_l p
    vanishes (suc k) f =
        absurd (not-le_of_lt (sum_lt m (rem p a) r (rem_lt p m a d) h)
        (subst (λ (x : ℕ). 2 ^ m ≤ x) (ap (λ (x : ℕ). x ⊗ p) (sym f) ∙ multiple) (product_le m (suc k) p (zero-lt-suc k) d)))

-- a number below 2^m is its own remainder
pub rem_small : (p m a : ℕ) → HasDegree p m → a < 2 ^ m → rem p a ≡ a
rem_small p m a d h = rem_unique p m a 0 a d h (sym (ap (λ (x : ℕ). x ⊕ a) (product_zero_l p) ∙ sum_zero_l a))

-- the remainder is linear
pub rem_sum : (p m a b : ℕ) → HasDegree p m → rem p (a ⊕ b) ≡ rem p a ⊕ rem p b
rem_sum p m a b d =
    rem_unique p m (a ⊕ b) ((division p a).0 ⊕ (division p b).0) (rem p a ⊕ rem p b) d
    (sum_lt m (rem p a) (rem p b) (rem_lt p m a d) (rem_lt p m b d))
    (ap₂ ◌⊕◌ (division p a).1 (division p b).1 ∙ rw (product_sum_l (division p a).0 (division p b).0 p) (simp sums))

-- multiples of p have remainder 0
pub rem_multiple : (p m q : ℕ) → HasDegree p m → rem p (q ⊗ p) ≡ 0
rem_multiple p m q d = rem_unique p m (q ⊗ p) q 0 d (pow_pos m) (sym (sum_zero_r (q ⊗ p)))

-- a factor may be replaced by its remainder
pub rem_product : (p m a b : ℕ) → HasDegree p m → rem p (rem p a ⊗ b) ≡ rem p (a ⊗ b)
rem_product p m a b d =
    sym
    (ap (λ (x : ℕ). rem p (x ⊗ b)) (division p a).1
    ∙ ap (rem p) (product_sum_l ((division p a).0 ⊗ p) (rem p a) b)
    ∙ rem_sum p m ((division p a).0 ⊗ p ⊗ b) (rem p a ⊗ b) d
    ∙ ap (λ (x : ℕ). x ⊕ rem p (rem p a ⊗ b)) (ap (rem p) apart ∙ rem_multiple p m ((division p a).0 ⊗ b) d)
    ∙ sum_zero_l (rem p (rem p a ⊗ b)))
  where
    apart : (division p a).0 ⊗ p ⊗ b ≡ (division p a).0 ⊗ b ⊗ p
    apart = simp products
