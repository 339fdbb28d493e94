-- The laws of the field product, for every polynomial p of degree m. Assumes nothing.
use mathlib.Core.Path.{◌≡◌, sym, ap, ap₂, ◌∙◌}
use Prim.Native.Nat.{ℕ, ◌+◌, ◌*◌, ◌/◌, ◌%◌, ◌^◌, ◌<◌}
use native.Mathlib.Nat.{zero-mul, one-mul, mul-div_cancel, mul-mod_left, add-zero, zero-lt-suc}
use Rattle.field.specs.Polynomial.{◌⊕◌, ◌⊗◌, reduce, rem, product}
use Rattle.field.proofs.Sum.{sum_comm, at_digit_holds}
use Rattle.field.proofs.Ring.{product_comm, product_assoc, product_sum_l, product_zero_l, product_one_l, product_one_r, product_step_r, product_double_l, product_double_r}
use Rattle.field.proofs.Degrees.{HasDegree}
use Rattle.field.proofs.Division.{rem_zero, rem_step, rem_lt, rem_small, rem_sum, rem_product}

-- the product is commutative, and 0 annihilates
pub times_comm : (p a b : ℕ) → product p a b ≡ product p b a
unfolding product
times_comm p a b = ap (rem p) (product_comm a b)

pub times_zero_l : (p a : ℕ) → product p 0 a ≡ 0
unfolding product
times_zero_l p a = ap (rem p) (product_zero_l a) ∙ rem_zero p

pub times_zero_r : (p a : ℕ) → product p a 0 ≡ 0
times_zero_r p a = times_comm p a 0 ∙ times_zero_l p a

twice : (a : ℕ) → a ⊗ 2 ≡ a * 2
twice a = product_double_r a 1 ∙ ap (λ (x : ℕ). x * 2) (product_one_r a)

module _ (p m : ℕ) (d : HasDegree p m) where
  -- the product stays below 2^m
  pub times_lt : (a b : ℕ) → product p a b < 2 ^ m
  unfolding product
  times_lt a b = rem_lt p m (a ⊗ b) d

  -- a factor may be replaced by its remainder
  pub times_rem_l : (a b : ℕ) → product p (rem p a) b ≡ product p a b
  unfolding product
  times_rem_l a b = rem_product p m a b d

  pub times_rem_r : (a b : ℕ) → product p a (rem p b) ≡ product p a b
  times_rem_r a b = times_comm p a (rem p b) ∙ times_rem_l b a ∙ times_comm p b a

  -- it is associative
  pub times_assoc : (a b c : ℕ) → product p (product p a b) c ≡ product p a (product p b c)
  unfolding product
  times_assoc a b c = times_rem_l (a ⊗ b) c ∙ ap (rem p) (product_assoc a b c) ∙ sym (times_rem_r a (b ⊗ c))

  -- it distributes over the sum
  pub times_sum_l : (a b c : ℕ) → product p (a ⊕ b) c ≡ product p a c ⊕ product p b c
  unfolding product
  times_sum_l a b c = ap (rem p) (product_sum_l a b c) ∙ rem_sum p m (a ⊗ c) (b ⊗ c) d

  pub times_sum_r : (a b c : ℕ) → product p a (b ⊕ c) ≡ product p a b ⊕ product p a c
  times_sum_r a b c = times_comm p a (b ⊕ c) ∙ times_sum_l b c a ∙ ap₂ ◌⊕◌ (times_comm p b a) (times_comm p c a)

  -- 1 is neutral
  pub times_one_l : (a : ℕ) → a < 2 ^ m → product p 1 a ≡ a
  unfolding product
  times_one_l a h = ap (rem p) (product_one_l a) ∙ rem_small p m a d h

  pub times_one_r : (a : ℕ) → a < 2 ^ m → product p a 1 ≡ a
  times_one_r a h = times_comm p a 1 ∙ times_one_l a h

  -- one shift-and-add step: the lowest digit of b selects a, and the rest of b multiplies a doubled
  pub times_step : (a b : ℕ) → a < 2 ^ m → product p a b ≡ b % 2 * a ⊕ product p (rem p (a * 2)) (b / 2)
  times_step a b h =
      open_step ∙ ap₂ ◌⊕◌ (at_digit_holds (λ x. rem p (x * a) ≡ x * a) zeroth oneth b) (sym (times_rem_l (a * 2) (b / 2)))
    where
      open_step : product p a b ≡ rem p (b % 2 * a) ⊕ product p (a * 2) (b / 2)
      open_step =
          unfold product in
          (ap (rem p) (product_step_r a b ∙ ap (λ (x : ℕ). b % 2 * a ⊕ x) (sym (product_double_l a (b / 2))))
          ∙ rem_sum p m (b % 2 * a) ((a * 2) ⊗ (b / 2)) d)

      zeroth : rem p (0 * a) ≡ 0 * a
      zeroth = rw (zero-mul a) (rem_zero p)

      oneth : rem p (1 * a) ≡ 1 * a
      oneth = rw (one-mul a) (rem_small p m a d h)

  -- doubling a column of the bit matrix gives the next: a times 2^j, doubled, is a times 2^(j + 1)
  pub times_double : (a b : ℕ) → product p a (b * 2) ≡ rem p (product p a b * 2)
  unfolding product
  times_double a b =
      ap (rem p) (product_double_r a b ∙ sym (twice (a ⊗ b)))
      ∙ sym (rem_product p m (a ⊗ b) 2 d)
      ∙ ap (rem p) (twice (rem p (a ⊗ b)))

  -- the other step: from the product with half of b, which is doubled
  pub times_half : (a b : ℕ) → a < 2 ^ m → product p a b ≡ rem p (product p a (b / 2) * 2) ⊕ b % 2 * a
  times_half a b h =
      times_step a b h
      ∙ sum_comm (b % 2 * a) (product p (rem p (a * 2)) (b / 2))
      ∙ ap (λ (x : ℕ). x ⊕ b % 2 * a)
      (times_rem_l (a * 2) (b / 2) ∙ times_comm p (a * 2) (b / 2) ∙ times_double (b / 2) a ∙ ap (λ (x : ℕ). rem p (x * 2)) (times_comm p (b / 2) a))

  -- a doubled element is reduced by one step
  pub double_reduce : (a : ℕ) → a < 2 ^ m → rem p (a * 2) ≡ reduce p (a * 2)
  double_reduce a h =
      rem_step p (a * 2)
      ∙ ap (reduce p) (ap₂ (λ (x y : ℕ). rem p x * 2 + y) (mul-div_cancel a (zero-lt-suc 1)) (mul-mod_left a 2) ∙ add-zero (rem p a * 2) ∙ ap (λ (x : ℕ). x * 2) (rem_small p m a d h))
