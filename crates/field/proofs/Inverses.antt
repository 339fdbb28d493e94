-- Over an irreducible polynomial every nonzero element has an inverse, exactly one; no product of nonzero elements is 0; squaring is
-- injective; the columns of a nonzero element's bit matrix are nonzero; and 1 counts 0. For all degrees together. Assumes nothing.
use mathlib.Core.Path.{◌≡◌, refl, sym, ap, ap₂, ◌∙◌}
use mathlib.Core.Bool.{Bool, true, false}
use mathlib.Core.Logic.{⊎_elim}
use Prim.Native.Nat.{ℕ, zero, suc, ◌+◌, ◌-◌, ◌*◌, ◌/◌, ◌^◌, ◌≤◌, ◌<◌, suc-le-suc, zero-le}
use native.Mathlib.Nat.{le_trans, le_refl, le-suc, lt_of_lt_of_le, lt_of_le_of_lt, lt_of_not-le, le_of_suc-le-suc, not-suc-le-zero, zero-lt-suc, eq-zero-or-pos, eq-or-lt_of_le}
use native.Mathlib.Decide.{dec_le}
use native.Mathlib.Omega.{arith}
use borrow.Author.Tests.{eq-eqb, ne_eqb}
use lib.Dec.{eqb}
use lib.Arith.{bin_ind}
use lib.Pow.{pow_pos, pow_mono, pow-lt}
use lib.Count.{ones, ones_in, ones_step, ones_cat, ones-le}
use Rattle.field.specs.Polynomial.{◌⊕◌, ◌⊗◌, degree, rem, Irreducible, product, or_next, first_below, inverse, ones_in_columns, xor_count}
use Rattle.field.proofs.Sum.{sum_zero_l, sum_move, sum_equal, sum_lt, sums}
use Rattle.field.proofs.Ring.{product_zero_l, product_one_l, products}
use Rattle.field.proofs.Degrees.{HasDegree, has_degree}
use Rattle.field.proofs.Division.{division, rem_lt, rem_sum, rem_multiple}
use Rattle.field.proofs.Field.{times_comm, times_zero_r, times_assoc, times_one_l, times_one_r, times_rem_r, times_sum_l, times_sum_r, times_lt}

-- a nonzero number has a set bit
ones_positive : (n : ℕ) → 0 < n → 0 < ones n
ones_positive =
    bin_ind (λ (n : ℕ). 0 < n → 0 < ones n) (λ h. let z : ⊥ = omega arith in absurd z)
    (λ n ih h. ⊎_elim (λ (e : n / 2 ≡ 0). omega (arith, ones_step n)) (λ (k : 0 < n / 2). omega (arith, ones_step n, ih k))
    (eq-zero-or-pos (n / 2)))

module _ (p m : ℕ) (d : HasDegree p m) (irr : Irreducible p) where
  -- the remainder of p by a smaller polynomial of degree 1 or more is not 0
  rest_not_zero : (a : ℕ) → 2 ≤ a → a < 2 ^ m → rem a p ≡ 0 → ⊥
  unfolding Irreducible
  rest_not_zero a h l e = factor (division a p).0 ((division a p).1 ∙ ap (λ (x : ℕ). (division a p).0 ⊗ a ⊕ x) e ∙ zero_r ((division a p).0 ⊗ a))
    where
      zero_r : (x : ℕ) → x ⊕ 0 ≡ x
      zero_r x = simp sums

      factor : (q : ℕ) → p ≡ q ⊗ a → ⊥
      factor zero f = let z : p ≡ 0 = f ∙ product_zero_l a in omega (arith, pow_pos m, d.low)
      factor (suc zero) f = let z : p ≡ a = f ∙ product_one_l a in omega (arith, d.low)
      factor (suc (suc q)) f = irr (suc (suc q)) a (omega arith) h (sym f)

  -- an inverse of the remainder of p by a gives one of a
  lift : (a b : ℕ) → product p (rem a p) b ≡ 1 → product p a ((division a p).0 ⊗ b) ≡ 1
  unfolding product
  lift a b e =
      ap (rem p) (regroup ∙ ap (λ (x : ℕ). x ⊗ b) (sym (sum_move p ((division a p).0 ⊗ a) (rem a p) (division a p).1)) ∙ spread)
      ∙ rem_sum p m (b ⊗ p) (rem a p ⊗ b) d
      ∙ ap₂ ◌⊕◌ (rem_multiple p m b d) e
      ∙ sum_zero_l 1
    where
      regroup : a ⊗ ((division a p).0 ⊗ b) ≡ (division a p).0 ⊗ a ⊗ b
      regroup = simp products

      spread : (p ⊕ rem a p) ⊗ b ≡ b ⊗ p ⊕ rem a p ⊗ b
      spread = simp products

  module _ (one : 0 < m) where
    one_lt : 1 < 2 ^ m
    one_lt = lt_of_lt_of_le (omega arith) (pow_mono {j = m} one)

    -- by descent: p divided by a leaves a smaller remainder, whose inverse gives that of a
    descend : (n a : ℕ) → a ≤ n → 0 < a → a < 2 ^ m → (b : ℕ) × (product p a b ≡ 1)
    descend zero a h l u = let z : ⊥ = omega arith in absurd z
    descend (suc n) zero h l u = let z : ⊥ = omega arith in absurd z
    descend (suc n) (suc zero) h l u = (1, times_one_l p m d 1 one_lt)
    descend (suc n) (suc (suc a)) h l u = further (descend n (rem (suc (suc a)) p) (omega (arith, smaller)) positive (omega (arith, smaller)))
      where
        smaller : rem (suc (suc a)) p < suc (suc a)
        smaller =
            let e : HasDegree (suc (suc a)) (degree (suc (suc a))) = has_degree (suc (suc a)) l in
            lt_of_lt_of_le (rem_lt (suc (suc a)) (degree (suc (suc a))) p e) e.low

        positive : 0 < rem (suc (suc a)) p
        positive =
            ⊎_elim (λ (e : rem (suc (suc a)) p ≡ 0). absurd (rest_not_zero (suc (suc a)) (omega arith) u e)) (λ h. h)
            (eq-zero-or-pos (rem (suc (suc a)) p))

        further : (b : ℕ) × (product p (rem (suc (suc a)) p) b ≡ 1) → (b : ℕ) × (product p (suc (suc a)) b ≡ 1)
        further r = ((division (suc (suc a)) p).0 ⊗ r.0, lift (suc (suc a)) r.0 r.1)

    -- every nonzero element has an inverse
    pub inverse_exists : (a : ℕ) → 0 < a → a < 2 ^ m → (b : ℕ) × (b < 2 ^ m) × (product p a b ≡ 1)
    inverse_exists a h l =
        let r = descend a a (le_refl a) h l in
        (rem p r.0, rem_lt p m r.0 d, times_rem_r p m d a r.0 ∙ r.1)

    -- a product of elements is 0 only if one of them is
    pub no_zero_divisors : (a b : ℕ) → 0 < a → a < 2 ^ m → b < 2 ^ m → product p a b ≡ 0 → b ≡ 0
    no_zero_divisors a b h la lb e =
        let i = inverse_exists a h la in
        sym (times_one_l p m d b lb)
        ∙ ap (λ (x : ℕ). product p x b) (sym (times_comm p i.0 a ∙ i.2))
        ∙ times_assoc p m d i.0 a b
        ∙ ap (product p i.0) e
        ∙ times_zero_r p i.0

    -- squaring is injective
    pub square_injective : (a b : ℕ) → a < 2 ^ m → b < 2 ^ m → product p a a ≡ product p b b → a ≡ b
    square_injective a b la lb e =
        sum_equal a b
        (⊎_elim (λ (z : a ⊕ b ≡ 0). z) (λ (h : 0 < a ⊕ b). no_zero_divisors (a ⊕ b) (a ⊕ b) h below below square)
        (eq-zero-or-pos (a ⊕ b)))
      where
        below : a ⊕ b < 2 ^ m
        below = sum_lt m a b la lb

        square : product p (a ⊕ b) (a ⊕ b) ≡ 0
        square =
            times_sum_l p m d a b (a ⊕ b)
            ∙ ap₂ ◌⊕◌ (times_sum_r p m d a a b) (times_sum_r p m d b a b)
            ∙ ap (λ (x : ℕ). product p a a ⊕ product p a b ⊕ (x ⊕ product p b b)) (times_comm p b a)
            ∙ ap (λ (x : ℕ). x ⊕ product p a b ⊕ (product p a b ⊕ product p b b)) e
            ∙ simp sums

    -- a column of a nonzero element's bit matrix is not 0
    pub column_not_zero : (a j : ℕ) → 0 < a → a < 2 ^ m → j < m → 0 < product p a (2 ^ j)
    column_not_zero a j h l k =
        ⊎_elim
        (λ (e : product p a (2 ^ j) ≡ 0).
        let z : 2 ^ j ≡ 0 = no_zero_divisors a (2 ^ j) h l (pow-lt k) e in
        let y : ⊥ = omega (arith, pow_pos j) in
        absurd y)
        (λ h. h)
        (eq-zero-or-pos (product p a (2 ^ j)))

    -- so the bit matrix has at least m ones, and the XOR count never falls below 0
    pub columns_ones : (a k : ℕ) → 0 < a → a < 2 ^ m → k ≤ m → k ≤ ones_in_columns p a k
    unfolding ones_in_columns
    columns_ones a zero h l u = zero-le
    columns_ones a (suc k) h l u =
        omega (arith, columns_ones a k h l (le_trans (le-suc k) u), ones_positive (product p a (2 ^ k)) (column_not_zero a k h l u))

  -- the inverse is the only one
  pub inverse_unique : (a b c : ℕ) → b < 2 ^ m → c < 2 ^ m → product p a b ≡ 1 → product p a c ≡ 1 → b ≡ c
  inverse_unique a b c lb lc e f =
      sym (times_one_r p m d b lb)
      ∙ ap (product p b) (sym f)
      ∙ sym (times_assoc p m d b a c)
      ∙ ap (λ (x : ℕ). product p x c) (times_comm p b a ∙ e)
      ∙ times_one_l p m d c lc

-- ---- what the definitions compute

pub first_is : (n k : ℕ) (test : ℕ → Bool) → k < n → test k ≡ true → ((j : ℕ) → j < k → test j ≡ false) → first_below n test ≡ k
unfolding first_below
first_is zero k test h e f = absurd (not-suc-le-zero h)
first_is (suc n) zero test h e f = ap (λ (b : Bool). or_next b (first_below n (λ k. test (suc k)))) e
first_is (suc n) (suc k) test h e f =
    ap (λ (b : Bool). or_next b (first_below n (λ k. test (suc k)))) (f 0 (zero-lt-suc k))
    ∙ ap suc (first_is n k (λ k. test (suc k)) (le_of_suc-le-suc h) e (λ j l. f (suc j) (suc-le-suc l)))

-- where nothing passes the test, there is no first
pub first_none : (n : ℕ) (test : ℕ → Bool) → ((j : ℕ) → j < n → test j ≡ false) → first_below n test ≡ n
unfolding first_below
first_none zero test h = refl
first_none (suc n) test h =
    ap (λ (b : Bool). or_next b (first_below n (λ k. test (suc k)))) (h 0 (zero-lt-suc n))
    ∙ ap suc (first_none n (λ k. test (suc k)) (λ j l. h (suc j) (suc-le-suc l)))

-- the first of all numbers up to k that passes, or n
pub first_at : (n k : ℕ) (test : ℕ → Bool) → k ≤ n → (k < n → test k ≡ true) → ((j : ℕ) → j < k → test j ≡ false) → first_below n test ≡ k
first_at n k test l e f =
    ⊎_elim (λ (q : k ≡ n). first_none n test (λ j h. f j (rw q h)) ∙ sym q) (λ (h : k < n). first_is n k test h (e h) f) (eq-or-lt_of_le l)

-- the first is one of them, or n
pub first_le : (n : ℕ) (test : ℕ → Bool) → first_below n test ≤ n
unfolding first_below
first_le zero test = le_refl 0
first_le (suc n) test = at (test 0) (first_le n (λ k. test (suc k)))
  where
    at : (b : Bool) {k : ℕ} → k ≤ n → or_next b k ≤ suc n
    at true l = zero-le
    at false l = suc-le-suc l

-- nothing before the first passes
pub first_before : (n : ℕ) (test : ℕ → Bool) (j : ℕ) → j < first_below n test → test j ≡ false
unfolding first_below
first_before zero test j l = absurd (not-suc-le-zero l)
first_before (suc n) test j l = at (test 0) refl j l (first_before n (λ k. test (suc k)))
  where
    at : (b : Bool) → test 0 ≡ b → (j : ℕ) → j < or_next b (first_below n (λ k. test (suc k)))
        → ((i : ℕ) → i < first_below n (λ k. test (suc k)) → test (suc i) ≡ false) → test j ≡ false
    at true e j l rest = absurd (not-suc-le-zero l)
    at false e zero l rest = e
    at false e (suc j) l rest = rest j (le_of_suc-le-suc l)

-- the first passes, if there is one
pub first_there : (n : ℕ) (test : ℕ → Bool) → first_below n test < n → test (first_below n test) ≡ true
unfolding first_below
first_there zero test l = absurd (not-suc-le-zero l)
first_there (suc n) test l = at (test 0) refl l (first_there n (λ k. test (suc k)))
  where
    at : (b : Bool) → test 0 ≡ b → or_next b (first_below n (λ k. test (suc k))) < suc n
        → (first_below n (λ k. test (suc k)) < n → test (suc (first_below n (λ k. test (suc k)))) ≡ true)
        → test (or_next b (first_below n (λ k. test (suc k)))) ≡ true
    at true e l rest = e
    at false e l rest = rest (le_of_suc-le-suc l)

-- the inverse is the first element that passes
pub inverse_is : (p a b : ℕ) → b < 2 ^ degree p → product p a b ≡ 1 → ((k : ℕ) → k < b → product p a k ≡ 1 → ⊥) → inverse p a ≡ b
unfolding inverse
inverse_is p a b h e f =
    first_is (2 ^ degree p) b (λ k. eqb (product p a k) 1) h (eq-eqb (product p a b) 1 e) (λ k l. ne_eqb (product p a k) 1 (f k l))

module _ (p : ℕ) (d : HasDegree p (degree p)) (irr : Irreducible p) (one : 0 < degree p) (a : ℕ) (h : 0 < a) (l : a < 2 ^ degree p) where
  -- while no element up to b is an inverse, another one follows
  pub inverse_beyond : (b : ℕ) → ((k : ℕ) → k < suc b → product p a k ≡ 1 → ⊥) → suc b < 2 ^ degree p
  inverse_beyond b f = lt_of_le_of_lt beyond r.1
    where
      r : (b : ℕ) × (b < 2 ^ degree p) × (product p a b ≡ 1)
      r = inverse_exists p (degree p) d irr one a h l

      beyond : suc b ≤ r.0
      beyond = elim (dec_le (suc b) r.0) [ yes k ↦ k | no k ↦ absurd (f r.0 (lt_of_not-le k) r.2) ]

-- the count of a nonzero element
pub count_positive : (p a : ℕ) → 0 < a → xor_count p a ≡ ones_in_columns p a (degree p) - degree p
unfolding xor_count
count_positive p zero h = let z : ⊥ = omega arith in absurd z
count_positive p (suc a) h = refl

-- a column has at most 8 ones
pub columns_most : (p m a k : ℕ) → HasDegree p m → m ≤ 8 → ones_in_columns p a k ≤ 8 * k
unfolding ones_in_columns
columns_most p m a zero d u = zero-le
columns_most p m a (suc k) d u =
    omega
    (arith, columns_most p m a k d u, ones-le 8 (product p a (2 ^ k)) (lt_of_lt_of_le (times_lt p m d a (2 ^ k)) (pow_mono {j = 8} u)))

-- a power of 2 has one set bit
ones_power : (k : ℕ) → ones (2 ^ k) ≡ 1
unfolding ones ones_in
ones_power k = let e : 2 ^ k ≡ 1 * 2 ^ k + 0 = omega arith in ap ones e ∙ ones_cat k 1 0 (pow_pos k)

-- each column of the bit matrix of 1 is a power of 2
columns_of_one : (p m k : ℕ) → HasDegree p m → k ≤ m → ones_in_columns p 1 k ≡ k
unfolding ones_in_columns
columns_of_one p m zero d l = refl
columns_of_one p m (suc k) d l =
    omega (arith, columns_of_one p m k d (omega arith), ap ones (times_one_l p m d (2 ^ k) (pow-lt l)) ∙ ones_power k)

-- the count of 1 is 0
pub count_of_one : (p : ℕ) → HasDegree p (degree p) → xor_count p 1 ≡ 0
count_of_one p d = count_positive p 1 (zero-lt-suc 0) ∙ omega (arith, columns_of_one p (degree p) (degree p) d (le_refl (degree p)))
