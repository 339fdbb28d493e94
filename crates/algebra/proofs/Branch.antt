-- The branch number is the least activity of a nonzero input; with an entry 0 it is at most the order (`null_entry_light`), so not MDS.
-- Assumes nothing.
use mathlib.Core.Path.{◌≡◌, refl, ap, ◌∙◌}
use mathlib.Core.Bool.{Bool, true, false, cond}
use mathlib.Core.List.{List, [], ◌∷◌, Memᴰ}
use mathlib.Core.Logic.{◌⊎◌, inl, inr, ⊎_elim}
use Prim.Native.Nat.{ℕ, zero, suc, ◌+◌, ◌≤◌, ◌<◌}
use native.Mathlib.Nat.{le_trans, le_refl, not-suc-le-zero, zero-lt-suc, min-eq_left, min-eq_right}
use native.Mathlib.Decide.{ℕ_discrete}
use native.Mathlib.Omega.{arith}
use lib.Dec.{eqb}
use lib.ListN.{length, get_or}
use borrow.Author.Tests.{eqb-true, eq-eqb, ne_eqb}
use Rattle.algebra.specs.Operations.{Operations}
use Rattle.algebra.proofs.FieldLaws.{Field}
use Rattle.algebra.specs.Matrix.{words, apply, weight, activity, unless_zero, least_activity, branch_number, is_mds}
use Rattle.algebra.proofs.Words.{mem_tabulate, words_all, words_only}
use Rattle.algebra.proofs.Sums.{le_or_lt, delta, delta_other, sum_null}
use Rattle.algebra.proofs.Weights.{length_apply, get_d_apply, unit, length_unit, get_d_unit, NullLaws, null_laws, weight_unit, weight_null, weight_le}

-- ---- the least activity in a list of inputs

unless_le : (w a l : ℕ) → unless_zero w a l ≤ l
unless_le zero a l = le_refl l
unless_le (suc w) a l = omega arith

unless_self : (w a l : ℕ) → 0 < w → unless_zero w a l ≤ a
unless_self zero a l h = absurd (not-suc-le-zero h)
unless_self (suc w) a l h = omega arith

unless_is : (w a l : ℕ) → (unless_zero w a l ≡ l) ⊎ ((0 < w) × (unless_zero w a l ≡ a))
unless_is zero a l = inl refl
unless_is (suc w) a l = ⊎_elim (λ h. inr (zero-lt-suc w, min-eq_left h)) (λ h. inl (min-eq_right (omega arith))) (le_or_lt a l)

module _ (K : Operations) (n : ℕ) (f : ℕ → ℕ → K.Element) where
  -- a nonzero one of the inputs whose activity is b
  Attains : List (List K.Element) → ℕ → Type 0
  Attains xs b = (x : List K.Element) × Memᴰ x xs × (0 < weight K x) × (b ≡ activity K n f x)

  least_le : (xs : List (List K.Element)) (x : List K.Element) → Memᴰ x xs → 0 < weight K x
      → least_activity K n f xs ≤ activity K n f x
  unfolding least_activity
  least_le [] x m h = absurd (mathlib.Core.List.Memᴰ.not-nil m)
  least_le (y ∷ ys) x m h =
      let later : Memᴰ x ys → least_activity K n f ys ≤ activity K n f x = λ t. least_le ys x t h in
      ⊎_elim (λ (e : x ≡ y). let l : 0 < weight K y = rw e at h in rw e (unless_self (weight K y) (activity K n f y) (least_activity K n f ys) l))
      (λ t. le_trans (unless_le (weight K y) (activity K n f y) (least_activity K n f ys)) (later t)) (mathlib.Core.List.Memᴰ.cases_cons m)

  least_is : (xs : List (List K.Element)) → (least_activity K n f xs ≡ n + n) ⊎ Attains xs (least_activity K n f xs)
  unfolding least_activity Attains
  least_is [] = inl refl
  least_is (y ∷ ys) =
      let rest : (least_activity K n f ys ≡ n + n) ⊎ Attains ys (least_activity K n f ys) = least_is ys in
      ⊎_elim
      (λ (e : unless_zero (weight K y) (activity K n f y) (least_activity K n f ys) ≡ least_activity K n f ys).
      rw e (⊎_elim (λ d. inl d) (λ a. inr (a.0, mathlib.Core.List.Memᴰ.tail a.1, a.2, a.3)) rest))
      (λ c. inr (y, mathlib.Core.List.Memᴰ.head refl, c.0, c.1)) (unless_is (weight K y) (activity K n f y) (least_activity K n f ys))

  -- no nonzero input of the elements has a smaller activity than the branch number
  branch_among : (elements : List K.Element) (x : List K.Element) → length x ≡ n → ((a : K.Element) → Memᴰ a x → Memᴰ a elements)
      → 0 < weight K x → branch_number K elements n f ≤ activity K n f x
  unfolding branch_number
  branch_among elements x e among h = least_le (words elements n) x (words_all elements n x e among) h

-- ---- an entry 0, over a field or not

module _ (K : Operations) (N : NullLaws K) (n : ℕ) (f : ℕ → ℕ → K.Element) (i j : ℕ) (l : i < n) (m : j < n) (z : f i j ≡ K.null) where
  -- the entry's line sends the unit input of its column to 0
  term_null : (k : ℕ) → k < n → K.times (f i k) (get_or (unit K n j) k K.null) ≡ K.null
  term_null k a =
      elim (ℕ_discrete k j) [
        | yes e ↦ ap (λ x. K.times x (get_or (unit K n j) k K.null)) (ap (f i) e ∙ z) ∙ N.null_times (get_or (unit K n j) k K.null)
        | no d ↦ ap (K.times (f i k)) (get_d_unit K n j k a ∙ delta_other K k j K.one d) ∙ N.times_null (f i k)
      ]

  -- so that input is light
  unit_light : activity K n f (unit K n j) ≤ n
  unfolding activity
  unit_light =
      let image : List K.Element = apply K n f (unit K n j) in
      let gap : weight K image < n =
      weight_null K N n image (length_apply K n f (unit K n j)) i l (get_d_apply K n f (unit K n j) i l ∙ sum_null K N.sums n _ term_null) in
      omega (arith, weight_unit K N n j m)

  module _ (elements : List K.Element) (has-null : Memᴰ K.null elements) (Has-one : Memᴰ K.one elements) where
    one_or_null : (b : Bool) → Memᴰ (cond b K.one K.null) elements
    one_or_null true = Has-one
    one_or_null false = has-null

    unit_among : (a : K.Element) → Memᴰ a (unit K n j) → Memᴰ a elements
    unfolding unit delta
    unit_among a h = let (k, b, e) = mem_tabulate n _ a h in rw e (one_or_null (eqb k j))

    -- a matrix with an entry 0: the branch number is at most the order
    pub null_entry_light : branch_number K elements n f ≤ n
    null_entry_light = le_trans (branch_among K n f elements (unit K n j) (length_unit K n j) unit_among (omega (arith, weight_unit K N n j m))) unit_light

-- ---- the branch number

module _ (K : Operations) (L : Field K) (elements : List K.Element) (complete : (a : K.Element) → Memᴰ a elements) (n : ℕ) (f : ℕ → ℕ → K.Element) where
  -- no nonzero input has a smaller activity
  pub branch_le : (x : List K.Element) → length x ≡ n → 0 < weight K x → branch_number K elements n f ≤ activity K n f x
  branch_le x e h = branch_among K n f elements x e (λ a m. complete a) h

  unit_activity : 0 < n → activity K n f (unit K n 0) ≤ suc n
  unfolding activity
  unit_activity h = omega (arith, weight_unit K (null_laws K L) n 0 h, weight_le K (apply K n f (unit K n 0)), length_apply K n f (unit K n 0))

  unit_le : 0 < n → branch_number K elements n f ≤ activity K n f (unit K n 0)
  unit_le h = branch_le (unit K n 0) (length_unit K n 0) (omega (arith, weight_unit K (null_laws K L) n 0 h))

  -- at most the order plus one, the activity of a unit input at most
  pub branch_le_suc : 0 < n → branch_number K elements n f ≤ suc n
  branch_le_suc h = le_trans (unit_le h) (unit_activity h)

  -- some nonzero input has that activity
  pub branch_attained : 0 < n → (x : List K.Element) × (length x ≡ n) × (0 < weight K x) × (branch_number K elements n f ≡ activity K n f x)
  unfolding branch_number Attains
  branch_attained h =
      ⊎_elim
      (λ (e : least_activity K n f (words elements n) ≡ n + n).
      (unit K n 0, length_unit K n 0, omega (arith, weight_unit K (null_laws K L) n 0 h), omega (arith, unit_le h, unit_activity h)))
      (λ a. (a.0, (words_only elements n a.0 a.1).0, a.2, a.3)) (least_is K n f (words elements n))

  -- a bound from below of all activities of nonzero inputs that is one of them is the branch number
  pub branch_unique : (b : ℕ) → ((x : List K.Element) → length x ≡ n → 0 < weight K x → b ≤ activity K n f x)
      → (x : List K.Element) → length x ≡ n → 0 < weight K x → b ≡ activity K n f x → branch_number K elements n f ≡ b
  branch_unique b least x e h q =
      let positive : 0 < n = omega (arith, weight_le K x) in
      let y = branch_attained positive in
      omega (arith, least y.0 y.1 y.2, branch_le x e h)

  -- MDS: each nonzero input has an activity of the order plus one at least
  pub mds_activity : is_mds K elements n f ≡ true → (x : List K.Element) → length x ≡ n → 0 < weight K x
      → suc n ≤ activity K n f x
  unfolding is_mds
  mds_activity m x e h = omega (arith, eqb-true (branch_number K elements n f) (suc n) m, branch_le x e h)

  -- and the other way round
  pub activity_mds : 0 < n → ((x : List K.Element) → length x ≡ n → 0 < weight K x → suc n ≤ activity K n f x)
      → is_mds K elements n f ≡ true
  unfolding is_mds
  activity_mds h all =
      let y = branch_attained h in
      eq-eqb (branch_number K elements n f) (suc n) (omega (arith, all y.0 y.1 y.2, branch_le_suc h))

  -- an input that is too light: not MDS
  pub light_not_mds : (x : List K.Element) → length x ≡ n → 0 < weight K x → activity K n f x ≤ n → is_mds K elements n f ≡ false
  light_not_mds x e h l = decide (is_mds K elements n f) refl
    where
      decide : (t : Bool) → is_mds K elements n f ≡ t → is_mds K elements n f ≡ false
      decide true m = absurd (let heavy = mds_activity m x e h in omega arith)
      decide false m = m

  -- an entry 0: not MDS
  pub null_entry_not_mds : (i j : ℕ) → i < n → j < n → f i j ≡ K.null → is_mds K elements n f ≡ false
  unfolding is_mds
  null_entry_not_mds i j l m z =
      let light : branch_number K elements n f ≤ n = null_entry_light K (null_laws K L) n f i j l m z elements (complete K.null) (complete K.one) in
      ne_eqb _ (suc n) (λ e. omega arith)
