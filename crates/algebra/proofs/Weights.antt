-- The words of a product, the unit inputs, and the number of nonzero words.
-- Assumes nothing.
use mathlib.Core.Path.{◌≡◌, refl, sym, ap, ◌∙◌}
use mathlib.Core.Bool.{Bool, true, false, true≢false}
use mathlib.Core.List.{List, [], ◌∷◌}
use mathlib.Core.Logic.{◌≢◌, ⊎_elim}
use Prim.Native.Nat.{ℕ, zero, suc, ◌+◌, ◌≤◌, ◌<◌, zero-le}
use native.Mathlib.Nat.{le_refl, le-suc, le_trans, add-le-add, suc-ne-zero, eq-zero-or-pos}
use native.Mathlib.Numerals.{add-one}
use native.Mathlib.Decide.{ℕ_discrete}
use native.Mathlib.Omega.{arith}
use lib.ListN.{length, get_or}
use Rattle.algebra.specs.Operations.{Operations}
use Rattle.algebra.proofs.FieldLaws.{Field}
use Rattle.algebra.specs.Matrix.{tabulate, sum, apply, weight}
use Rattle.algebra.proofs.Words.{one_unless}
use Rattle.algebra.proofs.Words.{length_tabulate, get_d_tabulate, tabulate_cong, tabulate_get_d}
use Rattle.algebra.proofs.Sums.{Additive, additive, Naturals, naturals, delta, delta_same, delta_other, sum_null, sum_plus, sum_place, sum_delta, sum_first, times_null}

-- ---- the words of a product

module _ (K : Operations) (n : ℕ) (f : ℕ → ℕ → K.Element) (x : List K.Element) where
  -- a product has n words
  pub length_apply : length (apply K n f x) ≡ n
  unfolding apply
  length_apply = length_tabulate n (λ i. sum K n (λ j. K.times (f i j) (get_or x j K.null)))

  -- word i is the sum of line i
  pub get_d_apply : (i : ℕ) → i < n → get_or (apply K n f x) i K.null ≡ sum K n (λ j. K.times (f i j) (get_or x j K.null))
  unfolding apply
  get_d_apply i l = get_d_tabulate n (λ i. sum K n (λ j. K.times (f i j) (get_or x j K.null))) i K.null l

-- the input with 1 at place k and 0 elsewhere
unfoldable pub unit : (K : Operations) → ℕ → ℕ → List K.Element
unit K n k = tabulate n (λ i. delta K i k K.one)

-- it has n words
pub length_unit : (K : Operations) (n k : ℕ) → length (unit K n k) ≡ n
unfolding unit
length_unit K n k = length_tabulate n (λ i. delta K i k K.one)

-- its word at place i
pub get_d_unit : (K : Operations) (n k i : ℕ) → i < n → get_or (unit K n k) i K.null ≡ delta K i k K.one
unfolding unit
get_d_unit K n k i l = get_d_tabulate n (λ i. delta K i k K.one) i K.null l

-- ---- sums of numbers

-- larger numbers have the larger sum
pub sum_le : (n : ℕ) (f g : ℕ → ℕ) → ((i : ℕ) → i < n → f i ≤ g i) → sum Naturals n f ≤ sum Naturals n g
unfolding sum
sum_le zero f g h = zero-le
sum_le (suc n) f g h = add-le-add (sum_le n f g (λ i l. h i (le_trans l (le-suc n)))) (h n (le_refl (suc n)))

-- n ones
pub sum_ones : (n : ℕ) → sum Naturals n (λ i. 1) ≡ n
unfolding sum
sum_ones zero = refl
sum_ones (suc n) = ap (λ (s : ℕ). s + 1) (sum_ones n) ∙ add-one n

-- one more at place a
marked : (ℕ → ℕ) → ℕ → ℕ → ℕ
marked t a i = t i + delta Naturals i a 1

sum_marked : (n : ℕ) (t : ℕ → ℕ) (a : ℕ) → a < n → sum Naturals n (marked t a) ≡ sum Naturals n t + 1
unfolding marked
sum_marked n t a l =
    sum_plus Naturals naturals n t (λ i. delta Naturals i a 1)
    ∙ ap (λ (s : ℕ). sum Naturals n t + s) (sum_delta Naturals naturals n a 1 l)

marked_le : (t : ℕ → ℕ) (a : ℕ) → ((i : ℕ) → t i ≤ 1) → t a ≡ 0 → (i : ℕ) → marked t a i ≤ 1
unfolding marked
marked_le t a h z i =
    elim (ℕ_discrete i a) [
      | yes e ↦ omega (arith, delta_same Naturals i a 1 e, ap t e)
      | no d ↦ omega (arith, delta_other Naturals i a 1 d, h i)
    ]

marked_other : (t : ℕ → ℕ) (a b : ℕ) → a ≢ b → t b ≡ 0 → marked t a b ≡ 0
unfolding marked
marked_other t a b d z = omega (arith, delta_other Naturals b a 1 (λ e. d (sym e)))

-- ---- the weight

-- a word counts at most once
pub one_unless_le : (t : Bool) → one_unless t ≤ 1
one_unless_le true = zero-le
one_unless_le false = le_refl 1

module _ (K : Operations) where
  -- 1 at a nonzero word, 0 at a zero word
  abbrev pub counts : K.Element → ℕ
  counts a = one_unless (K.is_null a)

  -- the weight of a list given by a function
  pub weight_tabulate : (n : ℕ) (f : ℕ → K.Element) → weight K (tabulate n f) ≡ sum Naturals n (λ i. counts (f i))
  unfolding weight tabulate sum
  weight_tabulate zero f = refl
  weight_tabulate (suc n) f =
      ap (λ (s : ℕ). counts (f 0) + s) (weight_tabulate n (λ i. f (suc i)))
      ∙ sym (sum_first Naturals naturals n (λ i. counts (f i)))

  -- the weight, counted place by place
  pub weight_sum : (n : ℕ) (x : List K.Element) → length x ≡ n → weight K x ≡ sum Naturals n (λ i. counts (get_or x i K.null))
  weight_sum n x e = ap (weight K) (sym (tabulate_get_d K.null n x e)) ∙ weight_tabulate n (λ i. get_or x i K.null)

  -- no more nonzero words than words
  pub weight_le : (x : List K.Element) → weight K x ≤ length x
  unfolding weight
  weight_le [] = zero-le
  weight_le (a ∷ x) = omega (arith, one_unless_le (K.is_null a), weight_le x)

-- the laws of 0 and 1 alone, for what is true also over numbers modulo a reducible polynomial
pub record NullLaws (K : Operations) : Type 0 where
  pub sums : Additive K
  pub times_null : (a : K.Element) → K.times a K.null ≡ K.null
  pub null_times : (a : K.Element) → K.times K.null a ≡ K.null
  pub null_is : K.is_null K.null ≡ true
  pub one_not_null : K.is_null K.one ≡ false

-- a field has these laws
pub null_laws : (K : Operations) → Field K → NullLaws K
null_laws K L =
    record {
      sums = additive K L;
      times_null = times_null K L;
      null_times = λ a. L.times_comm K.null a ∙ times_null K L a;
      null_is = L.null_is;
      one_not_null = L.one_not_null;
    }

module _ (K : Operations) (N : NullLaws K) where
  counts_null : (a : K.Element) → a ≡ K.null → counts K a ≡ 0
  counts_null a e = rw (e, N.null_is)

  module _ (n : ℕ) (x : List K.Element) (long : length x ≡ n) where
    marks : ℕ → ℕ
    marks i = counts K (get_or x i K.null)

    marks_le : (i : ℕ) → marks i ≤ 1
    unfolding marks
    marks_le i = one_unless_le (K.is_null (get_or x i K.null))

    weight_marks : weight K x ≡ sum Naturals n marks
    unfolding marks
    weight_marks = weight_sum K n x long

    marks_null : (a : ℕ) → get_or x a K.null ≡ K.null → marks a ≡ 0
    unfolding marks
    marks_null a z = counts_null (get_or x a K.null) z

    -- a zero word at one place
    pub weight_null : (a : ℕ) → a < n → get_or x a K.null ≡ K.null → weight K x < n
    weight_null a l z =
        let most : sum Naturals n (marked marks a) ≤ sum Naturals n (λ i. 1) =
        sum_le n (marked marks a) (λ i. 1) (λ i m. marked_le marks a marks_le (marks_null a z) i) in
        omega (arith, weight_marks, sum_marked n marks a l, sum_ones n)

    -- zero words at two places
    pub weight_nulls : (a b : ℕ) → a < n → b < n → a ≢ b → get_or x a K.null ≡ K.null → get_or x b K.null ≡ K.null
        → weight K x + 2 ≤ n
    weight_nulls a b l m d y z =
        let first : (i : ℕ) → marked marks a i ≤ 1 = marked_le marks a marks_le (marks_null a y) in
        let most : sum Naturals n (marked (marked marks a) b) ≤ sum Naturals n (λ i. 1) =
        sum_le n (marked (marked marks a) b) (λ i. 1) (λ i k. marked_le (marked marks a) b first (marked_other marks a b d (marks_null b z)) i) in
        omega (arith, weight_marks, sum_marked n marks a l, sum_marked n (marked marks a) b m, sum_ones n)

  -- a nonzero word at exactly one place
  pub weight_unit : (n k : ℕ) → k < n → weight K (unit K n k) ≡ 1
  unfolding unit
  weight_unit n k l =
      weight_tabulate K n (λ i. delta K i k K.one)
      ∙ sum_place Naturals naturals n (λ i. counts K (delta K i k K.one)) k l (λ i m e. counts_null (delta K i k K.one) (delta_other K i k K.one e))
      ∙ rw (delta_same K k k K.one refl, N.one_not_null)

module _ (K : Operations) (L : Field K) where
  null_counts : (a : K.Element) → counts K a ≡ 0 → a ≡ K.null
  null_counts a e = decide (K.is_null a) refl
    where
      decide : (t : Bool) → K.is_null a ≡ t → a ≡ K.null
      decide true z = L.is_null_holds a z
      decide false z = absurd (suc-ne-zero 0 (rw z at e))

  -- weight 0: all words are 0
  pub weight_zero : (x : List K.Element) → weight K x ≡ 0 → (i : ℕ) → get_or x i K.null ≡ K.null
  unfolding weight
  weight_zero [] e i = refl
  weight_zero (a ∷ x) e zero = null_counts a (omega arith)
  weight_zero (a ∷ x) e (suc i) = weight_zero x (omega arith) i

  -- all words are 0: weight 0
  pub zero_weight : (n : ℕ) (x : List K.Element) → length x ≡ n → ((i : ℕ) → i < n → get_or x i K.null ≡ K.null)
      → weight K x ≡ 0
  zero_weight n x e h =
      weight_sum K n x e ∙ sum_null Naturals naturals n (λ i. counts K (get_or x i K.null)) (λ i l. counts_null K (null_laws K L) (get_or x i K.null) (h i l))

  -- the product with a unit input is a column
  pub apply_unit : (n : ℕ) (f : ℕ → ℕ → K.Element) (k : ℕ) → k < n → apply K n f (unit K n k) ≡ tabulate n (λ i. f i k)
  unfolding apply
  apply_unit n f k l =
      tabulate_cong n (λ i. sum K n (λ j. K.times (f i j) (get_or (unit K n k) j K.null))) (λ i. f i k)
      (λ i m. sum_place K (additive K L) n (λ j. K.times (f i j) (get_or (unit K n k) j K.null)) k l
      (λ j h e. rw (get_d_unit K n k j h, delta_other K j k K.one e) (times_null K L (f i j)))
      ∙ rw (get_d_unit K n k k l, delta_same K k k K.one refl) (L.times_one (f i k)))

  -- a word that is 1: not weight 0
  pub weight_one : (x : List K.Element) (i : ℕ) → get_or x i K.null ≡ K.one → 0 < weight K x
  weight_one x i e = ⊎_elim (λ z. absurd (true≢false (sym (ap K.is_null (sym e ∙ weight_zero x z i) ∙ L.null_is) ∙ L.one_not_null))) (λ p. p) (eq-zero-or-pos (weight K x))
