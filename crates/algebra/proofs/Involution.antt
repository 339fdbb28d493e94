-- An involution: the matrix used twice gives every input back, so the matrix times itself is the identity.
-- Assumes nothing.
use mathlib.Core.Path.{◌≡◌, refl, sym, ap, ◌∙◌}
use mathlib.Core.Bool.{Bool, true, false, ◌&&◌, false≢true}
use mathlib.Core.List.{List, [], ◌∷◌, Memᴰ}
use mathlib.Core.Logic.{⊎_elim}
use Prim.Native.Nat.{ℕ, suc, ◌+◌, ◌≤◌, ◌<◌}
use native.Mathlib.Nat.{eq-zero-or-pos}
use native.Mathlib.Omega.{arith}
use lib.ListN.{length, get_or}
use Rattle.algebra.specs.Operations.{Operations}
use Rattle.algebra.proofs.FieldLaws.{Field}
use Rattle.algebra.specs.Matrix.{words, sum, apply, weight, activity, same_words, gives_back, is_involution}
use Rattle.algebra.proofs.Words.{get_d_tabulate, tabulate_of, words_all, words_only, tabulate_cong}
use Rattle.algebra.proofs.Sums.{additive, delta, delta_same, delta_other, sum_cong, sum_null, sum_swap, sum_place, times_null, null_times, equal_of_sum, times_sum, sum_times, le_or_lt}
use Rattle.algebra.proofs.Weights.{length_apply, get_d_apply, unit, length_unit, get_d_unit, apply_unit, weight_zero, zero_weight}

-- both tests pass: the first does
pub and_left : (a b : Bool) → (a && b) ≡ true → a ≡ true
and_left true b e = refl
and_left false b e = e

-- and the second
pub and_right : (a b : Bool) → (a && b) ≡ true → b ≡ true
and_right true b e = e
and_right false b e = absurd (false≢true e)

-- the product of two matrices of order n
unfoldable pub product : (K : Operations) → ℕ → (ℕ → ℕ → K.Element) → (ℕ → ℕ → K.Element) → ℕ → ℕ → K.Element
product K n f g i j = sum K n (λ k. K.times (f i k) (g k j))

module _ (K : Operations) (L : Field K) where
  -- two matrices used one after the other are their product
  pub apply_apply : (n : ℕ) (f g : ℕ → ℕ → K.Element) (x : List K.Element)
      → apply K n f (apply K n g x) ≡ apply K n (product K n f g) x
  apply_apply n f g x = unfold apply in tabulate_cong n _ _ (λ i l. words i)
    where
      inner : (i k : ℕ) → k < n → K.times (f i k) (get_or (apply K n g x) k K.null) ≡ sum K n (λ j. K.times (K.times (f i k) (g k j)) (get_or x j K.null))
      inner i k l = rw (get_d_apply K n g x k l) (simp (times_sum K L, L.times_assoc))

      words : (i : ℕ) → sum K n (λ k. K.times (f i k) (get_or (apply K n g x) k K.null)) ≡ sum K n (λ j. K.times (product K n f g i j) (get_or x j K.null))
      words i =
          unfold product in sum_cong K n _ _ (inner i)
          ∙ sum_swap K (additive K L) n n (λ k j. K.times (K.times (f i k) (g k j)) (get_or x j K.null)) ∙ simp (sum_times K L)

  -- the test for the same words
  pub same_equal : (x y : List K.Element) → same_words K x y ≡ true → x ≡ y
  unfolding same_words
  same_equal [] [] e = refl
  same_equal [] (b ∷ y) e = absurd (false≢true e)
  same_equal (a ∷ x) [] e = absurd (false≢true e)
  same_equal (a ∷ x) (b ∷ y) e =
      let first : a ≡ b = equal_of_sum K L a b (L.is_null_holds (K.plus a b) (and_left (K.is_null (K.plus a b)) (same_words K x y) e)) in
      let rest : x ≡ y = same_equal x y (and_right (K.is_null (K.plus a b)) (same_words K x y) e) in
      cc

  same_self : (x : List K.Element) → same_words K x x ≡ true
  unfolding same_words
  same_self [] = refl
  same_self (a ∷ x) = rw (L.plus_self a, L.null_is) (same_self x)

  -- and the other way round
  pub equal_same : (x y : List K.Element) → x ≡ y → same_words K x y ≡ true
  equal_same x y e = rw e (same_self y)

  module _ (n : ℕ) (f : ℕ → ℕ → K.Element) where
    gives_all : (xs : List (List K.Element)) → gives_back K n f xs ≡ true → (x : List K.Element) → Memᴰ x xs
        → apply K n f (apply K n f x) ≡ x
    unfolding gives_back
    gives_all [] e x m = absurd (mathlib.Core.List.Memᴰ.not-nil m)
    gives_all (y ∷ ys) e x m =
        let here = same_words K (apply K n f (apply K n f y)) y in
        let later : Memᴰ x ys → apply K n f (apply K n f x) ≡ x = gives_all ys (and_right here (gives_back K n f ys) e) x in
        ⊎_elim (λ (q : x ≡ y). rw q (same_equal (apply K n f (apply K n f y)) y (and_left here (gives_back K n f ys) e))) later (mathlib.Core.List.Memᴰ.cases_cons m)

    all_gives : (xs : List (List K.Element)) → ((x : List K.Element) → Memᴰ x xs → apply K n f (apply K n f x) ≡ x)
        → gives_back K n f xs ≡ true
    unfolding gives_back
    all_gives [] h = refl
    all_gives (y ∷ ys) h =
        rw (equal_same (apply K n f (apply K n f y)) y (h y (mathlib.Core.List.Memᴰ.head refl))) (all_gives ys (λ x m. h x (mathlib.Core.List.Memᴰ.tail m)))

    -- a matrix that gives the unit inputs back is the identity
    pub identity_of : ((x : List K.Element) → length x ≡ n → apply K n f x ≡ x) → (i j : ℕ) → i < n → j < n
        → f i j ≡ delta K i j K.one
    identity_of h i j l m =
        sym (get_d_tabulate n (λ i. f i j) i K.null l)
        ∙ ap (λ x. get_or x i K.null) (sym (apply_unit K L n f j m) ∙ h (unit K n j) (length_unit K n j)) ∙ get_d_unit K n j i l

    -- the identity gives each input back
    pub of_identity : ((i j : ℕ) → i < n → j < n → f i j ≡ delta K i j K.one) → (x : List K.Element) → length x ≡ n
        → apply K n f x ≡ x
    of_identity h x e =
        unfold apply in sym (tabulate_of K.null n x _ e (λ i l. sym (
        sum_place K (additive K L) n (λ j. K.times (f i j) (get_or x j K.null)) i l
        (λ j m d. rw (h i j l m, delta_other K i j K.one (λ q. d (sym q))) (null_times K L (get_or x j K.null)))
        ∙ rw (h i i l l, delta_same K i i K.one refl) (L.times_comm K.one (get_or x i K.null) ∙ L.times_one (get_or x i K.null)))))

    -- a product with zeros only
    pub apply_zero : (x : List K.Element) → weight K x ≡ 0 → weight K (apply K n f x) ≡ 0
    apply_zero x z =
        zero_weight K L n (apply K n f x) (length_apply K n f x) (λ i l. get_d_apply K n f x i l
        ∙ sum_null K (additive K L) n (λ j. K.times (f i j) (get_or x j K.null)) (λ j m. rw (weight_zero K L x z j) (times_null K L (f i j))))

module _ (K : Operations) (L : Field K) (elements : List K.Element) (complete : (a : K.Element) → Memᴰ a elements) (n : ℕ) (f : ℕ → ℕ → K.Element) where
  -- an involution gives every input back
  pub involution_back : is_involution K elements n f ≡ true → (x : List K.Element) → length x ≡ n
      → apply K n f (apply K n f x) ≡ x
  unfolding is_involution
  involution_back t x e = gives_all K L n f (words elements n) t x (words_all elements n x e (λ a m. complete a))

  -- and the other way round
  pub back_involution : ((x : List K.Element) → length x ≡ n → apply K n f (apply K n f x) ≡ x)
      → is_involution K elements n f ≡ true
  unfolding is_involution
  back_involution h = all_gives K L n f (words elements n) (λ x m. h x (words_only elements n x m).0)

  -- an involution times itself is the identity
  pub involution_identity : is_involution K elements n f ≡ true → (i j : ℕ) → i < n → j < n
      → product K n f f i j ≡ delta K i j K.one
  involution_identity t = identity_of K L n (product K n f f) (λ x e. sym (apply_apply K L n f f x) ∙ involution_back t x e)

  -- and the other way round
  pub identity_involution : ((i j : ℕ) → i < n → j < n → product K n f f i j ≡ delta K i j K.one)
      → is_involution K elements n f ≡ true
  identity_involution h = back_involution (λ x e. apply_apply K L n f f x ∙ of_identity K L n (product K n f f) h x e)

  -- of an involution only the inputs with at most half the words nonzero need be looked at: either an input or its image is such
  pub half_suffices : is_involution K elements n f ≡ true
      → ((x : List K.Element) → length x ≡ n → 0 < weight K x → weight K x + weight K x ≤ n → suc n ≤ activity K n f x)
      → (x : List K.Element) → length x ≡ n → 0 < weight K x → suc n ≤ activity K n f x
  unfolding activity
  half_suffices t light x e h =
      let image : List K.Element = apply K n f x in
      let back : weight K (apply K n f image) ≡ weight K x = ap (weight K) (involution_back t x e) in
      let nonzero : 0 < weight K image = ⊎_elim (λ z. absurd (let w = apply_zero K L n f image z in omega arith)) (λ p. p) (eq-zero-or-pos (weight K image)) in
      ⊎_elim (λ l. light x e h l)
      (λ g. ⊎_elim (λ l. let m = light image (length_apply K n f x) nonzero l in omega arith) (λ k. omega arith) (le_or_lt (weight K image + weight K image) n))
      (le_or_lt (weight K x + weight K x) n)
