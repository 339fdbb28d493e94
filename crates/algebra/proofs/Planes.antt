-- Hadamard matrices of order 2 ^ k and planes of places: a row whose sum over a coset is 0 is no MDS row, nor is one with equal products of
-- the entries at two pairs of places of a plane, as no matrix is with equal products across two lines and two columns (`two_by_two_not_mds`).
-- And where entries and such products differ, the blocks of two lines are regular.
-- Assumes nothing.
use mathlib.Core.Path.{◌≡◌, refl, sym, ap, ap₂, ◌∙◌}
use mathlib.Core.Bool.{Bool, true, false, cond, xor}
use mathlib.Core.List.{List, Memᴰ}
use mathlib.Core.Logic.{◌≢◌, ⊎_elim}
use Prim.Native.Nat.{ℕ, ◌+◌, ◌^◌, ◌≤◌, ◌<◌, zero-le}
use native.Mathlib.Nat.{eq-zero-or-pos}
use native.Mathlib.Decide.{ℕ_discrete}
use native.Mathlib.Omega.{arith}
use lib.Bits.{bit_xor, xor_comm, xor_self, xor_zero_l, xor_lt}
use lib.Dec.{eqb}
use lib.ListN.{get_or}
use lib.Pow.{pow_pos}
use Rattle.algebra.specs.Operations.{Operations}
use Rattle.algebra.proofs.FieldLaws.{Field}
use Rattle.algebra.specs.Matrix.{tabulate, sum, apply, hadamard, det, without, skip, weight, activity, is_mds}
use Rattle.algebra.proofs.Words.{one_unless, length_tabulate, get_d_tabulate}
use Rattle.algebra.proofs.Sums.{le_or_lt, additive, Naturals, naturals, delta, delta_same, delta_other, sum_cong, sum_plus, sum_place, sum_delta, sum_permuted}
use Rattle.algebra.proofs.Sums.{times_null, equal_of_sum, square_plus, square_null}
use Rattle.algebra.proofs.Weights.{length_apply, get_d_apply, sum_le, sum_ones, counts, one_unless_le, weight_tabulate, weight_sum, weight_zero, weight_one, null_laws, weight_nulls}
use Rattle.algebra.proofs.Laws.{null_plus, null_not}
use Rattle.algebra.proofs.Branch.{light_not_mds, null_entry_not_mds}
use Rattle.algebra.proofs.Xor.{xor_xor, xor_between, xor_zero, xor_own}

-- ---- sums over some of the places

module _ (K : Operations) where
  -- the sum of the values at those places below n that pass a test
  abbrev pub sum_where : ℕ → (ℕ → Bool) → (ℕ → K.Element) → K.Element
  sum_where n test f = sum K n (λ i. cond (test i) (f i) K.null)

  -- only the tests below n count
  pub where_cong : (n : ℕ) (s t : ℕ → Bool) (f : ℕ → K.Element) → ((i : ℕ) → i < n → s i ≡ t i) → sum_where n s f ≡ sum_where n t f
  where_cong n s t f h = sum_cong K n _ _ (λ i l. ap (λ (b : Bool). cond b (f i) K.null) (h i l))

  module _ (L : Field K) (n : ℕ) (f : ℕ → K.Element) where
    -- one place
    pub where_place : (a : ℕ) → a < n → sum_where n (λ i. eqb i a) f ≡ f a
    unfolding delta
    where_place a l =
        sum_place K (additive K L) n (λ i. delta K i a (f i)) a l (λ i m d. delta_other K i a (f i) d) ∙ delta_same K a a (f a) refl

    -- the places that pass exactly one of two tests
    pub where_xor : (s t : ℕ → Bool) → sum_where n (λ i. xor (s i) (t i)) f ≡ K.plus (sum_where n s f) (sum_where n t f)
    unfolding xor
    where_xor s t = sum_cong K n _ _ (λ i l. both (s i) (t i) (f i)) ∙ sum_plus K (additive K L) n _ _
      where
        both : (a b : Bool) (v : K.Element) → cond (xor a b) v K.null ≡ K.plus (cond a v K.null) (cond b v K.null)
        both true true v = sym (L.plus_self v)
        both true false v = sym (L.plus_null v)
        both false true v = sym (null_plus K L v)
        both false false v = sym (L.plus_null K.null)

-- i is one of the places a, b, c and d, an odd number of times where some of these are equal
unfoldable pub odd_of : ℕ → ℕ → ℕ → ℕ → ℕ → Bool
odd_of a b c d i = xor (xor (xor (eqb i a) (eqb i b)) (eqb i c)) (eqb i d)

-- the sum over four places
pub where_four : (K : Operations) (L : Field K) (n : ℕ) (f : ℕ → K.Element) (a b c d : ℕ) → a < n → b < n → c < n → d < n
    → sum_where K n (odd_of a b c d) f ≡ K.plus (K.plus (K.plus (f a) (f b)) (f c)) (f d)
unfolding odd_of
where_four K L n f a b c d la lb lc ld =
    where_xor K L n f _ (λ i. eqb i d)
    ∙ ap₂ K.plus
    (where_xor K L n f _ (λ i. eqb i c)
    ∙ ap₂ K.plus (where_xor K L n f _ (λ i. eqb i b) ∙ ap₂ K.plus (where_place K L n f a la) (where_place K L n f b lb)) (where_place K L n f c lc))
    (where_place K L n f d ld)

-- ---- cosets

-- a set of places below 2 ^ k that is closed under exclusive or, given by its test
pub record Subspace (k : ℕ) (u : ℕ → Bool) : Type 0 where
  pub origin : u 0 ≡ true
  pub closed : (t c : ℕ) → t < 2 ^ k → c < 2 ^ k → u t ≡ true → u (bit_xor c t) ≡ u c

-- where a test passes and where it does not are all places
where_all : (n : ℕ) (v : ℕ → Bool) → sum Naturals n (λ i. cond (v i) 1 0) + sum Naturals n (λ i. one_unless (v i)) ≡ n
where_all n v = sym (sum_plus Naturals naturals n _ _) ∙ sum_cong Naturals n _ (λ i. 1) (λ i l. one (v i)) ∙ sum_ones n
  where
    one : (t : Bool) → cond t 1 0 + one_unless t ≡ 1
    one true = refl
    one false = refl

module _ (K : Operations) (L : Field K) (k : ℕ) (row : List K.Element) where
  module _ (u : ℕ → Bool) (s : Subspace k u) where
    -- the input that is 1 at the places of the subspace and 0 elsewhere
    flat : List K.Element
    flat = tabulate (2 ^ k) (λ j. cond (u j) K.one K.null)

    -- its weight: the number of places of the coset of any place a
    weight_flat : (a : ℕ) → a < 2 ^ k → weight K flat ≡ sum Naturals (2 ^ k) (λ i. cond (u (bit_xor i a)) 1 0)
    unfolding flat
    weight_flat a l =
        weight_tabulate K (2 ^ k) _
        ∙ sum_cong Naturals (2 ^ k) _ _ (λ i m. same (u i))
        ∙ sym (sum_permuted Naturals naturals (2 ^ k) _ _ (xor_own k a l) (λ i. cond (u i) 1 0))
      where
        same : (t : Bool) → counts K (cond t K.one K.null) ≡ cond t 1 0
        same true = rw L.one_not_null
        same false = rw L.null_is

    -- word i of the product: the sum of the row over the coset of i
    word_flat : (i : ℕ) → i < 2 ^ k
        → get_or (apply K (2 ^ k) (hadamard K row) flat) i K.null ≡ sum_where K (2 ^ k) (λ j. u (bit_xor j i)) (λ j. get_or row j K.null)
    unfolding flat hadamard
    word_flat i l =
        get_d_apply K (2 ^ k) (hadamard K row) flat i l
        ∙ sum_cong K (2 ^ k) _ (λ j. cond (u (bit_xor (bit_xor j i) i)) (get_or row (bit_xor j i) K.null) K.null)
        (λ j m. rw (get_d_tabulate (2 ^ k) (λ j. cond (u j) K.one K.null) j K.null m, xor_xor j i, xor_comm i j) (part (get_or row (bit_xor j i) K.null) (u j)))
        ∙ sum_permuted K (additive K L) (2 ^ k) _ _ (xor_own k i l) (λ j. cond (u (bit_xor j i)) (get_or row j K.null) K.null)
      where
        part : (v : K.Element) (t : Bool) → K.times v (cond t K.one K.null) ≡ cond t v K.null
        part v true = L.times_one v
        part v false = times_null K L v

    -- the coset of i is that of a, where i is in it
    same_coset : (a i j : ℕ) → a < 2 ^ k → i < 2 ^ k → j < 2 ^ k → u (bit_xor i a) ≡ true → u (bit_xor j i) ≡ u (bit_xor j a)
    same_coset a i j la li lj t =
        ap u (sym (xor_between j a i) ∙ ap (bit_xor (bit_xor j a)) (xor_comm a i)) ∙ s.closed (bit_xor i a) (bit_xor j a) (xor_lt k i a li la) (xor_lt k j a lj la) t

    module _ (elements : List K.Element) (complete : (a : K.Element) → Memᴰ a elements) where
      -- a row whose sum over the coset of a is 0: the words of the product are 0 there, and the input has as many words that are not 0
      pub coset_not_mds : (a : ℕ) → a < 2 ^ k → sum_where K (2 ^ k) (λ i. u (bit_xor i a)) (λ i. get_or row i K.null) ≡ K.null
          → is_mds K elements (2 ^ k) (hadamard K row) ≡ false
      unfolding activity flat
      coset_not_mds a l z =
          light_not_mds K L elements complete (2 ^ k) (hadamard K row) flat (length_tabulate (2 ^ k) _)
          (weight_one K L flat 0 (get_d_tabulate (2 ^ k) _ 0 K.null (pow_pos k) ∙ rw s.origin))
          (omega (arith, weight_flat a l, weight_sum K (2 ^ k) image (length_apply K (2 ^ k) (hadamard K row) flat), most, where_all (2 ^ k) (λ i. u (bit_xor i a))))
        where
          image : List K.Element
          image = apply K (2 ^ k) (hadamard K row) flat

          at : (i : ℕ) → i < 2 ^ k → (t : Bool) → u (bit_xor i a) ≡ t → counts K (get_or image i K.null) ≤ one_unless t
          at i m true e =
              rw (word_flat i m ∙ where_cong K (2 ^ k) _ _ _ (λ j h. same_coset a i j l m h e) ∙ z, L.null_is) zero-le
          at i m false e = one_unless_le (K.is_null (get_or image i K.null))

          most : sum Naturals (2 ^ k) (λ i. counts K (get_or image i K.null)) ≤ sum Naturals (2 ^ k) (λ i. one_unless (u (bit_xor i a)))
          most = sum_le (2 ^ k) _ _ (λ i m. at i m (u (bit_xor i a)) refl)

-- ---- inputs of two words

module _ (K : Operations) (L : Field K) (n : ℕ) (a b : ℕ) (v w : K.Element) where
  -- v at place a, w at place b, and 0 elsewhere
  pair : List K.Element
  pair = tabulate n (λ j. K.plus (delta K j a v) (delta K j b w))

  -- at most two words are not 0
  weight_pair : a < n → b < n → weight K pair ≤ 2
  unfolding pair
  weight_pair l m =
      omega (
        arith,
        weight_tabulate K n (λ j. K.plus (delta K j a v) (delta K j b w)),
        sum_le n _ (λ j. delta Naturals j a 1 + delta Naturals j b 1) (λ j h. at j),
        sum_plus Naturals naturals n (λ j. delta Naturals j a 1) (λ j. delta Naturals j b 1),
        sum_delta Naturals naturals n a 1 l,
        sum_delta Naturals naturals n b 1 m,
      )
    where
      at : (j : ℕ) → counts K (K.plus (delta K j a v) (delta K j b w)) ≤ delta Naturals j a 1 + delta Naturals j b 1
      at j =
          let most : counts K (K.plus (delta K j a v) (delta K j b w)) ≤ 1 = one_unless_le (K.is_null (K.plus (delta K j a v) (delta K j b w))) in
          elim (ℕ_discrete j a) [
            | yes e ↦ omega (arith, delta_same Naturals j a 1 e)
            | no d ↦
                elim (ℕ_discrete j b) [
                  | yes e ↦ omega (arith, delta_same Naturals j b 1 e)
                  | no c ↦ rw (delta_other K j a v d, delta_other K j b w c, L.plus_null K.null, L.null_is) zero-le
                ]
          ]

  -- word i of the product
  word_pair : (f : ℕ → ℕ → K.Element) → a < n → b < n → (i : ℕ) → i < n
      → get_or (apply K n f pair) i K.null ≡ K.plus (K.times (f i a) v) (K.times (f i b) w)
  unfolding pair
  word_pair f l m i h =
      get_d_apply K n f pair i h
      ∙ sum_cong K n _ _ (λ j t. ap (K.times (f i j)) (get_d_tabulate n _ j K.null t) ∙ L.times_plus (f i j) (delta K j a v) (delta K j b w))
      ∙ sum_plus K (additive K L) n _ _
      ∙ ap₂ K.plus (one a v l) (one b w m)
    where
      one : (c : ℕ) (x : K.Element) → c < n → sum K n (λ j. K.times (f i j) (delta K j c x)) ≡ K.times (f i c) x
      one c x t =
          sum_place K (additive K L) n (λ j. K.times (f i j) (delta K j c x)) c t (λ j q d. rw (delta_other K j c x d) (times_null K L (f i j)))
          ∙ ap (K.times (f i c)) (delta_same K c c x refl)

  -- word a of the input
  first_pair : a < n → a ≢ b → get_or pair a K.null ≡ v
  unfolding pair
  first_pair l d =
      get_d_tabulate n _ a K.null l ∙ ap₂ K.plus (delta_same K a a v refl) (delta_other K a b w d) ∙ L.plus_null v

-- ---- blocks of two lines and two columns

-- equal products across: the block is singular, and a kernel of it is an input that is too light
pub two_by_two_not_mds : (K : Operations) (L : Field K) (elements : List K.Element) (complete : (a : K.Element) → Memᴰ a elements) (n : ℕ) (f : ℕ → ℕ → K.Element)
    (i1 i2 j1 j2 : ℕ) → i1 < n → i2 < n → j1 < n → j2 < n → i1 ≢ i2 → j1 ≢ j2
    → K.times (f i1 j1) (f i2 j2) ≡ K.times (f i1 j2) (f i2 j1) → is_mds K elements n f ≡ false
unfolding activity pair
two_by_two_not_mds K L elements complete n f i1 i2 j1 j2 li1 li2 lj1 lj2 lines columns e = decide (K.is_null (f i1 j2)) refl
  where
    x : List K.Element
    x = pair K L n j1 j2 (f i1 j2) (f i1 j1)

    image : List K.Element
    image = apply K n f x

    -- line i1
    upper : get_or image i1 K.null ≡ K.null
    upper =
        word_pair K L n j1 j2 (f i1 j2) (f i1 j1) f lj1 lj2 i1 li1
        ∙ ap (K.plus (K.times (f i1 j1) (f i1 j2))) (L.times_comm (f i1 j2) (f i1 j1))
        ∙ L.plus_self (K.times (f i1 j1) (f i1 j2))

    -- line i2
    lower : get_or image i2 K.null ≡ K.null
    lower =
        word_pair K L n j1 j2 (f i1 j2) (f i1 j1) f lj1 lj2 i2 li2
        ∙ ap₂ K.plus (L.times_comm (f i2 j1) (f i1 j2) ∙ sym e) (L.times_comm (f i2 j2) (f i1 j1))
        ∙ L.plus_self (K.times (f i1 j1) (f i2 j2))

    input : K.is_null (f i1 j2) ≡ false → 0 < weight K x
    input z =
        ⊎_elim
        (λ q. absurd (null_not K L (f i1 j2) z (sym (first_pair K L n j1 j2 (f i1 j2) (f i1 j1) lj1 columns) ∙ weight_zero K L x q j1)))
        (λ q. q) (eq-zero-or-pos (weight K x))

    decide : (t : Bool) → K.is_null (f i1 j2) ≡ t → is_mds K elements n f ≡ false
    decide true z = null_entry_not_mds K L elements complete n f i1 j2 li1 lj2 (L.is_null_holds (f i1 j2) z)
    decide false z =
        light_not_mds K L elements complete n f x (length_tabulate n _) (input z)
        (omega (
          arith,
          weight_pair K L n j1 j2 (f i1 j2) (f i1 j1) lj1 lj2,
          weight_nulls K (null_laws K L) n image (length_apply K n f x) i1 i2 li1 li2 lines upper lower,
        ))

-- ---- products of two entries

module _ (K : Operations) (L : Field K) (k : ℕ) (row : List K.Element) (elements : List K.Element) (complete : (a : K.Element) → Memᴰ a elements) where
  -- equal products of the entries at a and b and at c and d, whose exclusive or is 0: in the block of the lines 0 and a + c and the columns a and d
  -- the products across are equal
  pub products_not_mds : (a b c d : ℕ) → a < 2 ^ k → b < 2 ^ k → c < 2 ^ k → d < 2 ^ k → a ≢ c → a ≢ d → bit_xor (bit_xor a b) c ≡ d
      → K.times (get_or row a K.null) (get_or row b K.null) ≡ K.times (get_or row c K.null) (get_or row d K.null)
      → is_mds K elements (2 ^ k) (hadamard K row) ≡ false
  unfolding hadamard
  products_not_mds a b c d la lb lc ld ac ad plane e =
      two_by_two_not_mds K L elements complete (2 ^ k) (hadamard K row) 0 (bit_xor a c) a d (pow_pos k) (xor_lt k a c la lc) la ld
      (λ q. ac (xor_zero a c (sym q))) ad
      (ap₂ (λ (i j : ℕ). K.times (h i) (h j)) (xor_zero_l a) across
      ∙ e ∙ L.times_comm (h c) (h d)
      ∙ sym (ap₂ (λ (i j : ℕ). K.times (h i) (h j)) (xor_zero_l d) (ap (λ (i : ℕ). bit_xor i a) (xor_comm a c) ∙ xor_xor c a)))
    where
      h : ℕ → K.Element
      h i = get_or row i K.null

      across : bit_xor (bit_xor a c) d ≡ b
      across =
          ap (bit_xor (bit_xor a c)) (sym plane ∙ xor_comm (bit_xor a b) c) ∙ xor_between a c (bit_xor a b)
          ∙ ap (bit_xor a) (xor_comm a b) ∙ xor_comm a (bit_xor b a) ∙ xor_xor b a

  -- equal entries at two places, by their squares
  pub equal_not_mds : (a b : ℕ) → a < 2 ^ k → b < 2 ^ k → a ≢ b → get_or row a K.null ≡ get_or row b K.null → is_mds K elements (2 ^ k) (hadamard K row) ≡ false
  equal_not_mds a b l m d e =
      products_not_mds a a b b l l m m d d (ap (λ (z : ℕ). bit_xor z b) (xor_self a) ∙ xor_zero_l b) (ap₂ K.times e e)

-- ---- different products

-- equal squares are of equal elements
square_injective : (K : Operations) (L : Field K) (a b : K.Element) → K.times a a ≡ K.times b b → a ≡ b
square_injective K L a b e =
    equal_of_sum K L a b (square_null K L (K.plus a b) (square_plus K L a b ∙ ap (λ c. K.plus c (K.times b b)) e ∙ L.plus_self (K.times b b)))

-- what holds of any two numbers in order, and of any two the other way round, holds of any two that differ
ordered : (P : Type 0) (a b : ℕ) → a ≢ b → (a < b → P) → (b < a → P) → P
ordered P a b d f g = ⊎_elim (λ (l : a ≤ b). f (omega arith)) g (le_or_lt a b)

-- the products of the entries at two pairs of places of a plane below n differ, where d is the largest of the four places
abbrev pub ProductsDiffer : (K : Operations) → ℕ → (ℕ → K.Element) → Type 0
ProductsDiffer K n h =
    (a b d : ℕ) → a < b → b < d → d < n → bit_xor (bit_xor a b) d < d → K.times (h a) (h b) ≡ K.times (h (bit_xor (bit_xor a b) d)) (h d) → ⊥

module _ (K : Operations) (L : Field K) (n : ℕ) (h : ℕ → K.Element) (different : (i j : ℕ) → i < n → j < n → h i ≡ h j → i ≡ j) (apart : ProductsDiffer K n h) where
  -- the pairs in order
  in_order : (a b c d : ℕ) → a < b → c < d → b < n → d < n → bit_xor a b ≡ bit_xor c d → b ≢ d → K.times (h a) (h b) ≡ K.times (h c) (h d) → ⊥
  in_order a b c d ab cd lb ld plane bd e =
      ordered ⊥ b d bd
      (λ (l : b < d). let c-is : bit_xor (bit_xor a b) d ≡ c = ap (λ (x : ℕ). bit_xor x d) plane ∙ xor_xor c d in apart a b d ab l ld (rw c-is cd) (rw c-is e))
      (λ (l : d < b). let a-is : bit_xor (bit_xor c d) b ≡ a = ap (λ (x : ℕ). bit_xor x b) (sym plane) ∙ xor_xor a b in apart c d b cd l lb (rw a-is ab) (rw a-is (sym e)))

  -- in any order: two pairs of places with the same exclusive or
  pub products_apart : (a b c d : ℕ) → a < n → b < n → c < n → d < n → bit_xor a b ≡ bit_xor c d → a ≢ c → a ≢ d
      → K.times (h a) (h b) ≡ K.times (h c) (h d) → ⊥
  products_apart a b c d la lb lc ld plane ac ad e =
      elim (ℕ_discrete a b) [
        | yes q ↦ squares q
        | no ab ↦ ordered ⊥ a b ab (λ (l : a < b). second a b l lb plane bc bd e) (λ (l : b < a). second b a l la (xor_comm b a ∙ plane) ac ad (L.times_comm (h b) (h a) ∙ e))
      ]
    where
      bd : b ≢ d
      bd q = ac (sym (xor_xor a b) ∙ ap₂ bit_xor plane q ∙ xor_xor c d)

      bc : b ≢ c
      bc q = ad (sym (xor_xor a b) ∙ ap₂ bit_xor (plane ∙ xor_comm c d) q ∙ xor_xor d c)

      -- equal places: the other two are equal, and so are the squares
      squares : a ≡ b → ⊥
      squares q =
          let r : c ≡ d = xor_zero c d (sym plane ∙ ap (bit_xor a) (sym q) ∙ xor_self a) in
          ac (different a c la lc (square_injective K L (h a) (h c) (ap (λ (i : ℕ). K.times (h a) (h i)) q ∙ e ∙ ap (λ (i : ℕ). K.times (h c) (h i)) (sym r))))

      -- the first pair is in order
      second : (s t : ℕ) → s < t → t < n → bit_xor s t ≡ bit_xor c d → t ≢ c → t ≢ d → K.times (h s) (h t) ≡ K.times (h c) (h d) → ⊥
      second s t st lt same tc td f =
          let cd : c ≢ d = λ q. omega (arith, xor_zero s t (same ∙ ap (bit_xor c) (sym q) ∙ xor_self c)) in
          ordered ⊥ c d cd (λ (l : c < d). in_order s t c d st l lt ld same td f)
          (λ (l : d < c). in_order s t d c st l lt lc (same ∙ xor_comm c d) tc (f ∙ L.times_comm (h c) (h d)))

-- ---- small determinants, where 0 is neutral and 1 is neutral to the entries of the last line

module _ (K : Operations) (neutral : (a : K.Element) → K.plus K.null a ≡ a) (f : ℕ → ℕ → K.Element) where
  -- of size 1: the entry
  pub det_one : K.times (f 0 0) K.one ≡ f 0 0 → det K 1 f ≡ f 0 0
  unfolding det sum
  det_one e = neutral (K.times (f 0 0) K.one) ∙ e

  -- of size 2: the sum of the two products
  pub det_two : K.times (f 1 0) K.one ≡ f 1 0 → K.times (f 1 1) K.one ≡ f 1 1
      → det K 2 f ≡ K.plus (K.times (f 0 0) (f 1 1)) (K.times (f 0 1) (f 1 0))
  unfolding det sum without skip
  det_two e d =
      ap₂ K.plus
      (neutral _ ∙ ap (K.times (f 0 0)) (neutral (K.times (f 1 1) K.one) ∙ d))
      (ap (K.times (f 0 1)) (neutral (K.times (f 1 0) K.one) ∙ e))
