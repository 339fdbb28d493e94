-- A map that keeps the operations keeps determinant, product, weight, branch number and involution. With the identity as the
-- map, all these depend on the entries of the lines and columns below the order alone.
-- Assumes nothing.
use mathlib.Core.Path.{◌≡◌, refl, sym, ap, ap₂, ◌∙◌}
use mathlib.Core.Bool.{Bool, ◌&&◌, ◌||◌}
use mathlib.Core.List.{List, [], ◌∷◌, ◌++◌, map, map-append, map-id}
use Prim.Native.Nat.{ℕ, zero, suc, ◌+◌, ◌<◌, suc-le-suc}
use native.Mathlib.Nat.{le_trans, le_refl, le-suc, not-suc-le-zero, zero-lt-suc, le_of_suc-le-suc}
use lib.Bits.{bit_xor}
use lib.Dec.{eqb, ltb}
use lib.ListN.{get_or, get_or-map}
use Rattle.algebra.specs.Operations.{Operations}
use Rattle.algebra.specs.Matrix.{tabulate, before, words, sum, apply, apply_to, hadamard, skip, without, det, weight, activity, least_activity, branch_number, is_mds, same_words, gives_back, is_involution, some_to_zero, has_kernel}
use Rattle.algebra.proofs.Words.{one_unless}
use Rattle.algebra.proofs.Words.{tabulate_cong}

-- h keeps the operations
pub record Homomorphism (K M : Operations) (h : K.Element → M.Element) : Type 0 where
  pub keeps_null : h K.null ≡ M.null
  pub keeps_one : h K.one ≡ M.one
  pub keeps_plus : (a b : K.Element) → h (K.plus a b) ≡ M.plus (h a) (h b)
  pub keeps_times : (a b : K.Element) → h (K.times a b) ≡ M.times (h a) (h b)
  pub keeps_is_null : (a : K.Element) → M.is_null (h a) ≡ K.is_null a

-- ---- lists

module _ {A B : Type 0} (h : A → B) where
  -- a mapped list that is given by a function
  pub map_tabulate : (n : ℕ) (f : ℕ → A) → map h (tabulate n f) ≡ tabulate n (λ i. h (f i))
  unfolding tabulate
  map_tabulate zero f = refl
  map_tabulate (suc n) f = ap (λ r. h (f 0) ∷ r) (map_tabulate n (λ i. f (suc i)))

  map_begin : (a : A) (ws : List (List A)) → map (map h) (map (λ w. a ∷ w) ws) ≡ map (λ w. h a ∷ w) (map (map h) ws)
  map_begin a [] = refl
  map_begin a (w ∷ ws) = ap (λ r. (h a ∷ map h w) ∷ r) (map_begin a ws)

  map_before : (letters : List A) (ws : List (List A)) → map (map h) (before letters ws) ≡ before (map h letters) (map (map h) ws)
  unfolding before
  map_before [] ws = refl
  map_before (a ∷ letters) ws =
      map-append (map h) (map (λ w. a ∷ w) ws) (before letters ws) ∙ ap₂ ◌++◌ (map_begin a ws) (map_before letters ws)

  -- the words over mapped letters
  pub map_words : (letters : List A) (n : ℕ) → map (map h) (words letters n) ≡ words (map h letters) n
  unfolding words
  map_words letters zero = refl
  map_words letters (suc n) = map_before letters (words letters n) ∙ ap (before (map h letters)) (map_words letters n)

-- the columns left are columns of the matrix
pub skip_lt : (j k n : ℕ) → k < n → skip j k < suc n
unfolding skip
skip_lt zero k n l = suc-le-suc l
skip_lt (suc j) zero n l = zero-lt-suc n
skip_lt (suc j) (suc k) zero l = absurd (not-suc-le-zero l)
skip_lt (suc j) (suc k) (suc n) l = suc-le-suc (skip_lt j k n (le_of_suc-le-suc l))

-- ---- matrices

module _ (K M : Operations) (h : K.Element → M.Element) (H : Homomorphism K M h) where
  -- sums are kept
  pub sum_bridge : (n : ℕ) (f : ℕ → K.Element) (g : ℕ → M.Element) → ((i : ℕ) → i < n → h (f i) ≡ g i) → h (sum K n f) ≡ sum M n g
  unfolding sum
  sum_bridge zero f g e = H.keeps_null
  sum_bridge (suc n) f g e =
      H.keeps_plus (sum K n f) (f n)
      ∙ ap₂ M.plus (sum_bridge n f g (λ i l. e i (le_trans l (le-suc n)))) (e n (le_refl (suc n)))

  get_d_bridge : (x : List K.Element) (j : ℕ) → h (get_or x j K.null) ≡ get_or (map h x) j M.null
  get_d_bridge x j = sym (get_or-map h x j K.null) ∙ ap (get_or (map h x) j) H.keeps_null

  -- determinants are kept
  pub det_bridge : (n : ℕ) (f : ℕ → ℕ → K.Element) (g : ℕ → ℕ → M.Element) → ((i j : ℕ) → i < n → j < n → h (f i j) ≡ g i j)
      → h (det K n f) ≡ det M n g
  unfolding det without
  det_bridge zero f g e = H.keeps_one
  det_bridge (suc n) f g e =
      let minors : (j : ℕ) → h (det K n (without f j)) ≡ det M n (without g j) =
      λ j. det_bridge n (without f j) (without g j) (λ i k l m. e (suc i) (skip j k) (suc-le-suc l) (skip_lt j k n m)) in
      sum_bridge (suc n) _ _ (λ j l. H.keeps_times (f 0 j) (det K n (without f j)) ∙ ap₂ M.times (e 0 j (zero-lt-suc n) l) (minors j))

  -- weights are kept
  pub weight_bridge : (x : List K.Element) → weight M (map h x) ≡ weight K x
  unfolding weight
  weight_bridge [] = refl
  weight_bridge (a ∷ x) = ap₂ (λ (t : Bool) (w : ℕ). one_unless t + w) (H.keeps_is_null a) (weight_bridge x)

  -- the test for the same words is kept
  pub same_bridge : (x y : List K.Element) → same_words M (map h x) (map h y) ≡ same_words K x y
  unfolding same_words
  same_bridge [] [] = refl
  same_bridge [] (b ∷ y) = refl
  same_bridge (a ∷ x) [] = refl
  same_bridge (a ∷ x) (b ∷ y) = ap₂ ◌&&◌ (ap M.is_null (sym (H.keeps_plus a b)) ∙ H.keeps_is_null (K.plus a b)) (same_bridge x y)

  -- the matrix of a mapped row
  pub hadamard_bridge : (row : List K.Element) (i j : ℕ) → h (hadamard K row i j) ≡ hadamard M (map h row) i j
  unfolding hadamard
  hadamard_bridge row i j = get_d_bridge row (bit_xor i j)

  module _ (c r : ℕ) (f : ℕ → ℕ → K.Element) (g : ℕ → ℕ → M.Element) (e : (i j : ℕ) → i < r → j < c → h (f i j) ≡ g i j) where
    -- products of r lines of c entries are kept
    lines_bridge : (x : List K.Element) → map h (apply_to K r c f x) ≡ apply_to M r c g (map h x)
    lines_bridge x =
        map_tabulate h r _
        ∙ tabulate_cong r _ _ (λ i l. sum_bridge c _ _ (λ j m. H.keeps_times (f i j) (get_or x j K.null) ∙ ap₂ M.times (e i j l m) (get_d_bridge x j)))

    some_bridge : (xs : List (List K.Element)) → some_to_zero M c r g (map (map h) xs) ≡ some_to_zero K c r f xs
    unfolding some_to_zero
    some_bridge [] = refl
    some_bridge (x ∷ xs) =
        ap₂ ◌||◌ (ap₂ (λ (v w : ℕ). ltb 0 v && eqb w 0) (weight_bridge x) (ap (weight M) (sym (lines_bridge x)) ∙ weight_bridge (apply_to K r c f x)))
        (some_bridge xs)

    -- kernels are kept
    pub has_kernel_bridge : (elements : List K.Element) → has_kernel M (map h elements) c r g ≡ has_kernel K elements c r f
    unfolding has_kernel
    has_kernel_bridge elements = ap (some_to_zero M c r g) (sym (map_words h elements c)) ∙ some_bridge (words elements c)

  module _ (n : ℕ) (f : ℕ → ℕ → K.Element) (g : ℕ → ℕ → M.Element) (e : (i j : ℕ) → i < n → j < n → h (f i j) ≡ g i j) where
    -- products are kept
    pub apply_bridge : (x : List K.Element) → map h (apply K n f x) ≡ apply M n g (map h x)
    unfolding apply
    apply_bridge = lines_bridge n n f g e

    -- activities are kept
    pub activity_bridge : (x : List K.Element) → activity M n g (map h x) ≡ activity K n f x
    unfolding activity
    activity_bridge x = ap₂ ◌+◌ (weight_bridge x) (ap (weight M) (sym (apply_bridge x)) ∙ weight_bridge (apply K n f x))

    least_bridge : (xs : List (List K.Element)) → least_activity M n g (map (map h) xs) ≡ least_activity K n f xs
    unfolding least_activity
    least_bridge [] = refl
    least_bridge (x ∷ xs) = rw (weight_bridge x, activity_bridge x, least_bridge xs)

    gives_bridge : (xs : List (List K.Element)) → gives_back M n g (map (map h) xs) ≡ gives_back K n f xs
    unfolding gives_back
    gives_bridge [] = refl
    gives_bridge (x ∷ xs) = rw (← apply_bridge x, ← apply_bridge (apply K n f x), same_bridge (apply K n f (apply K n f x)) x, gives_bridge xs)

    -- the branch number is kept
    pub branch_bridge : (elements : List K.Element) → branch_number M (map h elements) n g ≡ branch_number K elements n f
    unfolding branch_number
    branch_bridge elements = ap (least_activity M n g) (sym (map_words h elements n)) ∙ least_bridge (words elements n)

    -- MDS is kept
    pub mds_bridge : (elements : List K.Element) → is_mds M (map h elements) n g ≡ is_mds K elements n f
    unfolding is_mds
    mds_bridge elements = ap (λ (b : ℕ). eqb b (suc n)) (branch_bridge elements)

    -- involutions are kept
    pub involution_bridge : (elements : List K.Element) → is_involution M (map h elements) n g ≡ is_involution K elements n f
    unfolding is_involution
    involution_bridge elements = ap (gives_back M n g) (sym (map_words h elements n)) ∙ gives_bridge (words elements n)

-- ---- only the entries below the order count

-- the identity keeps the operations
pub identity_keeps : (K : Operations) → Homomorphism K K (λ a. a)
identity_keeps K =
    record { keeps_null = refl; keeps_one = refl; keeps_plus = λ a b. refl; keeps_times = λ a b. refl; keeps_is_null = λ a. refl }

-- the kernel
pub has_kernel_cong : (K : Operations) (elements : List K.Element) (c r : ℕ) (f g : ℕ → ℕ → K.Element)
    → ((i j : ℕ) → i < r → j < c → f i j ≡ g i j) → has_kernel K elements c r f ≡ has_kernel K elements c r g
has_kernel_cong K elements c r f g e =
    sym (has_kernel_bridge K K (λ a. a) (identity_keeps K) c r f g e elements) ∙ ap (λ l. has_kernel K l c r g) (map-id elements)

module _ (K : Operations) (n : ℕ) (f g : ℕ → ℕ → K.Element) (e : (i j : ℕ) → i < n → j < n → f i j ≡ g i j) where
  -- the determinant
  pub det_cong : det K n f ≡ det K n g
  det_cong = det_bridge K K (λ a. a) (identity_keeps K) n f g e

  -- the product
  pub apply_cong : (x : List K.Element) → apply K n f x ≡ apply K n g x
  apply_cong x = sym (map-id (apply K n f x)) ∙ apply_bridge K K (λ a. a) (identity_keeps K) n f g e x ∙ ap (apply K n g) (map-id x)

  -- the activity
  pub activity_cong : (x : List K.Element) → activity K n f x ≡ activity K n g x
  activity_cong x = sym (activity_bridge K K (λ a. a) (identity_keeps K) n f g e x) ∙ ap (activity K n g) (map-id x)

  module _ (elements : List K.Element) where
    -- the branch number
    pub branch_cong : branch_number K elements n f ≡ branch_number K elements n g
    branch_cong =
        sym (branch_bridge K K (λ a. a) (identity_keeps K) n f g e elements) ∙ ap (λ l. branch_number K l n g) (map-id elements)

    -- MDS
    pub mds_cong : is_mds K elements n f ≡ is_mds K elements n g
    mds_cong = sym (mds_bridge K K (λ a. a) (identity_keeps K) n f g e elements) ∙ ap (λ l. is_mds K l n g) (map-id elements)

    -- involution
    pub involution_cong : is_involution K elements n f ≡ is_involution K elements n g
    involution_cong =
        sym (involution_bridge K K (λ a. a) (identity_keeps K) n f g e elements) ∙ ap (λ l. is_involution K l n g) (map-id elements)
