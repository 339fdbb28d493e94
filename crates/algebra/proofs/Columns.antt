-- The determinant as a function of the list of columns: linear in each, null at two equal neighbours, the same after a swap.
-- A column is the function that gives its entry in each line; `expand` goes along line 0.
use mathlib.Core.Path.{◌≡◌, refl, sym, ap, ap₂, ◌∙◌, fun_ext}
use mathlib.Core.Bool.{Bool, true, false}
use mathlib.Core.Logic.{◌⊎◌, inl, inr}
use mathlib.Core.List.{List, [], ◌∷◌, ◌++◌, map, map-append}
use Prim.Native.Nat.{ℕ, zero, suc}
use native.Mathlib.Nat.{suc_inj, suc-ne-zero}
use native.Mathlib.Omega.{arith}
use lib.ListN.{length, get_or}
use Rattle.algebra.specs.Operations.{Operations}
use Rattle.algebra.proofs.FieldLaws.{Field}
use Rattle.algebra.specs.Matrix.{tabulate, sum, weight, skip, without, det}
use Rattle.algebra.proofs.Laws.{ring, sums, plus_comm, plus_null, plus_left_comm, times_comm, twice, join_left, join_right, is_null_times}
use Rattle.algebra.proofs.Rectangles.{dot}
use Rattle.algebra.proofs.Sums.{additive, sum_first}

-- the list of the columns
abbrev pub Columns : Operations → Type 0
Columns K = List (ℕ → K.Element)

-- a column without line 0
abbrev pub tail : {A : Type 0} → (ℕ → A) → ℕ → A
tail c i = c (suc i)

module _ (K : Operations) where
  infixl 70 ◌⊕◌
  infixl 75 ◌⊗◌
  open K use {Element as E, null, one, plus as ◌⊕◌, times as ◌⊗◌}

  -- along line 0: each column's entry times F of the other columns, all without line 0
  abbrev pub expand : (Columns K → E) → Columns K → E
  expand F [] = null
  expand F (c ∷ cs) = c 0 ⊗ F (map tail cs) ⊕ expand (λ l. F (tail c ∷ l)) cs

  -- the determinant of n columns
  abbrev pub det_of : ℕ → Columns K → E
  det_of zero [] = one
  det_of zero (c ∷ cs) = null
  det_of (suc n) cs = expand (det_of n) cs

  -- the column u cleared in line 0 by v
  abbrev pub minor : (ℕ → E) → (ℕ → E) → ℕ → E
  minor v u i = v 0 ⊗ u i ⊕ u 0 ⊗ v i

  -- the columns cleared by v, without line 0
  abbrev pub minors : (ℕ → E) → Columns K → Columns K
  minors v us = map tail (map (minor v) us)

  -- entry j of line i
  abbrev pub line : Columns K → ℕ → ℕ → E
  line cs i j = get_or cs j (λ k. null) i

-- the second list with the item taken out is the first
pub data Inserted {A : Type 0} (v : A) : List A → List A → Type 0 where
  here : {us : List A} → Inserted v us (v ∷ us)
  there : {u : A} {us cs : List A} → Inserted v us cs → Inserted v (u ∷ us) (u ∷ cs)

-- it is one item longer
pub length_inserted : {A : Type 0} {v : A} {us cs : List A} → Inserted v us cs → length cs ≡ suc (length us)
length_inserted here = refl
length_inserted (there i) = ap suc (length_inserted i)

-- a map of what is tabulated
map_tabulate : {A B : Type 0} (g : A → B) (n : ℕ) (h : ℕ → A) → map g (tabulate n h) ≡ tabulate n (λ i. g (h i))
unfolding tabulate
map_tabulate g zero h = refl
map_tabulate {B = B} g (suc n) h = ap {B = List B} (λ l. g (h 0) ∷ l) (map_tabulate g n (λ i. h (suc i)))

-- what makes a determinant
pub record Alternating (K : Operations) (F : Columns K → K.Element) : Type 0 where
  pub linear : (xs : Columns K) (a b : K.Element) (c d : ℕ → K.Element) (ys : Columns K)
      → F (xs ++ (λ i. K.plus (K.times a (c i)) (K.times b (d i))) ∷ ys) ≡ K.plus (K.times a (F (xs ++ c ∷ ys))) (K.times b (F (xs ++ d ∷ ys)))
  pub equal : (xs : Columns K) (c : ℕ → K.Element) (ys : Columns K) → F (xs ++ c ∷ c ∷ ys) ≡ K.null
  pub swap : (xs : Columns K) (c d : ℕ → K.Element) (ys : Columns K) → F (xs ++ c ∷ d ∷ ys) ≡ F (xs ++ d ∷ c ∷ ys)

module _ (K : Operations) (L : Field K) where
  infixl 70 ◌⊕◌
  infixl 75 ◌⊗◌
  open K use {Element as E, null, one, is_null, plus as ◌⊕◌, times as ◌⊗◌}

  -- the expansion is linear in F
  expand_linear : (a b : E) (F G : Columns K → E) (cs : Columns K)
      → expand K (λ l. a ⊗ F l ⊕ b ⊗ G l) cs ≡ a ⊗ expand K F cs ⊕ b ⊗ expand K G cs
  expand_linear a b F G [] = simp (ring, L)
  expand_linear a b F G (c ∷ cs) =
      ap (λ z. c 0 ⊗ (a ⊗ F (map tail cs) ⊕ b ⊗ G (map tail cs)) ⊕ z) (expand_linear a b (λ l. F (tail c ∷ l)) (λ l. G (tail c ∷ l)) cs)
      ∙ join_right K L a b (c 0) (F (map tail cs)) (G (map tail cs)) (expand K (λ l. F (tail c ∷ l)) cs) (expand K (λ l. G (tail c ∷ l)) cs)

  -- and null where F is
  expand_null : (F : Columns K → E) (cs : Columns K) → ((l : Columns K) → F l ≡ null) → expand K F cs ≡ null
  expand_null F [] h = refl
  expand_null F (c ∷ cs) h =
      ap₂ (λ y z. c 0 ⊗ y ⊕ z) (h (map tail cs)) (expand_null (λ l. F (tail c ∷ l)) cs (λ l. h (tail c ∷ l))) ∙ simp (ring, L)

  -- where line 0 is null, so is the expansion
  pub expand_heads : (F : Columns K → E) (cs : Columns K) → ((j : ℕ) → line K cs 0 j ≡ null) → expand K F cs ≡ null
  expand_heads F [] h = refl
  expand_heads F (c ∷ cs) h =
      ap₂ (λ y z. y ⊗ F (map tail cs) ⊕ z) (h 0) (expand_heads (λ l. F (tail c ∷ l)) cs (λ j. h (suc j))) ∙ simp (ring, L)

  -- with a first column fixed
  under : (F : Columns K → E) (c : ℕ → E) → Alternating K F → Alternating K (λ l. F (c ∷ l))
  under F c A = record { linear = λ xs. A.linear (c ∷ xs); equal = λ xs. A.equal (c ∷ xs); swap = λ xs. A.swap (c ∷ xs) }

  -- ---- each of the three carries over from F to its expansion

  expand_linear_in : (F : Columns K → E) → Alternating K F → (xs : Columns K) (a b : E) (c d : ℕ → E) (ys : Columns K)
      → expand K F (xs ++ (λ i. a ⊗ c i ⊕ b ⊗ d i) ∷ ys) ≡ a ⊗ expand K F (xs ++ c ∷ ys) ⊕ b ⊗ expand K F (xs ++ d ∷ ys)
  expand_linear_in F A [] a b c d ys =
      ap (λ G. (a ⊗ c 0 ⊕ b ⊗ d 0) ⊗ F (map tail ys) ⊕ expand K G ys) (fun_ext (A.linear [] a b (tail c) (tail d)))
      ∙ ap (λ z. (a ⊗ c 0 ⊕ b ⊗ d 0) ⊗ F (map tail ys) ⊕ z) (expand_linear a b (λ l. F (tail c ∷ l)) (λ l. F (tail d ∷ l)) ys)
      ∙ join_left K L a b (c 0) (d 0) (F (map tail ys)) (expand K (λ l. F (tail c ∷ l)) ys) (expand K (λ l. F (tail d ∷ l)) ys)
  expand_linear_in F A (x ∷ xs) a b c d ys =
      ap₂ (λ y z. x 0 ⊗ y ⊕ z)
      (ap F (map-append tail xs ((λ i. a ⊗ c i ⊕ b ⊗ d i) ∷ ys))
      ∙ A.linear (map tail xs) a b (tail c) (tail d) (map tail ys)
      ∙ ap₂ (λ p q. a ⊗ F p ⊕ b ⊗ F q) (sym (map-append tail xs (c ∷ ys))) (sym (map-append tail xs (d ∷ ys))))
      (expand_linear_in (λ l. F (tail x ∷ l)) (under F (tail x) A) xs a b c d ys)
      ∙ join_right K L a b (x 0) (F (map tail (xs ++ c ∷ ys))) (F (map tail (xs ++ d ∷ ys))) (expand K (λ l. F (tail x ∷ l)) (xs ++ c ∷ ys)) (expand K (λ l. F (tail x ∷ l)) (xs ++ d ∷ ys))

  expand_equal : (F : Columns K → E) → Alternating K F → (xs : Columns K) (c : ℕ → E) (ys : Columns K) → expand K F (xs ++ c ∷ c ∷ ys) ≡ null
  expand_equal F A [] c ys =
      ap (λ z. c 0 ⊗ F (tail c ∷ map tail ys) ⊕ (c 0 ⊗ F (tail c ∷ map tail ys) ⊕ z))
      (expand_null (λ l. F (tail c ∷ tail c ∷ l)) ys (λ l. A.equal [] (tail c) l))
      ∙ simp (sums, L)
  expand_equal F A (x ∷ xs) c ys =
      ap₂ (λ y z. x 0 ⊗ y ⊕ z)
      (ap F (map-append tail xs (c ∷ c ∷ ys)) ∙ A.equal (map tail xs) (tail c) (map tail ys))
      (expand_equal (λ l. F (tail x ∷ l)) (under F (tail x) A) xs c ys)
      ∙ simp (ring, L)

  expand_swap : (F : Columns K → E) → Alternating K F → (xs : Columns K) (c d : ℕ → E) (ys : Columns K)
      → expand K F (xs ++ c ∷ d ∷ ys) ≡ expand K F (xs ++ d ∷ c ∷ ys)
  expand_swap F A [] c d ys =
      plus_left_comm K L (c 0 ⊗ F (tail d ∷ map tail ys)) (d 0 ⊗ F (tail c ∷ map tail ys)) (expand K (λ l. F (tail c ∷ tail d ∷ l)) ys)
      ∙ ap (λ G. d 0 ⊗ F (tail c ∷ map tail ys) ⊕ (c 0 ⊗ F (tail d ∷ map tail ys) ⊕ expand K G ys)) (fun_ext (A.swap [] (tail c) (tail d)))
  expand_swap F A (x ∷ xs) c d ys =
      ap₂ (λ y z. x 0 ⊗ y ⊕ z)
      (ap F (map-append tail xs (c ∷ d ∷ ys)) ∙ A.swap (map tail xs) (tail c) (tail d) (map tail ys) ∙ ap F (sym (map-append tail xs (d ∷ c ∷ ys))))
      (expand_swap (λ l. F (tail x ∷ l)) (under F (tail x) A) xs c d ys)

  -- so every determinant is alternating
  pub det_alternating : (n : ℕ) → Alternating K (det_of K n)
  det_alternating zero = record { linear = λ xs a b c d ys. base xs a b c d ys; equal = base2; swap = base3 }
    where
      base : (xs : Columns K) (a b : E) (c d : ℕ → E) (ys : Columns K)
          → det_of K 0 (xs ++ (λ i. a ⊗ c i ⊕ b ⊗ d i) ∷ ys) ≡ a ⊗ det_of K 0 (xs ++ c ∷ ys) ⊕ b ⊗ det_of K 0 (xs ++ d ∷ ys)
      base [] a b c d ys = simp (ring, L)
      base (x ∷ xs) a b c d ys = simp (ring, L)

      base2 : (xs : Columns K) (c : ℕ → E) (ys : Columns K) → det_of K 0 (xs ++ c ∷ c ∷ ys) ≡ null
      base2 [] c ys = refl
      base2 (x ∷ xs) c ys = refl

      base3 : (xs : Columns K) (c d : ℕ → E) (ys : Columns K) → det_of K 0 (xs ++ c ∷ d ∷ ys) ≡ det_of K 0 (xs ++ d ∷ c ∷ ys)
      base3 [] c d ys = refl
      base3 (x ∷ xs) c d ys = refl
  det_alternating (suc n) =
      record {
        linear = expand_linear_in (det_of K n) (det_alternating n);
        equal = expand_equal (det_of K n) (det_alternating n);
        swap = expand_swap (det_of K n) (det_alternating n);
      }

  -- ---- the definition's determinant

  -- the expansion is the sum over the columns
  expand_sum : (n : ℕ) (F : Columns K → E) (h : ℕ → ℕ → E)
      → expand K F (tabulate (suc n) h) ≡ sum K (suc n) (λ j. h j 0 ⊗ F (tabulate n (λ k. tail (h (skip j k)))))
  unfolding sum tabulate skip
  expand_sum zero F h = plus_comm K L (h 0 0 ⊗ F []) null
  expand_sum (suc n) F h =
      ap₂ (λ l z. h 0 0 ⊗ F l ⊕ z) (map_tabulate tail (suc n) (λ j. h (suc j))) (expand_sum n (λ l. F (tail (h 0) ∷ l)) (λ j. h (suc j)))
      ∙ sym (sum_first K (additive K L) (suc n) (λ j. h j 0 ⊗ F (tabulate (suc n) (λ k. tail (h (skip j k))))))

  -- the definition's determinant is that of the list of its columns
  pub det_columns : (n : ℕ) (f : ℕ → ℕ → E) → det K n f ≡ det_of K n (tabulate n (λ j i. f i j))
  unfolding det tabulate without
  det_columns zero f = refl
  det_columns (suc n) f =
      ap (λ g. sum K (suc n) g) (fun_ext (λ j. ap (λ z. f 0 j ⊗ z) (det_columns n (without f j))))
      ∙ sym (expand_sum n (det_of K n) (λ j i. f i j))

  -- ---- a column that is not null in line 0

  -- a column with an entry in line 0 comes to the front
  pub moved : {v : ℕ → E} (F : Columns K → E) → Alternating K F → {us cs : Columns K} → Inserted v us cs → F cs ≡ F (v ∷ us)
  moved F A here = refl
  moved {v} F A (there {u = u} {us = us} i) = moved (λ l. F (u ∷ l)) (under F u A) i ∙ A.swap [] u v us

  -- every column is null in line 0, or there is one that is not
  pub find : (cs : Columns K) → ((j : ℕ) → line K cs 0 j ≡ null) ⊎ ((v : ℕ → E) × (us : Columns K) × Inserted v us cs × (is_null (v 0) ≡ false))
  find [] = inl (λ j. refl)
  find (c ∷ cs) = at (is_null (c 0)) refl (find cs)
    where
      all : c 0 ≡ null → ((j : ℕ) → line K cs 0 j ≡ null) → (j : ℕ) → line K (c ∷ cs) 0 j ≡ null
      all e h zero = e
      all e h (suc j) = h j

      at : (b : Bool) → is_null (c 0) ≡ b → ((j : ℕ) → line K cs 0 j ≡ null) ⊎ ((v : ℕ → E) × (us : Columns K) × Inserted v us cs × (is_null (v 0) ≡ false))
          → ((j : ℕ) → line K (c ∷ cs) 0 j ≡ null) ⊎ ((v : ℕ → E) × (us : Columns K) × Inserted v us (c ∷ cs) × (is_null (v 0) ≡ false))
      at false e w = inr (c, cs, here, e)
      at true e (inl h) = inl (all (L.is_null_holds (c 0) e) h)
      at true e (inr w) = inr (w.0, c ∷ w.1, there w.2, w.3)

  -- clearing the other columns by the first keeps the determinant null, or not null
  minors_keep : (F : Columns K → E) → Alternating K F → (v : ℕ → E) → is_null (v 0) ≡ false → (us : Columns K)
      → is_null (F (v ∷ map (minor K v) us)) ≡ is_null (F (v ∷ us))
  minors_keep F A v h [] = refl
  minors_keep F A v h (u ∷ us) =
      ap is_null (A.swap [] v (minor K v u) (map (minor K v) us))
      ∙ minors_keep (λ l. F (minor K v u ∷ l)) (under F (minor K v u) A) v h us
      ∙ ap is_null
      (A.swap [] (minor K v u) v us
      ∙ A.linear (v ∷ []) (v 0) (u 0) u v us
      ∙ ap (λ z. v 0 ⊗ F (v ∷ u ∷ us) ⊕ u 0 ⊗ z) (A.equal [] v us)
      ∙ drop (v 0 ⊗ F (v ∷ u ∷ us)) (u 0))
      ∙ is_null_times K L (v 0) (F (v ∷ u ∷ us)) h
    where
      drop : (a b : E) → a ⊕ b ⊗ null ≡ a
      drop a b = simp (ring, L)

  -- cleared columns are null in line 0
  minors_null : (v : ℕ → E) (us : Columns K) (j : ℕ) → line K (map (minor K v) us) 0 j ≡ null
  minors_null v [] j = refl
  minors_null v (u ∷ us) zero = twice K L (v 0) (u 0)
  minors_null v (u ∷ us) (suc j) = minors_null v us j

  -- a determinant is null exactly if that of the columns cleared by the first is
  pub det_clear : (n : ℕ) (v : ℕ → E) (us : Columns K) → is_null (v 0) ≡ false
      → is_null (det_of K (suc n) (v ∷ us)) ≡ is_null (det_of K n (minors K v us))
  det_clear n v us h =
      sym (minors_keep (det_of K (suc n)) (det_alternating (suc n)) v h us)
      ∙ ap (λ z. is_null (v 0 ⊗ det_of K n (minors K v us) ⊕ z)) (expand_heads (λ l. det_of K n (tail v ∷ l)) (map (minor K v) us) (minors_null v us))
      ∙ ap is_null (plus_null K L (v 0 ⊗ det_of K n (minors K v us)))
      ∙ is_null_times K L (v 0) (det_of K n (minors K v us)) h

  -- the entries of the cleared columns
  pub line_minors : (v : ℕ → E) (us : Columns K) (i j : ℕ)
      → line K (minors K v us) i j ≡ v 0 ⊗ line K us (suc i) j ⊕ v (suc i) ⊗ line K us 0 j
  line_minors v [] i j = simp (ring, L)
  line_minors v (u ∷ us) i zero = ap (λ z. v 0 ⊗ u (suc i) ⊕ z) (times_comm K L (u 0) (v (suc i)))
  line_minors v (u ∷ us) i (suc j) = line_minors v us i j

  -- ---- an input follows its columns

  -- the word of the column that comes to the front comes to the front
  pub to_front : {v : ℕ → E} {us cs : Columns K} → Inserted v us cs → (x : List E) → length x ≡ length cs
      → (a : E) × (z : List E) × (length z ≡ length us) × (weight K (a ∷ z) ≡ weight K x)
      × ((i : ℕ) → dot K (line K (v ∷ us) i) (a ∷ z) ≡ dot K (line K cs i) x)
  unfolding weight
  to_front here [] e = absurd (suc-ne-zero _ (sym e))
  to_front here (a ∷ z) e = (a, z, suc_inj e, refl, λ i. refl)
  to_front (there i) [] e = absurd (suc-ne-zero _ (sym e))
  to_front {v} (there {u = u} {us = us} i) (b ∷ x) e =
      let w = to_front i x (suc_inj e) in (
        w.0,
        b ∷ w.1,
        ap suc w.2,
        omega (arith, w.3),
        λ k. plus_left_comm K L (v k ⊗ w.0) (u k ⊗ b) (dot K (line K us k) w.1) ∙ ap (λ y. u k ⊗ b ⊕ y) (w.4 k),
      )

  -- and goes back
  pub from_front : {v : ℕ → E} {us cs : Columns K} → Inserted v us cs → (a : E) (z : List E) → length z ≡ length us
      → (x : List E) × (length x ≡ length cs) × (weight K x ≡ weight K (a ∷ z))
      × ((i : ℕ) → dot K (line K cs i) x ≡ dot K (line K (v ∷ us) i) (a ∷ z))
  unfolding weight
  from_front here a z e = (a ∷ z, ap suc e, refl, λ i. refl)
  from_front (there i) a [] e = absurd (suc-ne-zero _ (sym e))
  from_front {v} (there {u = u} {us = us} i) a (b ∷ z) e =
      let w = from_front i a z (suc_inj e) in (
        b ∷ w.0,
        ap suc w.1,
        omega (arith, w.2),
        λ k. ap (λ y. u k ⊗ b ⊕ y) (w.3 k) ∙ plus_left_comm K L (u k ⊗ b) (v k ⊗ a) (dot K (line K us k) z),
      )
