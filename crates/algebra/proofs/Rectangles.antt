-- Words of an input: sums of products, weights, and inputs that a matrix sends to zero.
use mathlib.Core.Path.{◌≡◌, refl, sym, ap, ap₂, ◌∙◌}
use mathlib.Core.Bool.{Bool, true, false}
use mathlib.Core.List.{List, [], ◌∷◌, map}
use Prim.Native.Nat.{ℕ, zero, suc, ◌+◌, ◌≤◌, ◌<◌}
use native.Mathlib.Nat.{not-suc-le-zero, le_of_suc-le-suc, suc-ne-zero, zero-add}
use native.Mathlib.Omega.{arith}
use lib.ListN.{length, get_or, replicate}
use Rattle.algebra.specs.Operations.{Operations}
use Rattle.algebra.proofs.FieldLaws.{Field}
use Rattle.algebra.specs.Matrix.{tabulate, sum, apply_to, weight}
use Rattle.algebra.proofs.Words.{one_unless}
use Rattle.algebra.proofs.Sums.{additive, sum_first}
use Rattle.algebra.proofs.Laws.{ring, times_null, join_left, is_null_times}

-- ---- definitions

module _ (K : Operations) where
  infixl 70 ◌⊕◌
  infixl 75 ◌⊗◌
  open K use {Element as E, null, plus as ◌⊕◌, times as ◌⊗◌}

  -- the sum over j of entry j of a line times word j of an input
  abbrev pub dot : (ℕ → E) → List E → E
  dot u [] = null
  dot u (a ∷ x) = u 0 ⊗ a ⊕ dot (λ j. u (suc j)) x

-- an input of c words, not all zero, that r lines send to zero
pub record Kernel (K : Operations) (r c : ℕ) (f : ℕ → ℕ → K.Element) : Type 0 where
  pub input : List K.Element
  pub size : length input ≡ c
  pub heavy : 0 < weight K input
  pub zeros : (i : ℕ) → i < r → dot K (f i) input ≡ K.null

-- ---- laws

module _ (K : Operations) (L : Field K) where
  infixl 70 ◌⊕◌
  infixl 75 ◌⊗◌
  open K use {Element as E, null, is_null, plus as ◌⊕◌, times as ◌⊗◌}

  -- the definition's sum
  pub sum_dot : (u : ℕ → E) (x : List E) → sum K (length x) (λ j. u j ⊗ get_or x j null) ≡ dot K u x
  unfolding sum
  sum_dot u [] = refl
  sum_dot u (a ∷ x) = sum_first K (additive K L) (length x) (λ j. u j ⊗ get_or (a ∷ x) j null) ∙ ap (λ z. u 0 ⊗ a ⊕ z) (sum_dot (λ j. u (suc j)) x)

  -- the words of the input decide how much of the line is used
  pub dot_cong : (u v : ℕ → E) (x : List E) → ((j : ℕ) → j < length x → u j ≡ v j) → dot K u x ≡ dot K v x
  dot_cong u v [] e = refl
  dot_cong u v (a ∷ x) e =
      ap₂ (λ b c. b ⊗ a ⊕ c) (e 0 (omega arith)) (dot_cong (λ j. u (suc j)) (λ j. v (suc j)) x (λ j l. e (suc j) (omega arith)))

  -- linear in the line
  pub dot_linear : (a b : E) (u v : ℕ → E) (x : List E) → dot K (λ j. a ⊗ u j ⊕ b ⊗ v j) x ≡ a ⊗ dot K u x ⊕ b ⊗ dot K v x
  dot_linear a b u v [] = simp (ring, L)
  dot_linear a b u v (w ∷ x) =
      ap (λ z. (a ⊗ u 0 ⊕ b ⊗ v 0) ⊗ w ⊕ z) (dot_linear a b (λ j. u (suc j)) (λ j. v (suc j)) x)
      ∙ join_left K L a b (u 0) (v 0) w (dot K (λ j. u (suc j)) x) (dot K (λ j. v (suc j)) x)

  -- and in the input
  pub dot_scaled : (a : E) (u : ℕ → E) (x : List E) → dot K u (map (λ w. a ⊗ w) x) ≡ a ⊗ dot K u x
  dot_scaled a u [] = sym (times_null K L a)
  dot_scaled a u (w ∷ x) = ap (λ z. u 0 ⊗ (a ⊗ w) ⊕ z) (dot_scaled a (λ j. u (suc j)) x) ∙ step (u 0) (dot K (λ j. u (suc j)) x)
    where
      step : (p s : E) → p ⊗ (a ⊗ w) ⊕ a ⊗ s ≡ a ⊗ (p ⊗ w ⊕ s)
      step p s = simp (ring, L)

  -- a line of nulls
  pub dot_null_line : (u : ℕ → E) (x : List E) → ((j : ℕ) → u j ≡ null) → dot K u x ≡ null
  dot_null_line u [] e = refl
  dot_null_line u (a ∷ x) e =
      ap₂ (λ y z. y ⊗ a ⊕ z) (e 0) (dot_null_line (λ j. u (suc j)) x (λ j. e (suc j))) ∙ simp (ring, L)

  -- ---- weights

  -- a word that is null adds nothing
  pub weight_null : (a : E) (x : List E) → is_null a ≡ true → weight K (a ∷ x) ≡ weight K x
  unfolding weight
  weight_null a x h = rw h (zero-add (weight K x))

  -- any other adds 1
  pub weight_other : (a : E) (x : List E) → is_null a ≡ false → weight K (a ∷ x) ≡ suc (weight K x)
  unfolding weight
  weight_other a x h = rw h (omega arith)

  -- words of weight 0 are null
  pub weightless : (a : E) (x : List E) → weight K (a ∷ x) ≡ 0 → (a ≡ null) × (weight K x ≡ 0)
  weightless a x h = at (is_null a) refl
    where
      at : (b : Bool) → is_null a ≡ b → (a ≡ null) × (weight K x ≡ 0)
      at true e = (L.is_null_holds a e, sym (weight_null a x e) ∙ h)
      at false e = absurd (suc-ne-zero (weight K x) (sym (weight_other a x e) ∙ h))

  -- and the other way round
  pub weight_nulls : (a : E) (x : List E) → a ≡ null → weight K x ≡ 0 → weight K (a ∷ x) ≡ 0
  weight_nulls a x e h = weight_null a x (ap is_null e ∙ L.null_is) ∙ h

  -- a factor that is not null keeps the weight
  pub weight_scaled : (a : E) (x : List E) → is_null a ≡ false → weight K (map (λ w. a ⊗ w) x) ≡ weight K x
  unfolding weight
  weight_scaled a [] h = refl
  weight_scaled a (w ∷ x) h = ap₂ (λ b n. one_unless b + n) (is_null_times K L a w h) (weight_scaled a x h)

  -- nulls have none
  pub weight_replicate : (n : ℕ) → weight K (replicate n null) ≡ 0
  unfolding weight
  weight_replicate zero = refl
  weight_replicate (suc n) = weight_nulls null (replicate n null) refl (weight_replicate n)

  -- a word adds at most 1
  pub weight_cons_le : (a : E) (x : List E) → weight K (a ∷ x) ≤ suc (weight K x)
  unfolding weight
  weight_cons_le a x = at (is_null a)
    where
      at : (b : Bool) → one_unless b + weight K x ≤ suc (weight K x)
      at true = omega arith
      at false = omega arith

  -- an input of weight 0 gives null with every line
  pub dot_weightless : (u : ℕ → E) (x : List E) → weight K x ≡ 0 → dot K u x ≡ null
  dot_weightless u [] h = refl
  dot_weightless u (a ∷ x) h =
      ap₂ (λ b z. u 0 ⊗ b ⊕ z) (weightless a x h).0 (dot_weightless (λ j. u (suc j)) x (weightless a x h).1) ∙ simp (ring, L)

  -- what is tabulated with weight 0 is null
  pub tabulate_weightless : (n : ℕ) (h : ℕ → E) → weight K (tabulate n h) ≡ 0 → (i : ℕ) → i < n → h i ≡ null
  unfolding tabulate
  tabulate_weightless zero h e i l = absurd (not-suc-le-zero l)
  tabulate_weightless (suc n) h e zero l = (weightless (h 0) (tabulate n (λ k. h (suc k))) e).0
  tabulate_weightless (suc n) h e (suc i) l =
      tabulate_weightless n (λ k. h (suc k)) (weightless (h 0) (tabulate n (λ k. h (suc k))) e).1 i (le_of_suc-le-suc l)

  -- and the other way round
  pub weight_tabulate : (n : ℕ) (h : ℕ → E) → ((i : ℕ) → i < n → h i ≡ null) → weight K (tabulate n h) ≡ 0
  unfolding tabulate weight
  weight_tabulate zero h e = refl
  weight_tabulate (suc n) h e =
      weight_nulls (h 0) (tabulate n (λ k. h (suc k))) (e 0 (omega arith)) (weight_tabulate n (λ k. h (suc k)) (λ i l. e (suc i) (omega arith)))

  -- ---- what the definition says, and what the proofs use

  -- a word of the product
  pub sum_word : (c : ℕ) (u : ℕ → E) (x : List E) → length x ≡ c → sum K c (λ j. u j ⊗ get_or x j null) ≡ dot K u x
  sum_word c u x e = rw (← e) (sum_dot u x)

  -- an input that goes to weight 0 is a kernel
  pub kernel_of : (r c : ℕ) (f : ℕ → ℕ → E) (x : List E) → length x ≡ c → 0 < weight K x → weight K (apply_to K r c f x) ≡ 0 → Kernel K r c f
  kernel_of r c f x e h z =
      record { input = x; size = e; heavy = h; zeros = λ i l. sym (sum_word c (f i) x e) ∙ tabulate_weightless r (λ k. sum K c (λ j. f k j ⊗ get_or x j null)) z i l }

  -- and a kernel goes to weight 0
  pub of_kernel : (r c : ℕ) (f : ℕ → ℕ → E) (k : Kernel K r c f) → weight K (apply_to K r c f k.input) ≡ 0
  of_kernel r c f k =
      weight_tabulate r (λ i. sum K c (λ j. f i j ⊗ get_or k.input j null)) (λ i l. sum_word c (f i) k.input k.size ∙ k.zeros i l)

  -- the lines and columns below r and c decide
  pub kernel_cong : (r c : ℕ) (f g : ℕ → ℕ → E) → ((i j : ℕ) → i < r → j < c → f i j ≡ g i j) → Kernel K r c f → Kernel K r c g
  kernel_cong r c f g e k =
      record {
        input = k.input;
        size = k.size;
        heavy = k.heavy;
        zeros = λ i l. sym (dot_cong (f i) (g i) k.input (λ j m. e i j l (rw k.size at m))) ∙ k.zeros i l;
      }
