-- Choices of places: a mask, the list of its digits, and the list of its places; inputs spread over chosen places.
use mathlib.Core.Path.{◌≡◌, refl, sym, ap, ap₂, ◌∙◌, fun_ext}
use mathlib.Core.Bool.{Bool, true, false, not}
use mathlib.Core.List.{List, [], ◌∷◌, map}
use Prim.Native.Nat.{ℕ, zero, suc, ◌+◌, ◌*◌, ◌/◌, ◌%◌, ◌^◌, ◌≤◌, ◌<◌}
use native.Mathlib.Nat.{not-suc-le-zero, le_of_suc-le-suc, suc_inj, suc-ne-zero, add-zero, pow-suc}
use native.Mathlib.Omega.{arith}
use lib.ListN.{length, get_or}
use Rattle.algebra.specs.Operations.{Operations}
use Rattle.algebra.proofs.FieldLaws.{Field}
use Rattle.algebra.specs.Matrix.{weight, places_from, chosen, at_digit}
use Rattle.algebra.proofs.Words.{one_unless}
use Rattle.algebra.proofs.Laws.{times_null, null_plus}
use Rattle.algebra.proofs.Rectangles.{dot, weight_null, weight_cons_le}
use Rattle.algebra.proofs.Weights.{weight_le}

-- ---- masks and digits

-- a digit, as a number
abbrev digit : Bool → ℕ
digit false = 0
digit true = 1

-- and a number, as a digit
abbrev is_one : ℕ → Bool
is_one zero = false
is_one (suc d) = true

-- the n lowest digits of a mask
abbrev pub digits : ℕ → ℕ → List Bool
digits zero mask = []
digits (suc n) mask = is_one (mask % 2) ∷ digits n (mask / 2)

-- the mask with these digits, the lowest first
abbrev pub mask_of : List Bool → ℕ
mask_of [] = 0
mask_of (b ∷ bs) = mask_of bs * 2 + digit b

-- how many are chosen
abbrev pub count : List Bool → ℕ
count [] = 0
count (b ∷ bs) = digit b + count bs

-- the chosen places, ascending, counted from o
abbrev pub places_of : ℕ → List Bool → List ℕ
places_of o [] = []
places_of o (true ∷ bs) = o ∷ places_of (suc o) bs
places_of o (false ∷ bs) = places_of (suc o) bs

-- there are n
pub length_digits : (n mask : ℕ) → length (digits n mask) ≡ n
length_digits zero mask = refl
length_digits (suc n) mask = ap suc (length_digits n (mask / 2))

-- the digits of the mask made from them
pub digits_mask : (bs : List Bool) → digits (length bs) (mask_of bs) ≡ bs
digits_mask [] = refl
digits_mask (b ∷ bs) =
    ap₂ {C = List Bool} (λ c cs. c ∷ cs) (low b (mask_of bs)) (ap (λ m. digits (length bs) m) (high b (mask_of bs)) ∙ digits_mask bs)
  where
    low : (b : Bool) (m : ℕ) → is_one ((m * 2 + digit b) % 2) ≡ b
    low true m = ap is_one (one m)
      where
        one : (m : ℕ) → (m * 2 + 1) % 2 ≡ 1
        one m = omega arith
    low false m = ap is_one (none m)
      where
        none : (m : ℕ) → (m * 2 + 0) % 2 ≡ 0
        none m = omega arith

    high : (b : Bool) (m : ℕ) → (m * 2 + digit b) / 2 ≡ m
    high true m = omega arith
    high false m = omega arith

-- the mask fits in as many digits
pub mask_lt : (bs : List Bool) → mask_of bs < 2 ^ length bs
mask_lt [] = omega arith
mask_lt (b ∷ bs) = step b (mask_lt bs)
  where
    step : (b : Bool) → mask_of bs < 2 ^ length bs → mask_of bs * 2 + digit b < 2 ^ suc (length bs)
    step true h = omega (arith, pow-suc 2 (length bs))
    step false h = omega (arith, pow-suc 2 (length bs))

-- the definition's places are those of the digits
places_digits : (o n mask : ℕ) → places_from o n mask ≡ places_of o (digits n mask)
unfolding places_from
places_digits o zero mask = refl
places_digits o (suc n) mask =
    ap (λ l. at_digit (mask % 2) o l) (places_digits (suc o) n (mask / 2)) ∙ step (mask % 2) (digits n (mask / 2))
  where
    step : (d : ℕ) (bs : List Bool) → at_digit d o (places_of (suc o) bs) ≡ places_of o (is_one d ∷ bs)
    step zero bs = refl
    step (suc d) bs = refl

-- so are the definition's choices
pub chosen_digits : (n mask : ℕ) → chosen n mask ≡ places_of 0 (digits n mask)
unfolding chosen
chosen_digits n mask = places_digits 0 n mask

-- the places of a mask that is made from its digits
pub chosen_mask : (n : ℕ) (bs : List Bool) → length bs ≡ n → chosen n (mask_of bs) ≡ places_of 0 bs
chosen_mask n bs e = rw (← e) (chosen_digits (length bs) (mask_of bs) ∙ ap (λ l. places_of 0 l) (digits_mask bs))

-- there are as many places as chosen
pub length_places : (o : ℕ) (bs : List Bool) → length (places_of o bs) ≡ count bs
length_places o [] = refl
length_places o (true ∷ bs) = ap suc (length_places (suc o) bs) ∙ omega arith
length_places o (false ∷ bs) = length_places (suc o) bs ∙ omega arith

-- no more than there are
count_le : (bs : List Bool) → count bs ≤ length bs
count_le [] = omega arith
count_le (true ∷ bs) = omega (arith, count_le bs)
count_le (false ∷ bs) = omega (arith, count_le bs)

-- each place is at least o
places_low : (o : ℕ) (bs : List Bool) (i : ℕ) → i < length (places_of o bs) → o ≤ get_or (places_of o bs) i 0
places_low o [] i l = absurd (not-suc-le-zero l)
places_low o (true ∷ bs) zero l = omega arith
places_low o (true ∷ bs) (suc i) l = omega (arith, places_low (suc o) bs i (le_of_suc-le-suc l))
places_low o (false ∷ bs) i l = omega (arith, places_low (suc o) bs i l)

-- and below the end
places_high : (o : ℕ) (bs : List Bool) (i : ℕ) → i < length (places_of o bs) → get_or (places_of o bs) i 0 < o + length bs
places_high o [] i l = absurd (not-suc-le-zero l)
places_high o (true ∷ bs) zero l = omega arith
places_high o (true ∷ bs) (suc i) l = omega (arith, places_high (suc o) bs i (le_of_suc-le-suc l))
places_high o (false ∷ bs) i l = omega (arith, places_high (suc o) bs i l)

-- and they ascend
places_ascend : (o : ℕ) (bs : List Bool) (i j : ℕ) → i < j → j < length (places_of o bs) → get_or (places_of o bs) i 0 < get_or (places_of o bs) j 0
places_ascend o bs i zero l m = absurd (not-suc-le-zero l)
places_ascend o [] i (suc j) l m = absurd (not-suc-le-zero m)
places_ascend o (true ∷ bs) zero (suc j) l m = places_low (suc o) bs j (le_of_suc-le-suc m)
places_ascend o (true ∷ bs) (suc i) (suc j) l m = places_ascend (suc o) bs i j (le_of_suc-le-suc l) (le_of_suc-le-suc m)
places_ascend o (false ∷ bs) i (suc j) l m = places_ascend (suc o) bs i (suc j) l m

-- no words for one place or more
nothing : (n : ℕ) → zero ≡ 1 + n → ⊥
nothing n e = omega arith

-- ---- the choices of a matrix of order n

-- there are at most n
pub chosen_length : (n mask : ℕ) → length (chosen n mask) ≤ n
chosen_length n mask =
    rw (chosen_digits n mask, length_places 0 (digits n mask)) (omega (arith, count_le (digits n mask), length_digits n mask))

-- each is below n
pub chosen_lt : (n mask i : ℕ) → i < length (chosen n mask) → get_or (chosen n mask) i 0 < n
chosen_lt n mask i =
    rw (chosen_digits n mask) (λ (l : i < length (places_of 0 (digits n mask))). omega (arith, places_high 0 (digits n mask) i l, length_digits n mask))

-- they ascend
pub chosen_ascends : (n mask i j : ℕ) → i < j → j < length (chosen n mask) → get_or (chosen n mask) i 0 < get_or (chosen n mask) j 0
chosen_ascends n mask i j = rw (chosen_digits n mask) (places_ascend 0 (digits n mask) i j)

-- ---- inputs and choices

module _ (K : Operations) where
  open K use {Element as E, null, is_null}

  -- the words put at the chosen places, and null elsewhere
  abbrev pub spread : List Bool → List E → List E
  spread [] y = []
  spread (true ∷ bs) [] = null ∷ spread bs []
  spread (true ∷ bs) (a ∷ y) = a ∷ spread bs y
  spread (false ∷ bs) y = null ∷ spread bs y

  -- where the words are not null
  abbrev pub support : List E → List Bool
  support x = map (λ a. not (is_null a)) x

  -- the mask of the places of the words that are not null
  unfoldable pub support_mask : List E → ℕ
  support_mask x = mask_of (support x)

  -- a word before the rest, where it is not null
  abbrev unless_null : Bool → E → List E → List E
  unless_null true a y = y
  unless_null false a y = a ∷ y

  -- the words that are not null
  abbrev pub others : List E → List E
  others [] = []
  others (a ∷ x) = unless_null (is_null a) a (others x)

  -- a word that is null is chosen, and one less after it
  abbrev first_of : Bool → List Bool → List Bool → List Bool
  first_of true more less = true ∷ less
  first_of false more less = false ∷ more

  -- where the first k of the words that are null are
  abbrev pub nulls : ℕ → List E → List Bool
  nulls k [] = []
  nulls zero (a ∷ x) = false ∷ nulls zero x
  nulls (suc k) (a ∷ x) = first_of (is_null a) (nulls (suc k) x) (nulls k x)

  -- u gives the words of x, from o on
  abbrev pub Reads : ℕ → (ℕ → E) → List E → Type 0
  Reads o u x = (j : ℕ) → j < length x → u (o + j) ≡ get_or x j null

  -- u is null at the chosen places
  abbrev pub NullAt : ℕ → (ℕ → E) → List Bool → Type 0
  NullAt o u bs = (i : ℕ) → i < length (places_of o bs) → u (get_or (places_of o bs) i 0) ≡ null

module _ (K : Operations) (L : Field K) where
  infixl 70 ◌⊕◌
  infixl 75 ◌⊗◌
  open K use {Element as E, null, is_null, plus as ◌⊕◌, times as ◌⊗◌}

  -- word 0
  reads_first : (o : ℕ) (u : ℕ → E) (a : E) (x : List E) → Reads K o u (a ∷ x) → u o ≡ a
  reads_first o u a x e = ap u (sym (add-zero o)) ∙ e 0 (omega arith)

  -- the others
  reads_rest : (o : ℕ) (u : ℕ → E) (a : E) (x : List E) → Reads K o u (a ∷ x) → Reads K (suc o) u x
  reads_rest o u a x e j l = ap u (omega arith) ∙ e (suc j) (omega arith)

  -- as many words as places
  pub length_spread : (bs : List Bool) (y : List E) → length (spread K bs y) ≡ length bs
  length_spread [] y = refl
  length_spread (true ∷ bs) [] = ap suc (length_spread bs [])
  length_spread (true ∷ bs) (a ∷ y) = ap suc (length_spread bs y)
  length_spread (false ∷ bs) y = ap suc (length_spread bs y)

  -- of the same weight
  pub weight_spread : (bs : List Bool) (y : List E) → length y ≡ count bs → weight K (spread K bs y) ≡ weight K y
  unfolding weight
  weight_spread [] [] e = refl
  weight_spread [] (a ∷ y) e = absurd (suc-ne-zero (length y) e)
  weight_spread (true ∷ bs) [] e = absurd (nothing (count bs) e)
  weight_spread (true ∷ bs) (a ∷ y) e = ap (λ n. one_unless (is_null a) + n) (weight_spread bs y (omega arith))
  weight_spread (false ∷ bs) y e = weight_null K L null (spread K bs y) L.null_is ∙ weight_spread bs y (omega arith)

  -- one place on
  shift : (u : ℕ → E) (o : ℕ) (x : List E) → dot K (λ j. u (o + suc j)) x ≡ dot K (λ j. u (suc o + j)) x
  shift u o x = ap (λ v. dot K v x) (fun_ext (λ j. ap u (omega arith)))

  -- a line with the spread words is the line's chosen entries with the words
  pub dot_spread : (o : ℕ) (u : ℕ → E) (bs : List Bool) (y : List E) → length y ≡ count bs
      → dot K (λ j. u (o + j)) (spread K bs y) ≡ dot K (λ j. u (get_or (places_of o bs) j 0)) y
  dot_spread o u [] [] e = refl
  dot_spread o u [] (a ∷ y) e = absurd (suc-ne-zero (length y) e)
  dot_spread o u (true ∷ bs) [] e = absurd (nothing (count bs) e)
  dot_spread o u (true ∷ bs) (a ∷ y) e =
      ap₂ (λ p z. u p ⊗ a ⊕ z) (add-zero o) (shift u o (spread K bs y) ∙ dot_spread (suc o) u bs y (omega arith))
  dot_spread o u (false ∷ bs) y e =
      ap₂ (λ p z. p ⊕ z) (times_null K L (u (o + 0))) (shift u o (spread K bs y) ∙ dot_spread (suc o) u bs y (omega arith)) ∙ null_plus K L (dot K (λ j. u (get_or (places_of (suc o) bs) j 0)) y)

  -- every input is its words that are not null, spread over their places
  pub spread_support : (x : List E) → spread K (support K x) (others K x) ≡ x
  spread_support [] = refl
  spread_support (a ∷ x) = at (is_null a) refl (spread_support x)
    where
      at : (b : Bool) → is_null a ≡ b → spread K (support K x) (others K x) ≡ x
          → spread K (not b ∷ support K x) (unless_null K b a (others K x)) ≡ a ∷ x
      at true e h = ap₂ {C = List E} (λ c r. c ∷ r) (sym (L.is_null_holds a e)) h
      at false e h = ap {B = List E} (λ r. a ∷ r) h

  -- as many as the weight
  pub length_others : (x : List E) → length (others K x) ≡ weight K x
  unfolding weight
  length_others [] = refl
  length_others (a ∷ x) = at (is_null a) (length_others x)
    where
      at : (b : Bool) → length (others K x) ≡ weight K x → length (unless_null K b a (others K x)) ≡ one_unless b + weight K x
      at true h = omega arith
      at false h = omega arith

  -- at as many places
  pub count_support : (x : List E) → count (support K x) ≡ weight K x
  unfolding weight
  count_support [] = refl
  count_support (a ∷ x) = ap₂ (λ d n. d + n) (at (is_null a)) (count_support x)
    where
      at : (b : Bool) → digit (not b) ≡ one_unless b
      at true = refl
      at false = refl

  -- a digit for each word
  pub length_nulls : (k : ℕ) (x : List E) → length (nulls K k x) ≡ length x
  length_nulls k [] = refl
  length_nulls zero (a ∷ x) = ap suc (length_nulls zero x)
  length_nulls (suc k) (a ∷ x) = at (is_null a) (length_nulls (suc k) x) (length_nulls k x)
    where
      at : (b : Bool) → length (nulls K (suc k) x) ≡ length x → length (nulls K k x) ≡ length x
          → length (first_of K b (nulls K (suc k) x) (nulls K k x)) ≡ suc (length x)
      at true g h = ap suc h
      at false g h = ap suc g

  -- there are k, where the weight leaves room for them
  pub count_nulls : (k : ℕ) (x : List E) → k + weight K x ≤ length x → count (nulls K k x) ≡ k
  unfolding weight
  count_nulls k [] l = omega arith
  count_nulls zero (a ∷ x) l = omega (arith, count_nulls zero x (omega (arith, weight_le K x)))
  count_nulls (suc k) (a ∷ x) l = at (is_null a) l (count_nulls (suc k) x) (count_nulls k x)
    where
      at : (b : Bool) → suc k + (one_unless b + weight K x) ≤ suc (length x)
          → (suc k + weight K x ≤ length x → count (nulls K (suc k) x) ≡ suc k) → (k + weight K x ≤ length x → count (nulls K k x) ≡ k)
          → count (first_of K b (nulls K (suc k) x) (nulls K k x)) ≡ suc k
      at true l g h = omega (arith, h (omega arith))
      at false l g h = omega (arith, g (omega arith))

  -- the words there are null
  pub nulls_null : (o k : ℕ) (u : ℕ → E) (x : List E) → Reads K o u x → NullAt K o u (nulls K k x)
  nulls_null o k u [] e = λ i l. absurd (not-suc-le-zero l)
  nulls_null o zero u (a ∷ x) e = nulls_null (suc o) zero u x (reads_rest o u a x e)
  nulls_null o (suc k) u (a ∷ x) e =
      at (is_null a) refl (nulls_null (suc o) (suc k) u x (reads_rest o u a x e)) (nulls_null (suc o) k u x (reads_rest o u a x e))
    where
      at : (b : Bool) → is_null a ≡ b → NullAt K (suc o) u (nulls K (suc k) x) → NullAt K (suc o) u (nulls K k x)
          → NullAt K o u (first_of K b (nulls K (suc k) x) (nulls K k x))
      at true t g h zero l = reads_first o u a x e ∙ L.is_null_holds a t
      at true t g h (suc i) l = h i (le_of_suc-le-suc l)
      at false t g h i l = g i l

  -- where the words at chosen places are null, the weight leaves room for them
  pub weight_room : (o : ℕ) (u : ℕ → E) (bs : List Bool) (x : List E) → length bs ≡ length x → Reads K o u x → NullAt K o u bs
      → weight K x + count bs ≤ length x
  unfolding weight
  weight_room o u [] [] s e h = omega arith
  weight_room o u [] (a ∷ x) s e h = absurd (suc-ne-zero (length x) (sym s))
  weight_room o u (b ∷ bs) [] s e h = absurd (suc-ne-zero (length bs) s)
  weight_room o u (true ∷ bs) (a ∷ x) s e h =
      omega (
        arith,
        weight_room (suc o) u bs x (suc_inj s) (reads_rest o u a x e) (λ i l. h (suc i) (omega arith)),
        weight_null K L a x (ap is_null (sym (reads_first o u a x e) ∙ h 0 (omega arith)) ∙ L.null_is),
      )
  weight_room o u (false ∷ bs) (a ∷ x) s e h =
      omega (arith, weight_room (suc o) u bs x (suc_inj s) (reads_rest o u a x e) h, weight_cons_le K L a x)
