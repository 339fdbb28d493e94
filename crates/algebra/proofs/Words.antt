-- Lists given by a function, arrays that are filled from the front, and the list of all words over given letters.
-- Assumes nothing.
use mathlib.Core.Path.{◌≡◌, refl, sym, ap, ◌∙◌}
use mathlib.Core.Bool.{Bool, cond}
use mathlib.Core.List.{List, [], ◌∷◌, ◌++◌, map, Memᴰ}
use mathlib.Core.Logic.{⊎_elim}
use Prim.Native.Nat.{ℕ, zero, suc, ◌+◌, ◌-◌, ◌≤◌, ◌<◌, suc-le-suc}
use native.Mathlib.Nat.{le_of_suc-le-suc, not-suc-le-zero, zero-lt-suc, suc_inj, suc-ne-zero, zero-add, suc-add}
use native.Mathlib.Omega.{arith}
use lib.ListN.{length, get_or, set, replicate, get_or-eq_default}
use lib.Seq.{ext_get_or, set_at, append_snoc}
use Rattle.algebra.specs.Matrix.{tabulate, before, words}

-- what a word adds to the weight
abbrev pub one_unless : Bool → ℕ
one_unless null = cond null 0 1

-- ---- arrays that are filled from the front: behind what is stored stands z

-- one more element is stored
pub stored_more : {A : Type 0} (z : A) (size i : ℕ) (stored next array : List A) (v : A) → i < size → length stored ≡ i → next ≡ stored ++ (v ∷ [])
    → array ≡ stored ++ replicate (size - i) z → set array i v ≡ next ++ replicate (size - (i + 1)) z
stored_more z size i stored next array v l e n a =
    let rest : size - i ≡ suc (size - (i + 1)) = omega arith in
    rw (a, rest, n)
    (set_at stored z (replicate (size - (i + 1)) z) v i e ∙ sym (append_snoc stored v (replicate (size - (i + 1)) z)))

-- ---- lists given by a function

module _ {A : Type 0} where
  -- it has n elements
  pub length_tabulate : (n : ℕ) (f : ℕ → A) → length (tabulate n f) ≡ n
  unfolding tabulate
  length_tabulate zero f = refl
  length_tabulate (suc n) f = ap suc (length_tabulate n (λ i. f (suc i)))

  -- its element at place i is f i
  pub get_d_tabulate : (n : ℕ) (f : ℕ → A) (i : ℕ) (d : A) → i < n → get_or (tabulate n f) i d ≡ f i
  unfolding tabulate
  get_d_tabulate zero f i d h = absurd (not-suc-le-zero h)
  get_d_tabulate (suc n) f zero d h = refl
  get_d_tabulate (suc n) f (suc i) d h = get_d_tabulate n (λ i. f (suc i)) i d (le_of_suc-le-suc h)

  -- past its end stands the value for missing places
  pub get_d_past : (n : ℕ) (f : ℕ → A) (i : ℕ) (d : A) → n ≤ i → get_or (tabulate n f) i d ≡ d
  get_d_past n f i d h = get_or-eq_default (tabulate n f) d (rw length_tabulate h)

  -- each of its values is a member
  pub tabulate_mem : (n : ℕ) (f : ℕ → A) (i : ℕ) → i < n → Memᴰ (f i) (tabulate n f)
  unfolding tabulate
  tabulate_mem zero f i h = absurd (not-suc-le-zero h)
  tabulate_mem (suc n) f zero h = mathlib.Core.List.Memᴰ.head refl
  tabulate_mem (suc n) f (suc i) h = mathlib.Core.List.Memᴰ.tail (tabulate_mem n (λ i. f (suc i)) i (le_of_suc-le-suc h))

  -- and each member one of its values
  pub mem_tabulate : (n : ℕ) (f : ℕ → A) (y : A) → Memᴰ y (tabulate n f) → (i : ℕ) × (i < n) × (y ≡ f i)
  unfolding tabulate
  mem_tabulate zero f y m = absurd (mathlib.Core.List.Memᴰ.not-nil m)
  mem_tabulate (suc n) f y m =
      ⊎_elim (λ e. (0, omega arith, e)) (λ k. let (i, h, e) = mem_tabulate n (λ i. f (suc i)) y k in (suc i, omega arith, e)) (mathlib.Core.List.Memᴰ.cases_cons m)

  -- only the values below n count
  pub tabulate_cong : (n : ℕ) (f g : ℕ → A) → ((i : ℕ) → i < n → f i ≡ g i) → tabulate n f ≡ tabulate n g
  unfolding tabulate
  tabulate_cong zero f g h = refl
  tabulate_cong (suc n) f g h =
      let rest : tabulate n (λ i. f (suc i)) ≡ tabulate n (λ i. g (suc i)) =
      tabulate_cong n (λ i. f (suc i)) (λ i. g (suc i)) (λ i l. h (suc i) (suc-le-suc l)) in
      let first : f 0 ≡ g 0 = h 0 (zero-lt-suc n) in
      cc

  -- a list of n elements with given elements is the list of those
  pub tabulate_of : (d : A) (n : ℕ) (x : List A) (f : ℕ → A) → length x ≡ n → ((i : ℕ) → i < n → get_or x i d ≡ f i)
      → x ≡ tabulate n f
  tabulate_of d n x f e h =
      ext_get_or d x (tabulate n f) (e ∙ sym (length_tabulate n f)) (λ i l. let m : i < n = omega arith in h i m ∙ sym (get_d_tabulate n f i d m))

  -- a list of n elements is the list of its elements
  pub tabulate_get_d : (d : A) (n : ℕ) (x : List A) → length x ≡ n → tabulate n (λ i. get_or x i d) ≡ x
  tabulate_get_d d n x e = sym (tabulate_of d n x (λ i. get_or x i d) e (λ i l. refl))

  -- cut in two
  pub tabulate_add : (m n : ℕ) (f : ℕ → A) → tabulate (m + n) f ≡ tabulate m f ++ tabulate n (λ i. f (m + i))
  unfolding tabulate
  tabulate_add zero n f = rw zero-add (tabulate_cong n f _ (λ i l. rw zero-add))
  tabulate_add (suc m) n f =
      rw suc-add (ap (λ r. f 0 ∷ r) (tabulate_add m n (λ i. f (suc i)) ∙ ap (λ r. tabulate m (λ i. f (suc i)) ++ r) (tabulate_cong n _ _ (λ i l. rw suc-add))))

  -- ---- all words

  mem_map_cons : (a : A) {w : List A} {ws : List (List A)} → Memᴰ w ws → Memᴰ (a ∷ w) (map (λ v. a ∷ v) ws)
  mem_map_cons a (mathlib.Core.List.Memᴰ.head e) = mathlib.Core.List.Memᴰ.head (ap (λ (v : List A). a ∷ v) e)
  mem_map_cons a (mathlib.Core.List.Memᴰ.tail m) = mathlib.Core.List.Memᴰ.tail (mem_map_cons a m)

  mem_before : {a : A} {letters : List A} {w : List A} (ws : List (List A)) → Memᴰ a letters → Memᴰ w ws
      → Memᴰ (a ∷ w) (before letters ws)
  unfolding before
  mem_before {a} {w = w} ws (mathlib.Core.List.Memᴰ.head {x = b} {xs = letters} e) h =
      mathlib.Core.List.Memᴰ.append_left (before letters ws) (mathlib.Core.List.Memᴰ.cast (ap (λ (c : A). c ∷ w) e) (mem_map_cons b h))
  mem_before ws (mathlib.Core.List.Memᴰ.tail {x = b} m) h = mathlib.Core.List.Memᴰ.append_right (map (λ v. b ∷ v) ws) (mem_before ws m h)

  -- each list of n of the letters is among the words
  pub words_all : (letters : List A) (n : ℕ) (x : List A) → length x ≡ n → ((a : A) → Memᴰ a x → Memᴰ a letters)
      → Memᴰ x (words letters n)
  unfolding words
  words_all letters zero [] e h = mathlib.Core.List.Memᴰ.head refl
  words_all letters zero (a ∷ x) e h = absurd (suc-ne-zero (length x) e)
  words_all letters (suc n) [] e h = absurd (suc-ne-zero n (sym e))
  words_all letters (suc n) (a ∷ x) e h =
      mem_before (words letters n) (h a (mathlib.Core.List.Memᴰ.head refl)) (words_all letters n x (suc_inj e) (λ b m. h b (mathlib.Core.List.Memᴰ.tail m)))

  -- a letter of the letters, and then one of the words
  Begun : List A → List (List A) → List A → Type 0
  Begun letters ws x = (a : A) × (w : List A) × Memᴰ a letters × Memᴰ w ws × (x ≡ a ∷ w)

  mem_map_begun : (a : A) (x : List A) (ws : List (List A)) → Memᴰ x (map (λ v. a ∷ v) ws)
      → (w : List A) × Memᴰ w ws × (x ≡ a ∷ w)
  mem_map_begun a x [] m = absurd (mathlib.Core.List.Memᴰ.not-nil m)
  mem_map_begun a x (w ∷ ws) m =
      let later : Memᴰ x (map (λ v. a ∷ v) ws) → (w : List A) × Memᴰ w ws × (x ≡ a ∷ w) = mem_map_begun a x ws in
      ⊎_elim (λ e. (w, mathlib.Core.List.Memᴰ.head refl, e)) (λ t. let r = later t in (r.0, mathlib.Core.List.Memᴰ.tail r.1, r.2)) (mathlib.Core.List.Memᴰ.cases_cons m)

  before_begun : (letters : List A) (ws : List (List A)) (x : List A) → Memᴰ x (before letters ws) → Begun letters ws x
  unfolding before Begun
  before_begun [] ws x m = absurd (mathlib.Core.List.Memᴰ.not-nil m)
  before_begun (a ∷ letters) ws x m =
      let later : Memᴰ x (before letters ws) → Begun letters ws x = before_begun letters ws x in
      ⊎_elim (λ s. let r = mem_map_begun a x ws s in (a, r.0, mathlib.Core.List.Memᴰ.head refl, r.1, r.2))
      (λ t. let r = later t in (r.0, r.1, mathlib.Core.List.Memᴰ.tail r.2, r.3, r.4)) (mathlib.Core.List.Memᴰ.append_cases (map (λ v. a ∷ v) ws) m)

  -- each of the words is a list of n of the letters
  pub words_only : (letters : List A) (n : ℕ) (x : List A) → Memᴰ x (words letters n)
      → (length x ≡ n) × ((a : A) → Memᴰ a x → Memᴰ a letters)
  unfolding words Begun
  words_only letters zero x m = let e : x ≡ [] = mathlib.Core.List.Memᴰ.eq_of_singleton m in rw e (refl, λ a t. absurd (mathlib.Core.List.Memᴰ.not-nil t))
  words_only letters (suc n) x m =
      let b = before_begun letters (words letters n) x m in
      let rest : (length b.1 ≡ n) × ((a : A) → Memᴰ a b.1 → Memᴰ a letters) = words_only letters n b.1 b.3 in
      rw b.4 (ap suc rest.0, λ c t. ⊎_elim (λ e. mathlib.Core.List.Memᴰ.cast e b.2) (rest.1 c) (mathlib.Core.List.Memᴰ.cases_cons t))
