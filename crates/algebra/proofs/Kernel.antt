-- Whether a matrix sends an input that is not zero to zero: by elimination, and by the determinant.
use mathlib.Core.Path.{◌≡◌, refl, sym, ap, ap₂, ◌∙◌}
use mathlib.Core.Bool.{Bool, true, false, ◌&&◌, ◌||◌, or-true, false≢true}
use mathlib.Core.Logic.{◌⊎◌, inl, inr, ⊎_elim}
use mathlib.Core.List.{List, [], ◌∷◌, map, Memᴰ}
use Prim.Native.Nat.{ℕ, zero, suc, ◌-◌, ◌≤◌, ◌<◌}
use native.Mathlib.Nat.{not-suc-le-zero, le_of_suc-le-suc, suc_inj, suc-ne-zero, eq-zero-or-pos, lt_irrefl, eq-or-lt_of_le}
use native.Mathlib.Omega.{arith}
use lib.ListN.{length, replicate, length-map, length-replicate}
use lib.Dec.{eqb, ltb}
use borrow.Author.Tests.{ltb-true, lt-ltb, eqb-true, eq-eqb}
use Rattle.algebra.specs.Operations.{Operations}
use Rattle.algebra.proofs.FieldLaws.{Field}
use Rattle.algebra.specs.Matrix.{tabulate, words, apply, apply_to, skip, det, weight, some_to_zero, has_kernel}
use Rattle.algebra.specs.Steps.{cleared}
use Rattle.algebra.proofs.Bridge.{Homomorphism}
use Rattle.algebra.proofs.Laws.{ring, equal_of_null, plus_comm, times_null_only}
use Rattle.algebra.proofs.Rectangles.{dot, Kernel, dot_linear, dot_scaled, dot_weightless, weight_nulls, weight_scaled}
use Rattle.algebra.proofs.Columns.{Columns, tail, det_of, line, Inserted, length_inserted, minor, minors, line_minors, find, moved, det_clear, det_columns}
use Rattle.algebra.proofs.Columns.{det_alternating, expand_heads, to_front, from_front}
use Rattle.algebra.proofs.Rectangles.{dot_null_line}
use Rattle.algebra.proofs.Words.{get_d_tabulate, length_tabulate, words_all, words_only}
use Rattle.algebra.proofs.Symmetry.{same_bool}
use Rattle.algebra.proofs.Weights.{weight_le}
use Rattle.algebra.proofs.Rectangles.{weight_replicate, weight_other, kernel_cong, kernel_of, of_kernel}

-- ---- taking a place out

-- the place after k others comes at most one later
pub skip_le : (p k : ℕ) → skip p k ≤ suc k
unfolding skip
skip_le zero k = omega arith
skip_le (suc p) zero = omega arith
skip_le (suc p) (suc k) = omega (arith, skip_le p k)

-- every place is p itself, or left without p
pub skip_onto : (p i r : ℕ) → i < r → p < r → (i ≡ p) ⊎ ((k : ℕ) × (k < r - 1) × (skip p k ≡ i))
unfolding skip
skip_onto p i zero l m = absurd (not-suc-le-zero l)
skip_onto zero zero (suc r) l m = inl refl
skip_onto zero (suc i) (suc r) l m = inr (i, omega arith, refl)
skip_onto (suc p) zero (suc r) l m = inr (zero, omega arith, refl)
skip_onto (suc p) (suc i) (suc r) l m =
    ⊎_elim (λ e. inl (ap suc e)) (λ w. inr (suc w.0, omega (arith, w.1), ap suc w.2)) (skip_onto p i r (omega arith) (omega arith))

-- one line less
less : (n : ℕ) → suc n - 1 ≡ n
less n = omega arith

-- ---- a map that keeps the operations keeps the block that one step of the elimination leaves

module _ (K M : Operations) (h : K.Element → M.Element) (H : Homomorphism K M h) where
  pub cleared_bridge : (r c : ℕ) (f : ℕ → ℕ → K.Element) (g : ℕ → ℕ → M.Element) (p : ℕ) → p < r
      → ((i j : ℕ) → i < r → j < suc c → h (f i j) ≡ g i j)
      → (i j : ℕ) → i < r - 1 → j < c → h (cleared K f p i j) ≡ cleared M g p i j
  unfolding cleared
  cleared_bridge r c f g p l e i j m n =
      let k : skip p i < r = omega (arith, skip_le p i) in
      H.keeps_plus _ _
      ∙ ap₂ M.plus
      (H.keeps_times _ _ ∙ ap₂ M.times (e p 0 l (omega arith)) (e (skip p i) (suc j) k (omega arith)))
      (H.keeps_times _ _ ∙ ap₂ M.times (e (skip p i) 0 k (omega arith)) (e p (suc j) l (omega arith)))

-- ---- the list of inputs

-- without columns there is only the input of no words
pub has_kernel_empty : (K : Operations) (elements : List K.Element) (r : ℕ) (f : ℕ → ℕ → K.Element) → has_kernel K elements 0 r f ≡ false
unfolding has_kernel some_to_zero words weight
has_kernel_empty K elements r f = refl

module _ (K : Operations) (c r : ℕ) (f : ℕ → ℕ → K.Element) where
  -- one of them goes to zero
  some_at : (xs : List (List K.Element)) (x : List K.Element) → Memᴰ x xs → 0 < weight K x → weight K (apply_to K r c f x) ≡ 0
      → some_to_zero K c r f xs ≡ true
  unfolding some_to_zero
  some_at [] x m h z = absurd (mathlib.Core.List.Memᴰ.not-nil m)
  some_at (y ∷ ys) x m h z =
      let later : Memᴰ x ys → some_to_zero K c r f ys ≡ true = λ t. some_at ys x t h z in
      ⊎_elim
      (λ (e : x ≡ y). rw (← e, lt-ltb 0 (weight K x) h, eq-eqb (weight K (apply_to K r c f x)) 0 z) refl)
      (λ t. rw (later t) (or-true (ltb 0 (weight K y) && eqb (weight K (apply_to K r c f y)) 0)))
      (mathlib.Core.List.Memᴰ.cases_cons m)

  -- the input that is found
  some_is : (xs : List (List K.Element)) → some_to_zero K c r f xs ≡ true
      → (x : List K.Element) × Memᴰ x xs × (0 < weight K x) × (weight K (apply_to K r c f x) ≡ 0)
  unfolding some_to_zero
  some_is [] e = absurd (false≢true e)
  some_is (y ∷ ys) e = at (ltb 0 (weight K y)) (eqb (weight K (apply_to K r c f y)) 0) refl refl e (some_is ys)
    where
      at : (a b : Bool) → ltb 0 (weight K y) ≡ a → eqb (weight K (apply_to K r c f y)) 0 ≡ b → ((a && b) || some_to_zero K c r f ys) ≡ true
          → (some_to_zero K c r f ys ≡ true → (x : List K.Element) × Memᴰ x ys × (0 < weight K x) × (weight K (apply_to K r c f x) ≡ 0))
          → (x : List K.Element) × Memᴰ x (y ∷ ys) × (0 < weight K x) × (weight K (apply_to K r c f x) ≡ 0)
      at true true p q t rest = (y, mathlib.Core.List.Memᴰ.head refl, ltb-true 0 (weight K y) p, eqb-true (weight K (apply_to K r c f y)) 0 q)
      at true false p q t rest = let w = rest t in (w.0, mathlib.Core.List.Memᴰ.tail w.1, w.2, w.3)
      at false b p q t rest = let w = rest t in (w.0, mathlib.Core.List.Memᴰ.tail w.1, w.2, w.3)

-- ---- one step of the elimination

module _ (K : Operations) (L : Field K) where
  infixl 70 ◌⊕◌
  infixl 75 ◌⊗◌
  open K use {Element as E, null, one, is_null, plus as ◌⊕◌, times as ◌⊗◌}

  -- the input left without word 0 is not zero, and goes to zero
  pub clear : (r c : ℕ) (f : ℕ → ℕ → E) (p : ℕ) → p < r → is_null (f p 0) ≡ false → Kernel K r (suc c) f → Kernel K (r - 1) c (cleared K f p)
  unfolding cleared
  clear r c f p l h k = at k.input k.size k.heavy k.zeros
    where
      at : (x : List E) → length x ≡ suc c → 0 < weight K x → ((i : ℕ) → i < r → dot K (f i) x ≡ null) → Kernel K (r - 1) c (cleared K f p)
      at [] e w s = absurd (suc-ne-zero c (sym e))
      at (a ∷ z) e w s =
          record {
            input = z;
            size = suc_inj e;
            heavy = ⊎_elim (λ o. absurd (weightless o)) (λ o. o) (eq-zero-or-pos (weight K z));
            zeros = λ i m.
                dot_linear K L (f p 0) (f (skip p i) 0) (λ j. f (skip p i) (suc j)) (λ j. f p (suc j)) z
                ∙ ap₂ (λ b d. f p 0 ⊗ b ⊕ f (skip p i) 0 ⊗ d) (sym (rest (skip p i) (omega (arith, skip_le p i)))) (sym (rest p l))
                ∙ crossed (f p 0) (f (skip p i) 0);
          }
        where
          rest : (i : ℕ) → i < r → f i 0 ⊗ a ≡ dot K (λ j. f i (suc j)) z
          rest i m = equal_of_null K L (f i 0 ⊗ a) (dot K (λ j. f i (suc j)) z) (s i m)

          crossed : (v u : E) → v ⊗ (u ⊗ a) ⊕ u ⊗ (v ⊗ a) ≡ null
          crossed v u = simp (ring, L)

          weightless : weight K z ≡ 0 → ⊥
          weightless o =
              lt_irrefl 0
              (rw (weight_nulls K L a z (times_null_only K L (f p 0) a h (rest p l ∙ dot_weightless K L (λ j. f p (suc j)) z o)) o) at w)

  -- and back: word 0 is chosen so that line p goes to zero
  pub unclear : (r c : ℕ) (f : ℕ → ℕ → E) (p : ℕ) → p < r → is_null (f p 0) ≡ false → Kernel K (r - 1) c (cleared K f p) → Kernel K r (suc c) f
  unfolding cleared weight
  unclear r c f p l h k =
      record {
        input = front ∷ map (λ w. f p 0 ⊗ w) z;
        size = ap suc (length-map z (λ w. f p 0 ⊗ w) ∙ k.size);
        heavy = omega (arith, k.heavy, weight_scaled K L (f p 0) z h);
        zeros = λ i m. ⊎_elim (λ (e : i ≡ p). rw e own) (λ w. other i w.0 w.1 w.2) (skip_onto p i r m l);
      }
    where
      z : List E
      z = k.input

      front : E
      front = dot K (λ j. f p (suc j)) z

      both : (i : ℕ) → dot K (f i) (front ∷ map (λ w. f p 0 ⊗ w) z) ≡ f i 0 ⊗ front ⊕ f p 0 ⊗ dot K (λ j. f i (suc j)) z
      both i = ap (λ y. f i 0 ⊗ front ⊕ y) (dot_scaled K L (f p 0) (λ j. f i (suc j)) z)

      own : dot K (f p) (front ∷ map (λ w. f p 0 ⊗ w) z) ≡ null
      own = both p ∙ simp (ring, L)

      other : (i j : ℕ) → j < r - 1 → skip p j ≡ i → dot K (f i) (front ∷ map (λ w. f p 0 ⊗ w) z) ≡ null
      other i j m e =
          rw (← e)
          (both (skip p j)
          ∙ plus_comm K L (f (skip p j) 0 ⊗ front) (f p 0 ⊗ dot K (λ j'. f (skip p j) (suc j')) z)
          ∙ sym (dot_linear K L (f p 0) (f (skip p j) 0) (λ j'. f (skip p j) (suc j')) (λ j'. f p (suc j')) z)
          ∙ k.zeros j m)

  -- where no line has an entry in column 0, the input 1, 0, .. 0 goes to zero
  pub kernel_null : (r c : ℕ) (f : ℕ → ℕ → E) → ((i : ℕ) → i < r → f i 0 ≡ null) → Kernel K r (suc c) f
  kernel_null r c f h =
      record {
        input = one ∷ replicate c null;
        size = ap suc (length-replicate c null);
        heavy = omega (arith, weight_other K L one (replicate c null) L.one_not_null);
        zeros = λ i l.
            ap₂ (λ a b. a ⊗ one ⊕ b) (h i l) (dot_weightless K L (λ j. f i (suc j)) (replicate c null) (weight_replicate K L c)) ∙ simp (ring, L);
      }

  -- every entry of a column is null, or some entry is not
  pivot : (r : ℕ) (u : ℕ → E) → ((i : ℕ) → i < r → u i ≡ null) ⊎ ((p : ℕ) × (p < r) × (is_null (u p) ≡ false))
  pivot zero u = inl (λ i l. absurd (not-suc-le-zero l))
  pivot (suc r) u = at (is_null (u r)) refl (pivot r u)
    where
      at : (b : Bool) → is_null (u r) ≡ b → ((i : ℕ) → i < r → u i ≡ null) ⊎ ((p : ℕ) × (p < r) × (is_null (u p) ≡ false))
          → ((i : ℕ) → i < suc r → u i ≡ null) ⊎ ((p : ℕ) × (p < suc r) × (is_null (u p) ≡ false))
      at false e w = inr (r, omega arith, e)
      at true e (inl h) = inl (λ i l. ⊎_elim (λ (q : i ≡ r). rw q (L.is_null_holds (u r) e)) (h i) (eq-or-lt_of_le (le_of_suc-le-suc l)))
      at true e (inr w) = inr (w.0, omega (arith, w.1), w.2)

  -- more columns than lines always have a kernel
  wide : (c r : ℕ) (f : ℕ → ℕ → E) → r < c → Kernel K r c f
  wide zero r f l = absurd (not-suc-le-zero l)
  wide (suc c) r f l =
      ⊎_elim (kernel_null r c f) (λ w. unclear r c f w.0 w.1 w.2 (wide c (r - 1) (cleared K f w.0) (omega (arith, w.1)))) (pivot r (λ i. f i 0))

  -- ---- the same in the words of the definitions

  module _ (elements : List E) (complete : (a : E) → Memᴰ a elements) where
    -- the list of all inputs has one that goes to zero exactly if there is one
    pub has_to : (c r : ℕ) (f : ℕ → ℕ → E) → has_kernel K elements c r f ≡ true → Kernel K r c f
    unfolding has_kernel
    has_to c r f h =
        let w = some_is K c r f (words elements c) h in
        kernel_of K L r c f w.0 (words_only elements c w.0 w.1).0 w.2 w.3

    pub has_from : (c r : ℕ) (f : ℕ → ℕ → E) → Kernel K r c f → has_kernel K elements c r f ≡ true
    unfolding has_kernel
    has_from c r f k =
        some_at K c r f (words elements c) k.input (words_all elements c k.input k.size (λ a m. complete a)) k.heavy (of_kernel K L r c f k)

    -- elimination: no line has an entry in column 0
    pub has_kernel_free : (c r : ℕ) (f : ℕ → ℕ → E) → ((i : ℕ) → i < r → f i 0 ≡ null) → has_kernel K elements (suc c) r f ≡ true
    has_kernel_free c r f h = has_from (suc c) r f (kernel_null r c f h)

    -- line p has one, and clears the others
    pub has_kernel_step : (c r : ℕ) (f : ℕ → ℕ → E) (p : ℕ) → p < r → is_null (f p 0) ≡ false
        → has_kernel K elements (suc c) r f ≡ has_kernel K elements c (r - 1) (cleared K f p)
    has_kernel_step c r f p l h =
        same_bool _ _ (λ t. has_from c (r - 1) (cleared K f p) (clear r c f p l h (has_to (suc c) r f t)))
        (λ t. has_from (suc c) r f (unclear r c f p l h (has_to c (r - 1) (cleared K f p) t)))

  -- ---- the determinant decides for a square

  -- an input follows the column that is brought to the front
  front : (r n : ℕ) {v : ℕ → E} {us cs : Columns K} → Inserted v us cs → length cs ≡ suc n → Kernel K r (suc n) (line K cs) → Kernel K r (suc n) (line K (v ∷ us))
  front r n i e k =
      let w = to_front K L i k.input (k.size ∙ sym e) in
      record {
        input = w.0 ∷ w.1;
        size = ap suc w.2 ∙ sym (length_inserted i) ∙ e;
        heavy = rw w.3 k.heavy;
        zeros = λ j l. w.4 j ∙ k.zeros j l;
      }

  -- and goes back
  back : (r n : ℕ) {v : ℕ → E} {us cs : Columns K} → Inserted v us cs → length cs ≡ suc n → Kernel K r (suc n) (line K (v ∷ us)) → Kernel K r (suc n) (line K cs)
  back r n {v} {us} {cs} i e k = at k.input k.size k.heavy k.zeros
    where
      at : (x : List E) → length x ≡ suc n → 0 < weight K x → ((i : ℕ) → i < r → dot K (line K (v ∷ us) i) x ≡ null) → Kernel K r (suc n) (line K cs)
      at [] s h z = absurd (suc-ne-zero n (sym s))
      at (a ∷ x) s h z =
          let w = from_front K L i a x (suc_inj (s ∙ sym e ∙ length_inserted i)) in
          record { input = w.0; size = w.1 ∙ e; heavy = rw w.2 h; zeros = λ j l. w.3 j ∙ z j l }

  -- the columns cleared by the first are the block that the elimination leaves
  minors_cleared : (v : ℕ → E) (us : Columns K) (i j : ℕ) → line K (minors K v us) i j ≡ cleared K (line K (v ∷ us)) 0 i j
  unfolding cleared skip
  minors_cleared v us i j = line_minors K L v us i j

  -- one step, for a list of columns
  clear_first : (n : ℕ) (v : ℕ → E) (us : Columns K) → is_null (v 0) ≡ false
      → Kernel K (suc n) (suc n) (line K (v ∷ us)) → Kernel K n n (line K (minors K v us))
  clear_first n v us g k =
      kernel_cong K L n n (cleared K (line K (v ∷ us)) 0) (line K (minors K v us)) (λ i j l m. sym (minors_cleared v us i j))
      (rw (less n) at (clear (suc n) n (line K (v ∷ us)) 0 (omega arith) g k))

  -- and back
  unclear_first : (n : ℕ) (v : ℕ → E) (us : Columns K) → is_null (v 0) ≡ false
      → Kernel K n n (line K (minors K v us)) → Kernel K (suc n) (suc n) (line K (v ∷ us))
  unclear_first n v us g k =
      unclear (suc n) n (line K (v ∷ us)) 0 (omega arith) g
      (rw (less n) (kernel_cong K L n n (line K (minors K v us)) (cleared K (line K (v ∷ us)) 0) (λ i j l m. minors_cleared v us i j) k))

  -- the determinant of the columns cleared by one of them is null exactly if theirs is
  det_inserted : (n : ℕ) {v : ℕ → E} {us cs : Columns K} → Inserted v us cs → is_null (v 0) ≡ false
      → is_null (det_of K (suc n) cs) ≡ is_null (det_of K n (minors K v us))
  det_inserted n {v} {us} i g = ap is_null (moved K L (det_of K (suc n)) (det_alternating K L (suc n)) i) ∙ det_clear K L n v us g

  -- one column less
  length_minors : (n : ℕ) {v : ℕ → E} {us cs : Columns K} → Inserted v us cs → length cs ≡ suc n → length (minors K v us) ≡ n
  length_minors n {v} {us} i e = length-map (map (minor K v) us) tail ∙ length-map us (minor K v) ∙ suc_inj (sym (length_inserted i) ∙ e)

  -- where the determinant of n columns is null, they have a kernel: by a column with an entry in line 0 if there is one,
  -- and otherwise as there are more columns than lines left
  columns_to : (n : ℕ) (cs : Columns K) → length cs ≡ n → is_null (det_of K n cs) ≡ true → Kernel K n n (line K cs)
  columns_to zero [] e h = absurd (false≢true (sym L.one_not_null ∙ h))
  columns_to zero (c ∷ cs) e h = absurd (suc-ne-zero (length cs) e)
  columns_to (suc n) cs e h = ⊎_elim null_line (λ w. pivot w (columns_to n (minors K w.0 w.1))) (find K L cs)
    where
      rest : Kernel K n (suc n) (λ i. line K cs (suc i))
      rest = wide (suc n) n (λ i. line K cs (suc i)) (omega arith)

      all : ((j : ℕ) → line K cs 0 j ≡ null) → (i : ℕ) → i < suc n → dot K (line K cs i) rest.input ≡ null
      all g zero l = dot_null_line K L (line K cs 0) rest.input g
      all g (suc i) l = rest.zeros i (le_of_suc-le-suc l)

      null_line : ((j : ℕ) → line K cs 0 j ≡ null) → Kernel K (suc n) (suc n) (line K cs)
      null_line g = record { input = rest.input; size = rest.size; heavy = rest.heavy; zeros = all g }

      pivot : (w : (v : ℕ → E) × (us : Columns K) × Inserted v us cs × (is_null (v 0) ≡ false))
          → (length (minors K w.0 w.1) ≡ n → is_null (det_of K n (minors K w.0 w.1)) ≡ true
          → Kernel K n n (line K (minors K w.0 w.1)))
          → Kernel K (suc n) (suc n) (line K cs)
      pivot w next =
          back (suc n) n w.2 e
          (unclear_first n w.0 w.1 w.3 (next (length_minors n w.2 e) (sym (det_inserted n w.2 w.3) ∙ h)))

  -- and the other way round
  columns_from : (n : ℕ) (cs : Columns K) → length cs ≡ n → Kernel K n n (line K cs) → is_null (det_of K n cs) ≡ true
  columns_from zero cs e k = absurd (lt_irrefl 0 (omega (arith, k.heavy, k.size, weight_le K k.input)))
  columns_from (suc n) cs e k =
      ⊎_elim
      (λ g. ap is_null (expand_heads K L (det_of K n) cs g) ∙ L.null_is)
      (λ w.
      det_inserted n w.2 w.3
      ∙ columns_from n (minors K w.0 w.1) (length_minors n w.2 e) (clear_first n w.0 w.1 w.3 (front (suc n) n w.2 e k)))
      (find K L cs)

  -- the matrix and the list of its columns
  columns_line : (n : ℕ) (f : ℕ → ℕ → E) (i j : ℕ) → i < n → j < n → line K (tabulate n (λ j i. f i j)) i j ≡ f i j
  columns_line n f i j l m = ap (λ (c : ℕ → E). c i) (get_d_tabulate n (λ j i. f i j) j (λ k. null) m)

  -- the determinant is null exactly if there is a kernel
  pub det_to : (n : ℕ) (f : ℕ → ℕ → E) → is_null (det K n f) ≡ true → Kernel K n n f
  det_to n f h =
      kernel_cong K L n n (line K (tabulate n (λ j i. f i j))) f (columns_line n f)
      (columns_to n (tabulate n (λ j i. f i j)) (length_tabulate n (λ j i. f i j)) (ap is_null (sym (det_columns K L n f)) ∙ h))

  -- the other direction
  pub det_from : (n : ℕ) (f : ℕ → ℕ → E) → Kernel K n n f → is_null (det K n f) ≡ true
  det_from n f k =
      ap is_null (det_columns K L n f)
      ∙ columns_from n (tabulate n (λ j i. f i j)) (length_tabulate n (λ j i. f i j))
      (kernel_cong K L n n f (line K (tabulate n (λ j i. f i j))) (λ i j l m. sym (columns_line n f i j l m)) k)

  -- the same in the words of the definitions: the determinant is null exactly if an input that is not zero goes to zero
  pub det_kernel_to : (n : ℕ) (f : ℕ → ℕ → E) → is_null (det K n f) ≡ true
      → (x : List E) × (length x ≡ n) × (0 < weight K x) × (weight K (apply K n f x) ≡ 0)
  unfolding apply
  det_kernel_to n f h =
      let k = det_to n f h in
      (k.input, k.size, k.heavy, of_kernel K L n n f k)

  -- the other direction
  pub det_kernel_from : (n : ℕ) (f : ℕ → ℕ → E) (x : List E) → length x ≡ n → 0 < weight K x → weight K (apply K n f x) ≡ 0
      → is_null (det K n f) ≡ true
  unfolding apply
  det_kernel_from n f x e h z = det_from n f (kernel_of K L n n f x e h z)
