-- Sums of f 0, f 1, .. f (n - 1): of field elements, and of numbers, from the three laws that both have.
-- Assumes nothing.
use mathlib.Core.Path.{◌≡◌, refl, sym, ap, ap₂, ◌∙◌}
use mathlib.Core.Bool.{Bool, true, false, cond}
use mathlib.Core.Logic.{◌≢◌, ◌⊎◌, inl, inr, ⊎_elim}
use Prim.Native.Nat.{ℕ, zero, suc, ◌+◌, ◌*◌, ◌/◌, ◌%◌, ◌≤◌, ◌<◌, zero-le, suc-le-suc}
use native.Mathlib.Nat.{le_of_suc-le-suc, not-suc-le-zero, zero-lt-suc, le_refl, eq-or-lt_of_le, add_assoc, add_comm, add-zero, add-suc, le-suc, le_trans, zero-mul, suc-mul}
use native.Mathlib.Omega.{arith}
use lib.Arith.{digits_div, digits_mod}
use lib.Dec.{eqb, ltb}
use borrow.Author.Tests.{eq-eqb, ne_eqb, lt-ltb, le-ltb}
use Rattle.algebra.specs.Operations.{Operations}
use Rattle.algebra.proofs.FieldLaws.{Field}
use Rattle.algebra.specs.Matrix.{sum}
use Rattle.algebra.specs.Places.{Inverse}

-- numbers can be compared
pub le_or_lt : (a b : ℕ) → (a ≤ b) ⊎ (b < a)
le_or_lt zero b = inl zero-le
le_or_lt (suc a) zero = inr (zero-lt-suc a)
le_or_lt (suc a) (suc b) = ⊎_elim (λ p. inl (suc-le-suc p)) (λ q. inr (suc-le-suc q)) (le_or_lt a b)

-- the laws that sums need
pub record Additive (K : Operations) : Type 0 where
  pub plus_assoc : (a b c : K.Element) → K.plus (K.plus a b) c ≡ K.plus a (K.plus b c)
  pub plus_comm : (a b : K.Element) → K.plus a b ≡ K.plus b a
  pub plus_null : (a : K.Element) → K.plus a K.null ≡ a

-- a field has these laws
pub additive : (K : Operations) → Field K → Additive K
additive K L = record { plus_assoc = L.plus_assoc; plus_comm = L.plus_comm; plus_null = L.plus_null }

-- the natural numbers, to count with
abbrev pub Naturals : Operations
Naturals = record { Element = ℕ; null = 0; one = 1; plus = ◌+◌; times = ◌*◌; is_null = λ n. eqb n 0 }

-- and so have the numbers
pub naturals : Additive Naturals
naturals = record { plus_assoc = add_assoc; plus_comm = add_comm; plus_null = add-zero }

-- only the values below n count
pub sum_cong : (K : Operations) (n : ℕ) (f g : ℕ → K.Element) → ((i : ℕ) → i < n → f i ≡ g i) → sum K n f ≡ sum K n g
unfolding sum
sum_cong K zero f g h = refl
sum_cong K (suc n) f g h = ap₂ K.plus (sum_cong K n f g (λ i l. h i (le_trans l (le-suc n)))) (h n (le_refl (suc n)))

-- the value v where two numbers are equal, 0 elsewhere
unfoldable pub delta : (K : Operations) → ℕ → ℕ → K.Element → K.Element
delta K i j v = cond (eqb i j) v K.null

-- equal numbers: the value
pub delta_same : (K : Operations) (i j : ℕ) (v : K.Element) → i ≡ j → delta K i j v ≡ v
unfolding delta
delta_same K i j v e = rw (eq-eqb i j e)

-- different numbers: 0
pub delta_other : (K : Operations) (i j : ℕ) (v : K.Element) → i ≢ j → delta K i j v ≡ K.null
unfolding delta
delta_other K i j v e = rw (ne_eqb i j e)

-- two maps that undo each other, the other way round
pub turned : {n : ℕ} {σ ρ : ℕ → ℕ} → Inverse n σ ρ → Inverse n ρ σ
turned v = record { there = v.back; back = v.there; back_there = v.there_back; there_back = v.back_there }

-- one after the other
pub composed : {n : ℕ} {σ ρ τ ω : ℕ → ℕ} → Inverse n σ ρ → Inverse n τ ω → Inverse n (λ i. τ (σ i)) (λ i. ρ (ω i))
composed {ρ = ρ} {τ = τ} v w =
    record {
      there = λ i l. w.there _ (v.there i l);
      back = λ i l. v.back _ (w.back i l);
      back_there = λ i l. ap ρ (w.back_there _ (v.there i l)) ∙ v.back_there i l;
      there_back = λ i l. ap τ (v.there_back _ (w.back i l)) ∙ w.there_back i l;
    }

-- a map that undoes itself
pub own : (n : ℕ) (σ : ℕ → ℕ) → ((i : ℕ) → i < n → σ i < n) → ((i : ℕ) → i < n → σ (σ i) ≡ i) → Inverse n σ σ
own n σ h e = record { there = h; back = h; back_there = e; there_back = e }

module _ (K : Operations) (L : Additive K) where
  -- 0 on the left
  pub null_plus : (a : K.Element) → K.plus K.null a ≡ a
  null_plus a = L.plus_comm K.null a ∙ L.plus_null a

  -- four terms, the middle ones exchanged
  pub plus_four : (a b c d : K.Element) → K.plus (K.plus a b) (K.plus c d) ≡ K.plus (K.plus a c) (K.plus b d)
  plus_four a b c d = cc (L.plus_assoc a b (K.plus c d), L.plus_assoc a c (K.plus b d), L.plus_assoc b c d, L.plus_assoc c b d, L.plus_comm b c)

  -- a sum of zeros
  pub sum_null : (n : ℕ) (f : ℕ → K.Element) → ((i : ℕ) → i < n → f i ≡ K.null) → sum K n f ≡ K.null
  unfolding sum
  sum_null zero f h = refl
  sum_null (suc n) f h =
      ap₂ K.plus (sum_null n f (λ i l. h i (le_trans l (le-suc n)))) (h n (le_refl (suc n))) ∙ L.plus_null K.null

  -- a sum of sums
  pub sum_plus : (n : ℕ) (f g : ℕ → K.Element) → sum K n (λ i. K.plus (f i) (g i)) ≡ K.plus (sum K n f) (sum K n g)
  unfolding sum
  sum_plus zero f g = sym (L.plus_null K.null)
  sum_plus (suc n) f g = ap (λ s. K.plus s (K.plus (f n) (g n))) (sum_plus n f g) ∙ plus_four (sum K n f) (sum K n g) (f n) (g n)

  -- a double sum in the other order
  pub sum_swap : (m n : ℕ) (f : ℕ → ℕ → K.Element) → sum K m (λ i. sum K n (λ j. f i j)) ≡ sum K n (λ j. sum K m (λ i. f i j))
  unfolding sum
  sum_swap zero n f = sym (sum_null n (λ j. K.null) (λ j l. refl))
  sum_swap (suc m) n f =
      ap (λ s. K.plus s (sum K n (λ j. f m j))) (sum_swap m n f) ∙ sym (sum_plus n (λ j. sum K m (λ i. f i j)) (λ j. f m j))

  -- where all but the value at place k are 0, the sum is that value
  pub sum_place : (n : ℕ) (f : ℕ → K.Element) (k : ℕ) → k < n → ((i : ℕ) → i < n → i ≢ k → f i ≡ K.null) → sum K n f ≡ f k
  unfolding sum
  sum_place zero f k l h = absurd (not-suc-le-zero l)
  sum_place (suc n) f k l h =
      let below : k < n → sum K n f ≡ f k = λ m. sum_place n f k m (λ i j. h i (le_trans j (le-suc n))) in
      ⊎_elim
      (λ (e : k ≡ n). rw e (ap (λ s. K.plus s (f n)) (sum_null n f (λ i j. h i (le_trans j (le-suc n)) (omega arith))) ∙ null_plus (f n)))
      (λ (m : k < n). ap₂ K.plus (below m) (h n (le_refl (suc n)) (omega arith)) ∙ L.plus_null (f k))
      (eq-or-lt_of_le (le_of_suc-le-suc l))

  -- the sum over all places of a value that stands at one
  pub sum_delta : (n k : ℕ) (v : K.Element) → k < n → sum K n (λ i. delta K i k v) ≡ v
  sum_delta n k v l = sum_place n (λ i. delta K i k v) k l (λ i m e. delta_other K i k v e) ∙ delta_same K k k v refl

  -- the first value taken out
  pub sum_first : (n : ℕ) (f : ℕ → K.Element) → sum K (suc n) f ≡ K.plus (f 0) (sum K n (λ i. f (suc i)))
  unfolding sum
  sum_first zero f = L.plus_comm K.null (f 0)
  sum_first (suc n) f = ap (λ s. K.plus s (f (suc n))) (sum_first n f) ∙ L.plus_assoc (f 0) (sum K n (λ i. f (suc i))) (f (suc n))

  -- a sum cut in two
  pub sum_add : (m n : ℕ) (f : ℕ → K.Element) → sum K (m + n) f ≡ K.plus (sum K m f) (sum K n (λ i. f (m + i)))
  unfolding sum
  sum_add m zero f = rw add-zero (sym (L.plus_null (sum K m f)))
  sum_add m (suc n) f = rw add-suc (ap (λ s. K.plus s (f (m + n))) (sum_add m n f) ∙ L.plus_assoc (sum K m f) (sum K n (λ i. f (m + i))) (f (m + n)))

  -- a sum over the numbers i·m + j is a double sum
  pub sum_flat : (m n : ℕ) (f : ℕ → ℕ → K.Element) → sum K (n * m) (λ v. f (v / m) (v % m)) ≡ sum K n (λ i. sum K m (λ j. f i j))
  unfolding sum
  sum_flat m zero f = rw zero-mul
  sum_flat m (suc n) f =
      rw suc-mul
      (sum_add (n * m) m (λ v. f (v / m) (v % m))
      ∙ ap₂ K.plus (sum_flat m n f) (sum_cong K m _ _ (λ j l. ap₂ f (digits_div n l) (digits_mod n l))))

  -- the values taken in another order
  pub sum_permuted : (n : ℕ) (σ ρ : ℕ → ℕ) → Inverse n σ ρ → (f : ℕ → K.Element) → sum K n (λ i. f (σ i)) ≡ sum K n f
  sum_permuted n σ ρ v f =
      sum_cong K n (λ i. f (σ i)) (λ i. sum K n (λ j. delta K j (σ i) (f j)))
      (λ i l. sym (sum_place n (λ j. delta K j (σ i) (f j)) (σ i) (v.there i l) (λ j m e. delta_other K j (σ i) (f j) e) ∙ delta_same K (σ i) (σ i) (f (σ i)) refl))
      ∙ sum_swap n n (λ i j. delta K j (σ i) (f j))
      ∙ sum_cong K n (λ j. sum K n (λ i. delta K j (σ i) (f j))) f
      (λ j l. sum_place n (λ i. delta K j (σ i) (f j)) (ρ j) (v.back j l)
      (λ i m e. delta_other K j (σ i) (f j) (λ q. e (sym (v.back_there i m) ∙ ap ρ (sym q)))) ∙ delta_same K j (σ (ρ j)) (f j) (sym (v.there_back j l)))

module _ (K : Operations) (L : Field K) where
  -- 0 as a factor
  pub times_null : (a : K.Element) → K.times a K.null ≡ K.null
  times_null a =
      ap (K.times a) (sym (L.plus_self K.one)) ∙ L.times_plus a K.one K.one ∙ L.plus_self (K.times a K.one)

  -- 0 as the first factor
  pub null_times : (a : K.Element) → K.times K.null a ≡ K.null
  null_times a = L.times_comm K.null a ∙ times_null a

  -- a sum as the first factor
  pub plus_times : (a b c : K.Element) → K.times (K.plus a b) c ≡ K.plus (K.times a c) (K.times b c)
  plus_times a b c = L.times_comm (K.plus a b) c ∙ L.times_plus c a b ∙ ap₂ K.plus (L.times_comm c a) (L.times_comm c b)

  -- added twice, b is gone
  pub plus_plus : (a b : K.Element) → K.plus (K.plus a b) b ≡ a
  plus_plus a b = L.plus_assoc a b b ∙ ap (K.plus a) (L.plus_self b) ∙ L.plus_null a

  -- two elements whose sum is 0 are equal
  pub equal_of_sum : (a b : K.Element) → K.plus a b ≡ K.null → a ≡ b
  equal_of_sum a b e = sym (plus_plus a b) ∙ ap (λ c. K.plus c b) e ∙ null_plus K (additive K L) b

  -- what is added in both parts is gone
  pub plus_between : (a c b : K.Element) → K.plus (K.plus a c) (K.plus c b) ≡ K.plus a b
  plus_between a c b = sym (L.plus_assoc (K.plus a c) c b) ∙ ap (λ d. K.plus d b) (plus_plus a c)

  -- the square of a sum of two
  pub square_plus : (a b : K.Element) → K.times (K.plus a b) (K.plus a b) ≡ K.plus (K.times a a) (K.times b b)
  square_plus a b =
      plus_times a b (K.plus a b)
      ∙ ap₂ K.plus (L.times_plus a a b) (L.times_plus b a b ∙ ap (λ c. K.plus c (K.times b b)) (L.times_comm b a))
      ∙ plus_between (K.times a a) (K.times a b) (K.times b b)

  -- an element whose square is 0 is 0
  pub square_null : (a : K.Element) → K.times a a ≡ K.null → a ≡ K.null
  square_null a e = decide (K.is_null a) refl
    where
      decide : (t : Bool) → K.is_null a ≡ t → a ≡ K.null
      decide true z = L.is_null_holds a z
      decide false z =
          let b = L.inverse a z in
          sym (L.times_one a) ∙ ap (K.times a) (sym b.1) ∙ sym (L.times_assoc a a b.0) ∙ ap (λ c. K.times c b.0) e ∙ null_times b.0

  -- only 1 has the square 1
  pub square_one : (a : K.Element) → K.times a a ≡ K.one → a ≡ K.one
  square_one a e =
      equal_of_sum a K.one (square_null (K.plus a K.one) (square_plus a K.one ∙ ap₂ K.plus e (L.times_one K.one) ∙ L.plus_self K.one))

  -- a factor goes into the sum
  pub times_sum : (a : K.Element) (n : ℕ) (f : ℕ → K.Element) → K.times a (sum K n f) ≡ sum K n (λ i. K.times a (f i))
  unfolding sum
  times_sum a zero f = times_null a
  times_sum a (suc n) f = L.times_plus a (sum K n f) (f n) ∙ ap (λ s. K.plus s (K.times a (f n))) (times_sum a n f)

  -- a factor on the right goes into the sum
  pub sum_times : (n : ℕ) (f : ℕ → K.Element) (a : K.Element) → K.times (sum K n f) a ≡ sum K n (λ i. K.times (f i) a)
  sum_times n f a =
      L.times_comm (sum K n f) a ∙ times_sum a n f
      ∙ sum_cong K n (λ i. K.times a (f i)) (λ i. K.times (f i) a) (λ i l. L.times_comm a (f i))

  -- the square of a sum is the sum of the squares
  pub square_sum : (n : ℕ) (f : ℕ → K.Element) → K.times (sum K n f) (sum K n f) ≡ sum K n (λ i. K.times (f i) (f i))
  unfolding sum
  square_sum zero f = times_null K.null
  square_sum (suc n) f = square_plus (sum K n f) (f n) ∙ ap (λ s. K.plus s (K.times (f n) (f n))) (square_sum n f)

  -- a double sum of values that are the same both ways is the sum over the diagonal
  pub sum_symmetric : (n : ℕ) (f : ℕ → ℕ → K.Element) → ((i j : ℕ) → f i j ≡ f j i) → sum K n (λ i. sum K n (λ j. f i j)) ≡ sum K n (λ i. f i i)
  unfolding sum
  sum_symmetric zero f same = refl
  sum_symmetric (suc n) f same =
      ap (λ s. K.plus s (K.plus (sum K n (λ j. f n j)) (f n n)))
      (sum_plus K (additive K L) n (λ i. sum K n (λ j. f i j)) (λ i. f i n)
      ∙ ap₂ K.plus (sum_symmetric n f same) (sum_cong K n (λ i. f i n) (λ j. f n j) (λ i l. same i n)))
      ∙ plus_between (sum K n (λ i. f i i)) (sum K n (λ j. f n j)) (f n n)

  -- the value at the smaller of the places i and σ i, 0 at the larger
  halved : (ℕ → ℕ) → (ℕ → K.Element) → ℕ → K.Element
  halved σ f i = cond (ltb i (σ i)) (f i) K.null

  -- values that are equal in pairs add up to 0
  pub sum_paired : (n : ℕ) (σ : ℕ → ℕ) → Inverse n σ σ → ((i : ℕ) → i < n → σ i ≢ i) → (f : ℕ → K.Element)
      → ((i : ℕ) → i < n → f (σ i) ≡ f i) → sum K n f ≡ K.null
  unfolding halved
  sum_paired n σ v moves f pairs =
      sum_cong K n f (λ i. K.plus (halved σ f i) (halved σ f (σ i))) both
      ∙ sum_plus K (additive K L) n (halved σ f) (λ i. halved σ f (σ i))
      ∙ ap (K.plus (sum K n (halved σ f))) (sum_permuted K (additive K L) n σ σ v (halved σ f))
      ∙ L.plus_self (sum K n (halved σ f))
    where
      pick : (a b : ℕ) (x : K.Element) → a ≢ b → x ≡ K.plus (cond (ltb a b) x K.null) (cond (ltb b a) x K.null)
      pick a b x e =
          ⊎_elim (λ (l : a ≤ b). rw (lt-ltb a b (omega arith), le-ltb b a l) (sym (L.plus_null x)))
          (λ (g : b < a). rw (lt-ltb b a g, le-ltb a b (omega arith)) (sym (null_plus K (additive K L) x))) (le_or_lt a b)

      both : (i : ℕ) → i < n → f i ≡ K.plus (halved σ f i) (halved σ f (σ i))
      both i l = rw (pairs i l, v.back_there i l) (pick i (σ i) (f i) (λ e. moves i l (sym e)))
