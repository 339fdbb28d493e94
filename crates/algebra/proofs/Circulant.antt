-- Circulant matrices of any order n: the square's first line holds sums of squares of the row's entries (`square_place`), so from order 3 on none
-- is both MDS and an involution (`circulant_no_involution`). Lines and columns rotated alike leave the matrix as it is (`circulant_rotated`).
-- Assumes nothing.
use mathlib.Core.Path.{◌≡◌, refl, sym, ap, ap₂, ◌∙◌}
use mathlib.Core.Bool.{Bool, true, false, xor, true≢false}
use mathlib.Core.List.{List, Memᴰ}
use mathlib.Core.Logic.{◌⊎◌, inl, inr, ⊎_elim}
use Prim.Native.Nat.{ℕ, suc, ◌+◌, ◌-◌, ◌/◌, ◌%◌, ◌≤◌, ◌<◌}
use native.Mathlib.Nat.{zero-add, add_comm, mod-lt, mod-eq_of_lt, mod-add-mod, add-mod-mod, add-mod_right, mod-eq-sub-mod}
use native.Mathlib.Numerals.{add-one}
use native.Mathlib.Decide.{ℕ_discrete}
use native.Mathlib.Omega.{arith}
use lib.Dec.{eqb}
use lib.ListN.{get_or}
use borrow.Author.Tests.{eqb-true, eq-eqb, ne_eqb}
use Rattle.algebra.specs.Operations.{Operations}
use Rattle.algebra.proofs.FieldLaws.{Field}
use Rattle.algebra.specs.Matrix.{sum, circulant, is_mds, is_involution}
use Rattle.algebra.specs.Places.{Inverse}
use Rattle.algebra.proofs.Sums.{le_or_lt, additive, delta, delta_same, delta_other, sum_cong, sum_place, equal_of_sum, square_null, sum_symmetric}
use Rattle.algebra.proofs.Branch.{null_entry_not_mds}
use Rattle.algebra.proofs.Involution.{product, involution_identity}
use Rattle.algebra.proofs.Symmetry.{same_bool}
use Rattle.algebra.proofs.Planes.{sum_where, where_cong, where_place, where_xor, two_by_two_not_mds}

-- ---- numbers modulo n

-- a number below 2n is its remainder, or n more
remainder : (n x : ℕ) → x < n + n → (x ≡ x % n) ⊎ (x ≡ n + x % n)
remainder n x l =
    ⊎_elim (λ (g : n ≤ x). let e : x % n ≡ x - n = mod-eq-sub-mod g ∙ mod-eq_of_lt (omega arith) in inr (omega arith))
    (λ (b : x < n). inl (sym (mod-eq_of_lt b))) (le_or_lt n x)

-- n more changes nothing
past : (n x : ℕ) → x < n → (x + n) % n ≡ x
past n x l = add-mod_right x n ∙ mod-eq_of_lt l

-- t and k − t add up to k
partner : (n t k : ℕ) → t < n → k < n → (t + (k + (n - t)) % n) % n ≡ k
partner n t k l m =
    let turn : t + (k + (n - t)) ≡ k + n = omega arith in
    add-mod-mod t (k + (n - t)) n ∙ ap (λ (x : ℕ). x % n) turn ∙ past n k m

-- and no other number with t
partner_only : (n t s k : ℕ) → t < n → s < n → (t + s) % n ≡ k → s ≡ (k + (n - t)) % n
partner_only n t s k l m e =
    let turn : t + s + (n - t) ≡ s + n = omega arith in
    sym (ap (λ (x : ℕ). (x + (n - t)) % n) (sym e) ∙ mod-add-mod (t + s) n (n - t) ∙ ap (λ (x : ℕ). x % n) turn ∙ past n s m)

-- the places below n, each t less, and each t more, modulo n
pub rotation : (n t : ℕ) → t < n → Inverse n (λ j. (j + (n - t)) % n) (λ j. (j + t) % n)
rotation n t l =
    record {
      there = λ j m. mod-lt (j + (n - t)) (omega arith);
      back = λ j m. mod-lt (j + t) (omega arith);
      back_there = λ j m. ap (λ (x : ℕ). x % n) (add_comm ((j + (n - t)) % n) t) ∙ partner n t j l m;
      there_back = λ j m. sym (partner_only n t j ((j + t) % n) l m (ap (λ (x : ℕ). x % n) (add_comm t j)));
    }

-- the places i below n with i + i = 2, modulo n
module _ (n : ℕ) (three : 3 ≤ n) (i : ℕ) (l : i < n) where
  -- i + i is 2 or 2 + n
  two_is : (i + i) % n ≡ 2 → (i ≡ 1) ⊎ (i + i ≡ 2 + n)
  two_is e =
      ⊎_elim (λ (q : i + i ≡ (i + i) % n). inl (omega arith)) (λ (q : i + i ≡ n + (i + i) % n). inr (omega arith)) (remainder n (i + i) (omega arith))

  -- and the other way round
  is_two : (i ≡ 1) ⊎ (i + i ≡ 2 + n) → (i + i) % n ≡ 2
  is_two (inl e) = let q : i + i ≡ 2 = omega arith in ap (λ (x : ℕ). x % n) q ∙ mod-eq_of_lt three
  is_two (inr e) = ap (λ (x : ℕ). x % n) e ∙ past n 2 three

  -- odd n: the place 1
  odd_places : (m : ℕ) → n ≡ suc (m + m) → eqb ((i + i) % n) 2 ≡ eqb i 1
  odd_places m e =
      same_bool _ _ (λ t. eq-eqb i 1 (⊎_elim (λ (q : i ≡ 1). q) (λ (q : i + i ≡ 2 + n). omega arith) (two_is (eqb-true ((i + i) % n) 2 t))))
      (λ t. eq-eqb ((i + i) % n) 2 (is_two (inl (eqb-true i 1 t))))

  -- even n: the place 1 + m too, m the half
  even_places : (m : ℕ) → n ≡ m + m → eqb ((i + i) % n) 2 ≡ xor (eqb i 1) (eqb i (suc m))
  unfolding xor
  even_places m e =
      elim (ℕ_discrete i 1) [
        | yes q ↦ eq-eqb ((i + i) % n) 2 (is_two (inl q)) ∙ sym (ap₂ xor (eq-eqb i 1 q) (ne_eqb i (suc m) (λ z. omega arith)))
        | no d ↦
            elim (ℕ_discrete i (suc m)) [
              | yes q ↦ eq-eqb ((i + i) % n) 2 (is_two (inr (omega arith))) ∙ sym (ap₂ xor (ne_eqb i 1 d) (eq-eqb i (suc m) q))
              | no c ↦
                  ne_eqb ((i + i) % n) 2 (λ z. ⊎_elim d (λ (q : i + i ≡ 2 + n). c (omega arith)) (two_is z))
                  ∙ sym (ap₂ xor (ne_eqb i 1 d) (ne_eqb i (suc m) c))
            ]
      ]

-- ---- circulant matrices

module _ (K : Operations) (L : Field K) (n : ℕ) (row : List K.Element) where
  -- the matrix, and the row's entries
  abbrev C : ℕ → ℕ → K.Element
  C = circulant K n row

  abbrev h : ℕ → K.Element
  h a = get_or row a K.null

  -- entry a of the row stands in line i at column i + a, modulo n
  pub entry_at : (i a j : ℕ) → i < n → a < n → (i + a) % n ≡ j → circulant K n row i j ≡ get_or row a K.null
  unfolding circulant
  entry_at i a j l m e = ap h (sym (partner_only n i a j l m e))

  -- the first line is the row
  pub first_line_holds : (a : ℕ) → a < n → circulant K n row 0 a ≡ get_or row a K.null
  first_line_holds a l = entry_at 0 a a (omega arith) l (rw zero-add (mod-eq_of_lt l))

  -- lines and columns rotated alike: the matrix stays as it is
  pub circulant_rotated : (t i j : ℕ) → i < n → j < n → circulant K n row ((i + t) % n) ((j + t) % n) ≡ circulant K n row i j
  circulant_rotated t i j l m =
      let a = (j + (n - i)) % n in
      let a_lt : a < n = mod-lt (j + (n - i)) (omega arith) in
      let turn : i + t + a ≡ i + a + t = omega arith in
      entry_at ((i + t) % n) a ((j + t) % n) (mod-lt (i + t) (omega arith)) a_lt
      (mod-add-mod (i + t) n a ∙ ap (λ (x : ℕ). x % n) turn ∙ sym (mod-add-mod (i + a) n t) ∙ ap (λ (x : ℕ). (x + t) % n) (partner n i j l m))
      ∙ sym (entry_at i a j l a_lt (partner n i j l m))

  -- ---- the square

  -- the product of two entries, where their places add up to k
  abbrev both : ℕ → ℕ → ℕ → K.Element
  both k t s = delta K ((t + s) % n) k (K.times (h t) (h s))

  -- entry k of the square's first line is the sum of the squares of the row's entries at the places a with a + a = k, modulo n
  pub square_place : (k : ℕ) → k < n
      → product K n (circulant K n row) (circulant K n row) 0 k ≡ sum_where K n (λ a. eqb ((a + a) % n) k) (λ a. K.times (get_or row a K.null) (get_or row a K.null))
  unfolding product delta
  square_place k l =
      sum_cong K n _ (λ t. sum K n (both k t)) term
      ∙ sum_symmetric K L n (both k) (λ t s. ap₂ (λ (x : ℕ) (v : K.Element). delta K (x % n) k v) (add_comm t s) (L.times_comm (h t) (h s)))
    where
      term : (t : ℕ) → t < n → K.times (C 0 t) (C t k) ≡ sum K n (both k t)
      term t m =
          let s = (k + (n - t)) % n in
          let s_lt : s < n = mod-lt (k + (n - t)) (omega arith) in
          ap₂ K.times (first_line_holds t m) (entry_at t s k m s_lt (partner n t k m l))
          ∙ sym (sum_place K (additive K L) n (both k t) s s_lt
          (λ i o d. delta_other K ((t + i) % n) k (K.times (h t) (h i)) (λ e. d (partner_only n t i k m o e)))
          ∙ delta_same K ((t + s) % n) k (K.times (h t) (h s)) (partner n t k m l))

  -- ---- MDS and involution, from order 3 on

  module _ (elements : List K.Element) (complete : (a : K.Element) → Memᴰ a elements) (three : 3 ≤ n) where
    -- odd order: the square of entry 1 is 0
    odd_not_mds : (m : ℕ) → n ≡ suc (m + m) → product K n C C 0 2 ≡ K.null → is_mds K elements n C ≡ false
    odd_not_mds m e z = null_entry_not_mds K L elements complete n C 0 1 (omega arith) (omega arith) (first_line_holds 1 (omega arith) ∙ square_null K L (h 1) null)
      where
        null : K.times (h 1) (h 1) ≡ K.null
        null =
            sym (where_place K L n (λ a. K.times (h a) (h a)) 1 (omega arith))
            ∙ sym (where_cong K n _ _ _ (λ i l. odd_places n three i l m e))
            ∙ sym (square_place 2 three) ∙ z

    -- even order: the squares of the entries 1 and 1 + m are equal, and stand in the block of the lines 0 and m and the columns 1 and 1 + m
    even_not_mds : (m : ℕ) → n ≡ m + m → product K n C C 0 2 ≡ K.null → is_mds K elements n C ≡ false
    even_not_mds m e z =
        two_by_two_not_mds K L elements complete n C 0 m 1 (suc m) (omega arith) (omega arith) (omega arith) (omega arith) (λ q. omega arith) (λ q. omega arith)
        (ap₂ K.times (first_line_holds 1 (omega arith)) (entry_at m 1 (suc m) (omega arith) (omega arith) (rw add-one (mod-eq_of_lt (omega arith))))
        ∙ squares
        ∙ sym (ap₂ K.times (first_line_holds (suc m) (omega arith)) (entry_at m (suc m) 1 (omega arith) (omega arith) turned)))
      where
        turned : (m + suc m) % n ≡ 1
        turned = let q : m + suc m ≡ 1 + n = omega arith in ap (λ (x : ℕ). x % n) q ∙ past n 1 (omega arith)

        squares : K.times (h 1) (h 1) ≡ K.times (h (suc m)) (h (suc m))
        squares =
            equal_of_sum K L _ _
            (sym (where_xor K L n (λ a. K.times (h a) (h a)) (λ i. eqb i 1) (λ i. eqb i (suc m))
            ∙ ap₂ K.plus (where_place K L n _ 1 (omega arith)) (where_place K L n _ (suc m) (omega arith)))
            ∙ sym (where_cong K n _ _ _ (λ i l. even_places n three i l m e))
            ∙ sym (square_place 2 three) ∙ z)

    -- an involution is not MDS
    pub involution_not_mds : is_involution K elements n (circulant K n row) ≡ true → is_mds K elements n (circulant K n row) ≡ false
    involution_not_mds t =
        let z : product K n C C 0 2 ≡ K.null =
        involution_identity K L elements complete n C t 0 2 (omega arith) three ∙ delta_other K 0 2 K.one (λ q. omega arith) in
        elim (ℕ_discrete n (n / 2 + n / 2)) [
          | yes e ↦ even_not_mds (n / 2) e z
          | no d ↦ odd_not_mds (n / 2) (omega arith) z
        ]

-- from order 3 on an MDS circulant matrix is no involution
pub circulant_no_involution : (K : Operations) (L : Field K) (elements : List K.Element) (complete : (a : K.Element) → Memᴰ a elements) (n : ℕ) → 3 ≤ n
    → (row : List K.Element) → is_mds K elements n (circulant K n row) ≡ true → is_involution K elements n (circulant K n row) ≡ false
circulant_no_involution K L elements complete n three row mds = decide (is_involution K elements n (circulant K n row)) refl
  where
    decide : (t : Bool) → is_involution K elements n (circulant K n row) ≡ t → is_involution K elements n (circulant K n row) ≡ false
    decide true e = absurd (true≢false (sym mds ∙ involution_not_mds K L n row elements complete three e))
    decide false e = e
