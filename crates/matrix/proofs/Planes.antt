-- Rows of Hadamard matrices over the numbers below 2^m and planes of places. Of an MDS row no two pairs of places of a plane have equal products
-- (`plane_products`), and of an MDS involution of order 8 the sum over a plane's coset is neither 0 nor 1 (`plane_sum_holds`). The other way round,
-- where entries and such products differ, all blocks of one line and of two lines are regular (`one_regular`, `two_regular`).
-- Assumes nothing.
use mathlib.Core.Path.{◌≡◌, refl, sym, ap, ap₂, ◌∙◌}
use mathlib.Core.Bool.{Bool, true, false, not, xor, ◌&&◌, ◌||◌, beq, true≢false, false≢true}
use mathlib.Core.List.{List}
use mathlib.Core.Logic.{◌≢◌, ⊎_elim}
use Prim.Native.Nat.{ℕ, zero, suc, ◌^◌, ◌≤◌, ◌<◌}
use native.Mathlib.Nat.{eq-zero-or-pos}
use native.Mathlib.Omega.{arith}
use lib.Bits.{bit_xor, xor_comm, xor_lt}
use lib.Dec.{ltb}
use lib.ListN.{get_or}
use borrow.Author.Tests.{ltb-true}
use Rattle.algebra.specs.Operations.{Operations}
use Rattle.algebra.specs.Matrix.{sum, hadamard, is_mds, block, chosen}
use Rattle.algebra.proofs.FieldLaws.{Field}
use Rattle.algebra.proofs.Involution.{and_left, and_right}
use Rattle.algebra.proofs.Laws.{null_plus}
use Rattle.algebra.proofs.Sums.{equal_of_sum}
use Rattle.algebra.proofs.Xor.{xor_xor, xor_cancel, xor_exchange}
use Rattle.algebra.proofs.Choices.{chosen_lt, chosen_ascends}
use Rattle.algebra.proofs.Planes.{sum_where, where_cong, where_xor, where_four, odd_of, Subspace, coset_not_mds, products_not_mds, ProductsDiffer, products_apart, det_one, det_two}
use Rattle.field.specs.Polynomial.{◌⊕◌, product, first_below, Modulus}
use Rattle.field.specs.Steps.{every_below}
use Rattle.lines.specs.Numbers.{numbers, elements, WordsInField}
use Rattle.matrix.specs.Steps.Regular.{is_regular_block}
use Rattle.matrix.proofs.Residues.{Residue, number, same_number, residue_list as all, residues_complete as complete, residues, number_keeps, residues_field, mds_carried}
use Rattle.matrix.proofs.Rows.{lifted, word, entries, sums, zero_entry_not_mds}
use Rattle.matrix.proofs.Squares.{every_each, Singular, regular_of, bridge_singular}

-- ---- the planes of order 8, by a computed test

-- the fourth place of the plane's coset through a, b and d
abbrev pub fourth : ℕ → ℕ → ℕ → ℕ
fourth a b d = bit_xor (bit_xor a b) d

-- the four places
abbrev coset : ℕ → ℕ → ℕ → ℕ → Bool
coset a b d = odd_of a b (fourth a b d) d

-- the plane: the four places moved to 0
unfoldable plane : ℕ → ℕ → ℕ → ℕ → Bool
plane a b d i = coset a b d (bit_xor i a)

-- the first place below 8 that is none of the four
unfoldable other : ℕ → ℕ → ℕ → ℕ
other a b d = first_below 8 (λ i. not (coset a b d i))

-- the plane is closed under exclusive or
unfoldable is_closed : ℕ → ℕ → ℕ → Bool
is_closed a b d = every_below 8 (λ t. every_below 8 (λ c. not (plane a b d t) || beq (plane a b d (bit_xor c t)) (plane a b d c)))

-- the other four places are one coset of the plane
unfoldable is_half : ℕ → ℕ → ℕ → Bool
is_half a b d = every_below 8 (λ i. beq (plane a b d (bit_xor i (other a b d))) (xor true (coset a b d i)))

-- all that is needed of the plane, which contains 0
unfoldable is_plane : ℕ → ℕ → ℕ → Bool
is_plane a b d = (plane a b d 0 && is_closed a b d) && (ltb (other a b d) 8 && is_half a b d)

-- all planes pass
planes_eight : every_below 8 (λ d. every_below d (λ b. every_below b (λ a. is_plane a b d))) ≡ true
unfolding every_below is_plane is_closed is_half plane other odd_of xor first_below
planes_eight = refl

-- tests that give the same answer
same_answer : (a b : Bool) → beq a b ≡ true → a ≡ b
same_answer true true e = refl
same_answer true false e = absurd (false≢true e)
same_answer false true e = absurd (false≢true e)
same_answer false false e = refl

-- what the test shows
record Plane (a b d : ℕ) : Type 0 where
  subspace : Subspace 3 (plane a b d)
  outside : other a b d < 8
  others : (i : ℕ) → i < 8 → plane a b d (bit_xor i (other a b d)) ≡ xor true (coset a b d i)

plane_of : (a b d : ℕ) → a < b → b < d → d < 8 → Plane a b d
unfolding is_plane is_closed is_half
plane_of a b d ab bd l =
    let t : is_plane a b d ≡ true = every_each b _ (every_each d _ (every_each 8 _ planes_eight d l) b bd) a ab in
    let closed = and_left (plane a b d 0 && is_closed a b d) _ t in
    let half = and_right (plane a b d 0 && is_closed a b d) _ t in
    record {
      subspace =
          record {
            origin = and_left (plane a b d 0) _ closed;
            closed = λ i c h m e. same_answer _ _ (unless e (every_each 8 _ (every_each 8 _ (and_right (plane a b d 0) _ closed) i h) c m));
          };
      outside = ltb-true (other a b d) 8 (and_left (ltb (other a b d) 8) _ half);
      others = λ i h. same_answer _ _ (every_each 8 _ (and_right (ltb (other a b d) 8) _ half) i h);
    }
  where
    unless : {s t : Bool} → s ≡ true → (not s || t) ≡ true → t ≡ true
    unless e q = rw e at q

-- neither 0 nor 1
two_le : (x : ℕ) → (x ≡ 0 → ⊥) → (x ≡ 1 → ⊥) → 2 ≤ x
two_le zero f g = absurd (f refl)
two_le (suc zero) f g = absurd (g refl)
two_le (suc (suc x)) f g = omega arith

-- ---- the row as elements

module _ (p : ℕ) (h : Modulus p) where
  -- the field of elements
  abbrev R : Operations
  R = residues p h

  abbrev L : Field R
  L = residues_field p h

  module _ (k : ℕ) (row : List ℕ) (below : WordsInField p (2 ^ k) row) where
    -- the entries, as elements
    abbrev entry : ℕ → Residue p
    entry i = get_or (lifted p (2 ^ k) row) i R.null

    -- a product of two of them
    entry_product : (i j : ℕ) → i < 2 ^ k → j < 2 ^ k → (R.times (entry i) (entry j)).0 ≡ product p (get_or row i 0) (get_or row j 0)
    entry_product i j l m = ap₂ (product p) (word p h k row below i l) (word p h k row below j m)

    -- the answers to MDS over the numbers and over the elements do not differ
    not_both : is_mds (numbers p) (elements p) (2 ^ k) (hadamard (numbers p) row) ≡ true
        → is_mds R (all p) (2 ^ k) (hadamard R (lifted p (2 ^ k) row)) ≡ false → ⊥
    not_both m e = true≢false (sym m ∙ mds_carried p h (2 ^ k) _ _ (entries p h k row below) ∙ e)

    -- ---- what MDS demands

    module _ (mds : is_mds (numbers p) (elements p) (2 ^ k) (hadamard (numbers p) row) ≡ true) where
      -- no entry is 0
      pub nonzero_entry : (a : ℕ) → a < 2 ^ k → 0 < get_or row a 0
      nonzero_entry a l =
          ⊎_elim (λ z. absurd (true≢false (sym mds ∙ zero_entry_not_mds p h k row below a l z))) (λ g. g) (eq-zero-or-pos (get_or row a 0))

      -- the products of the entries at two pairs of places with the same exclusive or differ
      pub plane_products : (a b c d : ℕ) → a < 2 ^ k → b < 2 ^ k → c < 2 ^ k → d < 2 ^ k → a ≢ c → a ≢ d → bit_xor (bit_xor a b) c ≡ d
          → product p (get_or row a 0) (get_or row b 0) ≡ product p (get_or row c 0) (get_or row d 0) → ⊥
      plane_products a b c d la lb lc ld ac ad q e =
          not_both mds
          (products_not_mds R L k _ (all p) (complete p) a b c d la lb lc ld ac ad q (same_number p _ _ (entry_product a b la lb ∙ e ∙ sym (entry_product c d lc ld))))

    -- ---- what suffices for blocks of one line and of two lines

    module _ (r s : ℕ) where
      -- the i-th of the lines r, the j-th of the columns s, and which entry of the row stands there
      abbrev line : ℕ → ℕ
      line i = get_or (chosen (2 ^ k) r) i 0

      abbrev column : ℕ → ℕ
      column j = get_or (chosen (2 ^ k) s) j 0

      abbrev place : ℕ → ℕ → ℕ
      place i j = bit_xor (line i) (column j)

      -- the block, as elements
      abbrev cut : ℕ → ℕ → Residue p
      cut = block (hadamard R (lifted p (2 ^ k) row)) (chosen (2 ^ k) r) (chosen (2 ^ k) s)

      -- a block that is regular as elements is regular
      regular_as_elements : (m : ℕ) → (Singular R (2 ^ k) (hadamard R (lifted p (2 ^ k) row)) m r s → ⊥)
          → is_regular_block (numbers p) (2 ^ k) (hadamard (numbers p) row) m r s ≡ true
      regular_as_elements m none =
          regular_of (numbers p) (2 ^ k) _ m r s (λ b. none (bridge_singular R (numbers p) (number p) (number_keeps p h) (2 ^ k) _ _ (entries p h k row below) m r s b))

      -- nonzero entries: the blocks of one line are regular
      pub one_regular : ((i : ℕ) → i < 2 ^ k → 0 < get_or row i 0) → is_regular_block (numbers p) (2 ^ k) (hadamard (numbers p) row) 1 r s ≡ true
      unfolding block hadamard
      one_regular positive = regular_as_elements 1 (λ b.
          let l : place 0 0 < 2 ^ k = xor_lt k (line 0) (column 0) (chosen_lt (2 ^ k) r 0 (omega (arith, b.lines))) (chosen_lt (2 ^ k) s 0 (omega (arith, b.columns))) in
          let z : entry (place 0 0) ≡ R.null = sym (det_one R (null_plus R L) cut (L.times_one _)) ∙ L.is_null_holds _ b.null in
          omega (arith, positive (place 0 0) l, word p h k row below (place 0 0) l, ap (number p) z))

      -- different entries, and different products of the entries at two pairs of places of a plane, d the largest: so are those of two lines
      pub two_regular : ((i j : ℕ) → i < 2 ^ k → j < 2 ^ k → get_or row i 0 ≡ get_or row j 0 → i ≡ j)
          → ProductsDiffer (numbers p) (2 ^ k) (λ i. get_or row i 0)
          → is_regular_block (numbers p) (2 ^ k) (hadamard (numbers p) row) 2 r s ≡ true
      unfolding block hadamard
      two_regular different apart = regular_as_elements 2 at
        where
          elements_differ : (i j : ℕ) → i < 2 ^ k → j < 2 ^ k → entry i ≡ entry j → i ≡ j
          elements_differ i j l m e = different i j l m (sym (word p h k row below i l) ∙ ap (number p) e ∙ word p h k row below j m)

          products_differ : ProductsDiffer R (2 ^ k) entry
          products_differ a b d ab bd l c e =
              let la : a < 2 ^ k = omega arith in
              let lb : b < 2 ^ k = omega arith in
              let lc : fourth a b d < 2 ^ k = omega arith in
              apart a b d ab bd l c (sym (entry_product a b la lb) ∙ ap (number p) e ∙ entry_product (fourth a b d) d lc l)

          at : Singular R (2 ^ k) (hadamard R (lifted p (2 ^ k) row)) 2 r s → ⊥
          at b =
              let lt : (i j : ℕ) → i < 2 → j < 2 → place i j < 2 ^ k =
              λ i j l m. xor_lt k (line i) (column j) (chosen_lt (2 ^ k) r i (rw b.lines l)) (chosen_lt (2 ^ k) s j (rw b.columns m)) in
              let lines : line 0 < line 1 = chosen_ascends (2 ^ k) r 0 1 (omega arith) (omega (arith, b.lines)) in
              let columns : column 0 < column 1 = chosen_ascends (2 ^ k) s 0 1 (omega arith) (omega (arith, b.columns)) in
              products_apart R L (2 ^ k) entry elements_differ products_differ (place 0 0) (place 1 1) (place 0 1) (place 1 0)
              (lt 0 0 (omega arith) (omega arith)) (lt 1 1 (omega arith) (omega arith)) (lt 0 1 (omega arith) (omega arith)) (lt 1 0 (omega arith) (omega arith))
              (xor_exchange (line 0) (column 0) (line 1) (column 1))
              (λ q. omega (arith, xor_cancel (line 0) (column 0) (column 1) q))
              (λ q. omega (arith, xor_cancel (column 0) (line 0) (line 1) (xor_comm (column 0) (line 0) ∙ q ∙ xor_comm (line 1) (column 0))))
              (equal_of_sum R L _ _ (sym (det_two R (null_plus R L) cut (L.times_one _) (L.times_one _)) ∙ L.is_null_holds _ b.null))

  -- ---- sums over four places, order 8

  module _ (row : List ℕ) (below : WordsInField p 8 row) (mds : is_mds (numbers p) (elements p) 8 (hadamard (numbers p) row) ≡ true) where
    -- no sum over a coset of a plane is 0
    coset_not_null : (a b d : ℕ) → Plane a b d → (e : ℕ) → e < 8 → (v : ℕ → Bool) → ((i : ℕ) → i < 8 → v i ≡ plane a b d (bit_xor i e))
        → sum_where R 8 v (entry 3 row below) ≡ R.null → ⊥
    coset_not_null a b d q e l v same z =
        not_both 3 row below mds
        (coset_not_mds R L 3 _ (plane a b d) q.subspace (all p) (complete p) e l (sym (where_cong R 8 v _ _ same) ∙ z))

    -- of an involution none is 1 either, since then the other four places add up to 0
    pub plane_sum_holds : sum (numbers p) 8 (λ i. get_or row i 0) ≡ 1 → (a b c d : ℕ) → a < b → b < d → d < 8 → bit_xor (bit_xor a b) d ≡ c
        → 2 ≤ get_or row a 0 ⊕ get_or row b 0 ⊕ get_or row c 0 ⊕ get_or row d 0
    unfolding plane
    plane_sum_holds one a b c d ab bd ld e = two_le _ (λ z. none (same_number p _ _ (value ∙ z))) (λ z. half (same_number p _ _ (value ∙ z)))
      where
        q : Plane a b d
        q = plane_of a b d ab bd ld

        value : (sum_where R 8 (coset a b d) (entry 3 row below)).0 ≡ get_or row a 0 ⊕ get_or row b 0 ⊕ get_or row c 0 ⊕ get_or row d 0
        value =
            let la : a < 8 = omega arith in
            let lb : b < 8 = omega arith in
            let lc : fourth a b d < 8 = xor_lt 3 (bit_xor a b) d (xor_lt 3 a b la lb) ld in
            ap (number p) (where_four R L 8 (entry 3 row below) a b (fourth a b d) d la lb lc ld)
            ∙ ap₂ ◌⊕◌ (ap₂ ◌⊕◌ (ap₂ ◌⊕◌ (at a la) (at b lb)) (at (fourth a b d) lc ∙ ap (λ (i : ℕ). get_or row i 0) e)) (at d ld)
          where
            at : (i : ℕ) → i < 8 → (entry 3 row below i).0 ≡ get_or row i 0
            at = word p h 3 row below

        none : sum_where R 8 (coset a b d) (entry 3 row below) ≡ R.null → ⊥
        none = coset_not_null a b d q a (omega arith) (coset a b d) (λ i l. ap (coset a b d) (sym (xor_xor i a)))

        half : sum_where R 8 (coset a b d) (entry 3 row below) ≡ R.one → ⊥
        half z =
            coset_not_null a b d q (other a b d) q.outside (λ i. xor true (coset a b d i)) (λ i l. sym (q.others i l))
            (where_xor R L 8 (entry 3 row below) (λ i. true) (coset a b d)
            ∙ ap₂ R.plus (same_number p _ R.one (sums p h 3 row below ∙ one)) z
            ∙ L.plus_self R.one)
