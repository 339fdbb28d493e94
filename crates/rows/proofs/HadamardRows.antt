-- Good rows of order 4 and 8: the exclusive or is 1, the entries differ, few square blocks decide, and the index maps keep them
-- good. So the lightest row is the lightest of the canonical ones.
-- Assumes nothing.
use mathlib.Core.Path.{◌≡◌, refl, sym, ap, ap₂, subst, ◌∙◌}
use mathlib.Core.Logic.{⊎_elim}
use mathlib.Core.Bool.{Bool, true, false, ◌&&◌, true≢false}
use mathlib.Core.List.{List, Memᴰ}
use Prim.Native.Nat.{ℕ, ◌-◌, ◌/◌, ◌^◌, ◌≤◌, ◌<◌}
use native.Mathlib.Omega.{arith}
use lib.Dec.{eqb}
use lib.ListN.{length, get_or}
use borrow.Author.Tests.{eqb-true, eqb-false}
use Rattle.algebra.specs.Matrix.{sum, hadamard, is_mds, is_involution, words}
use Rattle.algebra.proofs.Involution.{and_left, and_right}
use Rattle.algebra.specs.Places.{Affine}
use Rattle.field.specs.Polynomial.{Modulus, degree}
use Rattle.lines.specs.Numbers.{numbers, elements, WordsInField}
use Rattle.lines.specs.Depths.{output_ones, depth_of}
use Rattle.lines.proofs.Depths.{bit_not_deeper, line_depth_least}
use Rattle.matrix.specs.Steps.Regular.{regular_between}
use Rattle.matrix.proofs.Residues.{lift, lift_number, regular_carried}
use Rattle.matrix.proofs.Rows.{involution_row_sum, row_sum_involution, equal_entries_not_mds, half_is_enough, moved_row_mds, moved_row_involution}
use Rattle.matrix.proofs.Planes.{nonzero_entry}
use Rattle.rows.specs.Lightest.{Earlier, ascending, lightest, rows_over}
use Rattle.rows.specs.Steps.IndexMaps.{Move, from, moves, moved, canonical}
use Rattle.rows.specs.Shape.{row_matrix, is_good, hadamard_shape}
use Rattle.rows.specs.Keys.{depth_of_row, key_of, lightest_row}
use Rattle.rows.specs.Steps.Orders.{SearchOrder}
use Rattle.rows.proofs.Rows.{Sorted, get_d_mem, mem_words, sorted_words, mem_ascending, sorted_ascending}
use Rattle.rows.proofs.Keys.{key_permuted}
use Rattle.rows.proofs.IndexMaps.{moves_sound, moves_inverse, moved_word, MovedAmong, canonical_rows}

-- ---- the order is a power of 2

-- the exponent
pub record Power (n : ℕ) : Type 0 where
  pub k : ℕ
  pub positive : 1 ≤ k
  pub most : k ≤ 3
  pub is : n ≡ 2 ^ k
  pub half : n / 2 ≡ 2 ^ (k - 1)

pub power : (n : ℕ) → SearchOrder n → Power n
power n o = ⊎_elim (λ (e : n ≡ 4). rw e four) (λ (e : n ≡ 8). rw e eight) o
  where
    four : Power 4
    four = record { k = 2; positive = omega arith; most = omega arith; is = refl; half = refl }

    eight : Power 8
    eight = record { k = 3; positive = omega arith; most = omega arith; is = refl; half = refl }

-- ---- one row

-- a good row, by its Hadamard matrix
pub good_hadamard : (p n : ℕ) (row : List ℕ)
    → is_good hadamard_shape p n row
    ≡ (is_involution (numbers p) (elements p) n (hadamard (numbers p) row) && is_mds (numbers p) (elements p) n (hadamard (numbers p) row))
unfolding is_good hadamard_shape row_matrix hadamard
good_hadamard p n row = refl

-- its matrix is MDS
pub good_mds : (p n : ℕ) (row : List ℕ) → is_good hadamard_shape p n row ≡ true → is_mds (numbers p) (elements p) n (hadamard (numbers p) row) ≡ true
good_mds p n row g = and_right (is_involution (numbers p) (elements p) n (hadamard (numbers p) row)) _ (sym (good_hadamard p n row) ∙ g)

module _ (p : ℕ) (h : Modulus p) (k : ℕ) (row : List ℕ) (below : WordsInField p (2 ^ k) row) where
  -- the exclusive or of a good row is 1
  sum_of : is_good hadamard_shape p (2 ^ k) row ≡ true → sum (numbers p) (2 ^ k) (λ i. get_or row i 0) ≡ 1
  sum_of g = involution_row_sum p h k row below (and_left _ _ (sym (good_hadamard p (2 ^ k) row) ∙ g))

  -- its entries are not 0
  positive_of : is_good hadamard_shape p (2 ^ k) row ≡ true → (i : ℕ) → i < 2 ^ k → 0 < get_or row i 0
  positive_of g = nonzero_entry p h k row below (good_mds p (2 ^ k) row g)

  -- its entries differ
  different_of : is_good hadamard_shape p (2 ^ k) row ≡ true → (i j : ℕ) → i < 2 ^ k → j < 2 ^ k → get_or row i 0 ≡ get_or row j 0 → i ≡ j
  different_of g i j a b e =
      go (good_mds p (2 ^ k) row g) (eqb i j) refl
    where
      go : is_mds (numbers p) (elements p) (2 ^ k) (hadamard (numbers p) row) ≡ true → (t : Bool) → eqb i j ≡ t → i ≡ j
      go f true q = eqb-true i j q
      go f false q = absurd (true≢false (sym f ∙ equal_entries_not_mds p h k row below i j a b (eqb-false i j q) e))

  -- few square blocks decide
  regular_of : 1 ≤ k → k ≤ 3 → sum (numbers p) (2 ^ k) (λ i. get_or row i 0) ≡ 1
      → is_good hadamard_shape p (2 ^ k) row ≡ regular_between (numbers p) (2 ^ k) (hadamard (numbers p) row) 1 0 (2 ^ (k - 1))
  regular_of g u one =
      good_hadamard p (2 ^ k) row ∙ (rw (row_sum_involution p h k row below one) (half_is_enough p h k row below g u one))

  -- a move of the places keeps it good
  moved_of : (m : Move) → Memᴰ m (moves (2 ^ k)) → is_good hadamard_shape p (2 ^ k) (moved (2 ^ k) m row) ≡ is_good hadamard_shape p (2 ^ k) row
  unfolding moved
  moved_of m i =
      let a : Affine k (from m) (from m) = record { inverse = moves_inverse (2 ^ k) m i; bits = (moves_sound (2 ^ k) m i).bits } in
      good_hadamard p (2 ^ k) (moved (2 ^ k) m row)
      ∙ ap₂ ◌&&◌ (moved_row_involution p h k row below (from m) (from m) a) (moved_row_mds p h k row below (from m) (from m) a)
      ∙ sym (good_hadamard p (2 ^ k) row)

module _ (p n : ℕ) (h : Modulus p) (o : SearchOrder n) (row : List ℕ) (below : WordsInField p n row) where
  -- the same, of order 4 or 8
  pub good_sum : is_good hadamard_shape p n row ≡ true → sum (numbers p) n (λ i. get_or row i 0) ≡ 1
  good_sum =
      subst (λ (n : ℕ). WordsInField p n row → is_good hadamard_shape p n row ≡ true → sum (numbers p) n (λ i. get_or row i 0) ≡ 1) (sym (power n o).is)
      (λ b. sum_of p h (power n o).k row b) below

  pub good_positive : is_good hadamard_shape p n row ≡ true → (i : ℕ) → i < n → 0 < get_or row i 0
  good_positive =
      subst (λ (n : ℕ). WordsInField p n row → is_good hadamard_shape p n row ≡ true → (i : ℕ) → i < n → 0 < get_or row i 0) (sym (power n o).is)
      (λ b. positive_of p h (power n o).k row b) below

  pub good_different : is_good hadamard_shape p n row ≡ true → (i j : ℕ) → i < n → j < n → get_or row i 0 ≡ get_or row j 0 → i ≡ j
  good_different =
      subst (λ (n : ℕ). WordsInField p n row → is_good hadamard_shape p n row ≡ true → (i j : ℕ) → i < n → j < n → get_or row i 0 ≡ get_or row j 0 → i ≡ j) (sym (power n o).is)
      (λ b. different_of p h (power n o).k row b) below

  pub good_regular : sum (numbers p) n (λ i. get_or row i 0) ≡ 1 → is_good hadamard_shape p n row ≡ regular_between (numbers p) n (hadamard (numbers p) row) 1 0 (n / 2)
  good_regular one =
      subst (λ (m : ℕ). WordsInField p m row → sum (numbers p) m (λ i. get_or row i 0) ≡ 1 → is_good hadamard_shape p m row ≡ regular_between (numbers p) m (hadamard (numbers p) row) 1 0 (2 ^ ((power n o).k - 1)))
      (sym (power n o).is) (λ b. regular_of p h (power n o).k row b (power n o).positive (power n o).most) below one
      ∙ ap (regular_between (numbers p) n (hadamard (numbers p) row) 1 0) (sym (power n o).half)

  pub good_moved : (m : Move) → Memᴰ m (moves n) → is_good hadamard_shape p n (moved n m row) ≡ is_good hadamard_shape p n row
  good_moved =
      subst (λ (n : ℕ). WordsInField p n row → (m : Move) → Memᴰ m (moves n) → is_good hadamard_shape p n (moved n m row) ≡ is_good hadamard_shape p n row) (sym (power n o).is)
      (λ b. moved_of p h (power n o).k row b) below

-- the test of the blocks depends on the entries alone
pub regular_same : (p n : ℕ) → Modulus p → (f g : ℕ → ℕ → ℕ) → ((i j : ℕ) → i < n → j < n → f i j < 2 ^ degree p)
    → ((i j : ℕ) → i < n → j < n → f i j ≡ g i j) → (look above most : ℕ)
    → regular_between (numbers p) n f look above most ≡ regular_between (numbers p) n g look above most
regular_same p n h f g below same look above most =
    regular_carried p h n f (λ i j. lift p (f i j)) (λ i j a b. lift_number p (f i j) (below i j a b)) look above most
    ∙ sym (regular_carried p h n g (λ i j. lift p (f i j)) (λ i j a b. lift_number p (f i j) (below i j a b) ∙ same i j a b) look above most)

-- ---- the depth of a row

-- it is the greatest over the m bits of the first output of its matrix: none of them is deeper
pub row_bit_not_deeper : (p n : ℕ) (row : List ℕ) (b : ℕ) → b < degree p → depth_of (output_ones p n (hadamard (numbers p) row 0) b) ≤ depth_of_row p n row
unfolding depth_of_row hadamard
row_bit_not_deeper p n row b l = bit_not_deeper p n (λ j. get_or row j 0) b l

-- and no smaller number is as deep as all of them
pub row_depth_least : (p n : ℕ) (row : List ℕ) (d : ℕ) → ((b : ℕ) → b < degree p → depth_of (output_ones p n (hadamard (numbers p) row 0) b) ≤ d) → depth_of_row p n row ≤ d
unfolding depth_of_row hadamard
row_depth_least p n row d h = line_depth_least p n (λ j. get_or row j 0) d h

-- ---- the key

-- a move keeps it, as any permutation of the places does
pub key_moved : (p n : ℕ) (m : Move) → Memᴰ m (moves n) → (row : List ℕ) → key_of p n (moved n m row) ≡ key_of p n row
unfolding moved
key_moved p n m i row = key_permuted p n (from m) (from m) (moves_inverse n m i) row

-- ---- the canonical rows

-- a row over letters of the field
pub over_in_field : (p n : ℕ) (letters : List ℕ) → ((a : ℕ) → Memᴰ a letters → a < 2 ^ degree p) → (row : List ℕ) → length row ≡ n
    → ((a : ℕ) → Memᴰ a row → Memᴰ a letters) → WordsInField p n row
unfolding WordsInField
over_in_field p n letters below row l over j h = below (get_or row j 0) (over (get_or row j 0) (get_d_mem row j 0 (omega arith)))

-- so is a word over the candidates
pub word_in_field : (p n : ℕ) (cs r : List ℕ) → Memᴰ r (words (ascending (2 ^ degree p) cs) n) → WordsInField p n r
word_in_field p n cs r i =
    let (l, over) = (mem_words (ascending (2 ^ degree p) cs) n r).0 i in
    over_in_field p n (ascending (2 ^ degree p) cs) (λ a m. ((mem_ascending (2 ^ degree p) cs a).0 m).1) r l over

-- of words over the candidates in dictionary order, among which the moved ones are, the lightest is the lightest of the canonical ones
pub canonical_among : (p n : ℕ) → Modulus p → SearchOrder n → (cs : List ℕ) {rows : List (List ℕ)} → Sorted Earlier rows → MovedAmong n rows
    → ((r : List ℕ) → Memᴰ r rows → Memᴰ r (words (ascending (2 ^ degree p) cs) n))
    → lightest (is_good hadamard_shape p n) (key_of p n) rows ≡ lightest (λ r. canonical n r && is_good hadamard_shape p n r) (key_of p n) rows
canonical_among p n h o cs {rows} sorted among isWord =
    canonical_rows (is_good hadamard_shape p n) (key_of p n) sorted n among
    (λ r i. ((mem_words (ascending (2 ^ degree p) cs) n r).0 (isWord r i)).0)
    (λ r i g. good_different p n h o r (in_field r i) g)
    (λ m j r i g. (good_moved p n h o r (in_field r i) m j ∙ g, le_of (key_moved p n m j r)))
  where
    in_field : (r : List ℕ) → Memᴰ r rows → WordsInField p n r
    in_field r i = word_in_field p n cs r (isWord r i)

    le_of : {a b : ℕ} → a ≡ b → a ≤ b
    le_of e = omega arith

-- so of all of them
pub canonical_lightest : (p n : ℕ) → Modulus p → SearchOrder n → (cs : List ℕ)
    → lightest_row hadamard_shape p n cs
    ≡ lightest (λ r. canonical n r && is_good hadamard_shape p n r) (key_of p n) (words (ascending (2 ^ degree p) cs) n)
unfolding lightest_row rows_over
canonical_lightest p n h o cs =
    canonical_among p n h o cs (sorted_words (sorted_ascending (2 ^ degree p) cs) n) (λ m j r i e. moved_word n m j (ascending (2 ^ degree p) cs) r i) (λ r i. i)
