-- Hadamard matrices over the numbers below 2^m: involution, MDS, and rows with their places moved: an affine change of the places keeps
-- branch number, involution, counts and depth (`affine_row`). Assumes nothing.
use mathlib.Core.Path.{◌≡◌, sym, ap, ◌∙◌}
use mathlib.Core.Bool.{true, false}
use mathlib.Core.List.{List}
use mathlib.Core.Logic.{◌≢◌}
use Prim.Native.Nat.{ℕ, ◌-◌, ◌*◌, ◌^◌, ◌≤◌, ◌<◌}
use lib.Bits.{bit_xor, xor_lt}
use lib.Dec.{eqb}
use lib.ListN.{get_or}
use borrow.Author.Tests.{eqb-true, eq-eqb}
use Rattle.algebra.specs.Operations.{Operations}
use Rattle.algebra.proofs.FieldLaws.{Field}
use Rattle.algebra.specs.Matrix.{tabulate, sum, hadamard, branch_number, is_mds, is_involution}
use Rattle.algebra.specs.Places.{moved, Affine}
use Rattle.algebra.proofs.Words.{get_d_tabulate, tabulate_cong}
use Rattle.algebra.proofs.Hadamard.{involution_sum, sum_involution, null_not_mds}
use Rattle.algebra.proofs.Planes.{equal_not_mds}
use Rattle.algebra.proofs.Symmetry.{same_bool, branch_row, mds_row, involution_row}
use Rattle.algebra.proofs.Bridge.{sum_bridge}
use Rattle.field.specs.Polynomial.{Modulus}
use Rattle.lines.specs.Numbers.{numbers, elements, WordsInField}
use Rattle.lines.specs.Counts.{row_count, matrix_count}
use Rattle.lines.specs.Depths.{line_depth}
use Rattle.lines.proofs.Tallies.{count_moved, hadamard_count}
use Rattle.lines.proofs.Depths.{depth_moved}
use Rattle.matrix.specs.Steps.Regular.{regular_between}
use Rattle.matrix.proofs.Translates as Translates
use Rattle.matrix.proofs.Residues.{Residue, number, lift, lift_number, same_number, residue_list as all, residues_complete as complete, residues, number_keeps, residues_field}
use Rattle.matrix.proofs.Residues.{branch_carried, mds_carried, involution_carried, regular_carried}

-- the first n entries of a row, as elements
pub lifted : (p n : ℕ) → List ℕ → List (Residue p)
lifted p n row = tabulate n (λ i. lift p (get_or row i 0))

-- entry i of a row of any length, as an element
pub lifted_word : (p : ℕ) (h : Modulus p) (n : ℕ) (row : List ℕ) → WordsInField p n row → (i : ℕ) → i < n
    → (get_or (lifted p n row) i (residues p h).null).0 ≡ get_or row i 0
unfolding lifted WordsInField
lifted_word p h n row below i l =
    ap (number p) (get_d_tabulate n (λ i. lift p (get_or row i 0)) i (residues p h).null l) ∙ lift_number p (get_or row i 0) (below i l)

module _ (p : ℕ) (h : Modulus p) (k : ℕ) where
  -- the field of elements
  abbrev R : Operations
  R = residues p h

  abbrev L : Field R
  L = residues_field p h

  module _ (row : List ℕ) (below : WordsInField p (2 ^ k) row) where
    -- entry i, as an element
    pub word : (i : ℕ) → i < 2 ^ k → (get_or (lifted p (2 ^ k) row) i R.null).0 ≡ get_or row i 0
    word = lifted_word p h (2 ^ k) row below

    -- the matrix's entries
    pub entries : (i j : ℕ) → i < 2 ^ k → j < 2 ^ k → (hadamard R (lifted p (2 ^ k) row) i j).0 ≡ hadamard (numbers p) row i j
    unfolding hadamard
    entries i j l m = word (bit_xor i j) (xor_lt k i j l m)

    -- the row's sum
    pub sums : (sum R (2 ^ k) (λ i. get_or (lifted p (2 ^ k) row) i R.null)).0 ≡ sum (numbers p) (2 ^ k) (λ i. get_or row i 0)
    sums = sum_bridge R (numbers p) (number p) (number_keeps p h) (2 ^ k) _ _ word

    -- a Hadamard matrix is an involution exactly where the sum of its row is 1
    pub hadamard_involution : is_involution (numbers p) (elements p) (2 ^ k) (hadamard (numbers p) row)
        ≡ eqb (sum (numbers p) (2 ^ k) (λ i. get_or row i 0)) 1
    hadamard_involution =
        involution_carried p h (2 ^ k) _ _ entries
        ∙ same_bool _ _
        (λ t. eq-eqb _ 1 (sym sums ∙ ap (number p) (involution_sum R L k _ (all p) (complete p) t)))
        (λ t. sum_involution R L k _ (all p) (complete p) (same_number p _ _ (sums ∙ eqb-true _ 1 t)))

    -- the same in two directions
    pub involution_row_sum : is_involution (numbers p) (elements p) (2 ^ k) (hadamard (numbers p) row) ≡ true
        → sum (numbers p) (2 ^ k) (λ i. get_or row i 0) ≡ 1
    involution_row_sum t = eqb-true _ 1 (sym hadamard_involution ∙ t)

    pub row_sum_involution : sum (numbers p) (2 ^ k) (λ i. get_or row i 0) ≡ 1
        → is_involution (numbers p) (elements p) (2 ^ k) (hadamard (numbers p) row) ≡ true
    row_sum_involution e = hadamard_involution ∙ eq-eqb _ 1 e

    -- two equal entries: not MDS
    pub equal_entries_not_mds : (a b : ℕ) → a < 2 ^ k → b < 2 ^ k → a ≢ b → get_or row a 0 ≡ get_or row b 0
        → is_mds (numbers p) (elements p) (2 ^ k) (hadamard (numbers p) row) ≡ false
    equal_entries_not_mds a b l m d e =
        mds_carried p h (2 ^ k) _ _ entries
        ∙ equal_not_mds R L k _ (all p) (complete p) a b l m d
        (same_number p _ _ (word a l ∙ e ∙ sym (word b m)))

    -- a zero entry: not MDS
    pub zero_entry_not_mds : (a : ℕ) → a < 2 ^ k → get_or row a 0 ≡ 0
        → is_mds (numbers p) (elements p) (2 ^ k) (hadamard (numbers p) row) ≡ false
    zero_entry_not_mds a l z =
        mds_carried p h (2 ^ k) _ _ entries
        ∙ null_not_mds R L k _ (all p) (complete p) a l (same_number p _ _ (word a l ∙ z))

    -- of a Hadamard involution the blocks up to half the order decide on MDS, of the choices of columns those that no translation makes smaller
    pub half_is_enough : 1 ≤ k → k ≤ 3 → sum (numbers p) (2 ^ k) (λ i. get_or row i 0) ≡ 1
        → is_mds (numbers p) (elements p) (2 ^ k) (hadamard (numbers p) row)
        ≡ regular_between (numbers p) (2 ^ k) (hadamard (numbers p) row) 1 0 (2 ^ (k - 1))
    half_is_enough low high one =
        mds_carried p h (2 ^ k) _ _ entries
        ∙ Translates.half_is_enough R L (all p) (complete p) k low high _ (same_number p _ _ (sums ∙ one))
        ∙ sym (regular_carried p h (2 ^ k) _ _ entries 1 0 (2 ^ (k - 1)))

  -- ---- the row with its places moved

  module _ (row : List ℕ) (below : WordsInField p (2 ^ k) row) (σ ρ : ℕ → ℕ) (a : Affine k σ ρ) where
    -- the moved entries are elements
    pub moved_below : WordsInField p (2 ^ k) (moved (numbers p) (2 ^ k) σ row)
    unfolding WordsInField
    moved_below i l = rw (get_d_tabulate (2 ^ k) (λ i. get_or row (σ i) 0) i 0 l) (below (σ i) (a.inverse.there i l))

    -- as elements they are the elements moved
    lifted_moved : lifted p (2 ^ k) (moved (numbers p) (2 ^ k) σ row) ≡ moved R (2 ^ k) σ (lifted p (2 ^ k) row)
    unfolding lifted
    lifted_moved =
        tabulate_cong (2 ^ k) _ _ (λ i l.
        ap (lift p) (get_d_tabulate (2 ^ k) (λ i. get_or row (σ i) 0) i 0 l)
        ∙ sym (get_d_tabulate (2 ^ k) (λ i. lift p (get_or row i 0)) (σ i) R.null (a.inverse.there i l)))

    moved_entries : (i j : ℕ) → i < 2 ^ k → j < 2 ^ k
        → (hadamard R (moved R (2 ^ k) σ (lifted p (2 ^ k) row)) i j).0 ≡ hadamard (numbers p) (moved (numbers p) (2 ^ k) σ row) i j
    moved_entries i j l m = rw (← lifted_moved) (entries (moved (numbers p) (2 ^ k) σ row) moved_below i j l m)

    -- the branch number stays
    pub moved_row_branch : branch_number (numbers p) (elements p) (2 ^ k) (hadamard (numbers p) (moved (numbers p) (2 ^ k) σ row))
        ≡ branch_number (numbers p) (elements p) (2 ^ k) (hadamard (numbers p) row)
    moved_row_branch =
        branch_carried p h (2 ^ k) _ _ moved_entries
        ∙ branch_row R L k _ σ ρ a (all p) (complete p)
        ∙ sym (branch_carried p h (2 ^ k) _ _ (entries row below))

    -- the answer to MDS stays
    pub moved_row_mds : is_mds (numbers p) (elements p) (2 ^ k) (hadamard (numbers p) (moved (numbers p) (2 ^ k) σ row))
        ≡ is_mds (numbers p) (elements p) (2 ^ k) (hadamard (numbers p) row)
    moved_row_mds =
        mds_carried p h (2 ^ k) _ _ moved_entries
        ∙ mds_row R L k _ σ ρ a (all p) (complete p)
        ∙ sym (mds_carried p h (2 ^ k) _ _ (entries row below))

    -- an involution's row stays one
    pub moved_row_involution : is_involution (numbers p) (elements p) (2 ^ k) (hadamard (numbers p) (moved (numbers p) (2 ^ k) σ row))
        ≡ is_involution (numbers p) (elements p) (2 ^ k) (hadamard (numbers p) row)
    moved_row_involution =
        involution_carried p h (2 ^ k) _ _ moved_entries
        ∙ involution_row R L k _ σ ρ a (all p) (complete p)
        ∙ sym (involution_carried p h (2 ^ k) _ _ (entries row below))

    -- the matrix's count stays, since the row's does
    pub moved_matrix_count : matrix_count p (2 ^ k) (hadamard (numbers p) (moved (numbers p) (2 ^ k) σ row)) ≡ matrix_count p (2 ^ k) (hadamard (numbers p) row)
    moved_matrix_count =
        hadamard_count p k (moved (numbers p) (2 ^ k) σ row) ∙ ap (λ (c : ℕ). 2 ^ k * c) (count_moved p (2 ^ k) σ ρ a.inverse row) ∙ sym (hadamard_count p k row)

    -- an affine change of the places keeps branch number, involution, row count, matrix count and depth
    pub affine_row : (branch_number (numbers p) (elements p) (2 ^ k) (hadamard (numbers p) (moved (numbers p) (2 ^ k) σ row))
        ≡ branch_number (numbers p) (elements p) (2 ^ k) (hadamard (numbers p) row))
        × (is_involution (numbers p) (elements p) (2 ^ k) (hadamard (numbers p) (moved (numbers p) (2 ^ k) σ row))
        ≡ is_involution (numbers p) (elements p) (2 ^ k) (hadamard (numbers p) row))
        × (row_count p (2 ^ k) (λ j. get_or (moved (numbers p) (2 ^ k) σ row) j 0) ≡ row_count p (2 ^ k) (λ j. get_or row j 0))
        × (matrix_count p (2 ^ k) (hadamard (numbers p) (moved (numbers p) (2 ^ k) σ row)) ≡ matrix_count p (2 ^ k) (hadamard (numbers p) row))
        × (line_depth p (2 ^ k) (λ j. get_or (moved (numbers p) (2 ^ k) σ row) j 0) ≡ line_depth p (2 ^ k) (λ j. get_or row j 0))
    affine_row = (
      moved_row_branch,
      moved_row_involution,
      count_moved p (2 ^ k) σ ρ a.inverse row,
      moved_matrix_count,
      depth_moved p (2 ^ k) σ ρ a.inverse row,
    )
