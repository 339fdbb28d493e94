-- Matrices over the numbers below 2^m. Any: with equal products across a block of two lines and two columns it is not MDS (`rectangle_not_mds`),
-- and lines and columns in another order leave the answer (`mds_permuted`). Circulant: from order 3 on none is both MDS and an involution
-- (`circulant_not_involution`), of order 2 one is (`order_two_both`); of their square blocks those decide whose columns no rotation makes smaller
-- (`circulant_decides`).
-- Assumes nothing.
use mathlib.Core.Path.{◌≡◌, refl, sym, ap₂, ◌∙◌}
use mathlib.Core.Bool.{true, false}
use mathlib.Core.List.{List, [], ◌∷◌}
use mathlib.Core.Logic.{◌≢◌}
use Prim.Native.Nat.{ℕ, ◌+◌, ◌-◌, ◌%◌, ◌^◌, ◌≤◌, ◌<◌}
use native.Mathlib.Nat.{mod-lt}
use native.Mathlib.Omega.{arith}
use Rattle.algebra.specs.Operations.{Operations}
use Rattle.algebra.specs.Matrix.{tabulate, up_to, before, words, sum, apply, circulant, weight, activity, least_activity, branch_number, is_mds, same_words, gives_back, is_involution}
use Rattle.algebra.specs.Places.{Inverse}
use Rattle.algebra.proofs.FieldLaws.{Field}
use Rattle.algebra.proofs.Planes.{two_by_two_not_mds}
use Rattle.algebra.proofs.Symmetry.{mds_moved}
use Rattle.algebra.proofs.Circulant.{circulant_no_involution}
use Rattle.field.specs.Polynomial.{◌⊕◌, ◌⊗◌, digits_within, over_digits, degree, reduce, rem, product, Modulus}
use Rattle.lines.specs.Numbers.{numbers, elements, WordsInField}
use Rattle.matrix.specs.Steps.Regular.{regular_between}
use Rattle.matrix.proofs.Rotations.{rotations_decide}
use Rattle.matrix.proofs.Residues.{Residue, lift, lift_number, same_number, residue_list as all, residues_complete as complete, residues, residues_field, mds_carried, involution_carried, regular_carried}
use Rattle.matrix.proofs.Rows.{lifted, lifted_word}

module _ (p : ℕ) (h : Modulus p) (n : ℕ) where
  -- the field of elements
  abbrev R : Operations
  R = residues p h

  abbrev L : Field R
  L = residues_field p h

  -- ---- any matrix

  module _ (f : ℕ → ℕ → ℕ) (below : (i j : ℕ) → i < n → j < n → f i j < 2 ^ degree p) where
    -- its entries, as elements
    abbrev F : ℕ → ℕ → Residue p
    F i j = lift p (f i j)

    entries : (i j : ℕ) → i < n → j < n → (F i j).0 ≡ f i j
    entries i j l m = lift_number p (f i j) (below i j l m)

    -- two lines and two columns with equal products across: not MDS
    pub rectangle_not_mds : (i1 i2 j1 j2 : ℕ) → i1 < n → i2 < n → j1 < n → j2 < n → i1 ≢ i2 → j1 ≢ j2
        → product p (f i1 j1) (f i2 j2) ≡ product p (f i1 j2) (f i2 j1) → is_mds (numbers p) (elements p) n f ≡ false
    rectangle_not_mds i1 i2 j1 j2 li1 li2 lj1 lj2 lines columns e =
        mds_carried p h n f F entries
        ∙ two_by_two_not_mds R L (all p) (complete p) n F i1 i2 j1 j2 li1 li2 lj1 lj2 lines columns
        (same_number p _ _
        (ap₂ (product p) (entries i1 j1 li1 lj1) (entries i2 j2 li2 lj2) ∙ e
        ∙ sym (ap₂ (product p) (entries i1 j2 li1 lj2) (entries i2 j1 li2 lj1))))

    -- lines and columns in another order: MDS stays
    pub mds_permuted : (σ ρ : ℕ → ℕ) → Inverse n σ ρ → (τ ω : ℕ → ℕ) → Inverse n τ ω
        → is_mds (numbers p) (elements p) n (λ i j. f (σ i) (τ j)) ≡ is_mds (numbers p) (elements p) n f
    mds_permuted σ ρ v τ ω w =
        mds_carried p h n _ (λ i j. F (σ i) (τ j)) (λ i j l m. entries (σ i) (τ j) (v.there i l) (w.there j m))
        ∙ mds_moved R L (all p) (complete p) n F σ ρ v τ ω w
        ∙ sym (mds_carried p h n f F entries)

  -- ---- circulant matrices

  module _ (row : List ℕ) (below : WordsInField p n row) where
    -- the matrix's entries, as elements
    circulant_entries : (i j : ℕ) → i < n → j < n → (circulant R n (lifted p n row) i j).0 ≡ circulant (numbers p) n row i j
    unfolding circulant
    circulant_entries i j l m = lifted_word p h n row below ((j + (n - i)) % n) (mod-lt (j + (n - i)) (omega arith))

  module _ (three : 3 ≤ n) (row : List ℕ) (below : WordsInField p n row) where
    -- from order 3 on an MDS circulant matrix is no involution
    pub circulant_not_involution : is_mds (numbers p) (elements p) n (circulant (numbers p) n row) ≡ true
        → is_involution (numbers p) (elements p) n (circulant (numbers p) n row) ≡ false
    circulant_not_involution mds =
        involution_carried p h n _ _ (circulant_entries row below)
        ∙ circulant_no_involution R L (all p) (complete p) n three (lifted p n row) (sym (mds_carried p h n _ _ (circulant_entries row below)) ∙ mds)

  -- of the square blocks those decide whose columns no rotation makes smaller
  pub circulant_decides : 2 ≤ n → n ≤ 8 → (row : List ℕ) → WordsInField p n row
      → is_mds (numbers p) (elements p) n (circulant (numbers p) n row) ≡ regular_between (numbers p) n (circulant (numbers p) n row) n 0 n
  circulant_decides low high row below =
      mds_carried p h n _ _ (circulant_entries row below)
      ∙ rotations_decide R L (all p) (complete p) n low high (lifted p n row)
      ∙ sym (regular_carried p h n _ _ (circulant_entries row below) n 0 n)

-- order 2 is left out: over 7 the row 2 3 is both
pub order_two_both : (is_mds (numbers 7) (elements 7) 2 (circulant (numbers 7) 2 (2 ∷ 3 ∷ [])) ≡ true)
    × (is_involution (numbers 7) (elements 7) 2 (circulant (numbers 7) 2 (2 ∷ 3 ∷ [])) ≡ true)
unfolding is_mds branch_number least_activity activity weight is_involution gives_back same_words apply circulant words before elements up_to tabulate sum product rem reduce degree over_digits digits_within ◌⊗◌ ◌⊕◌
order_two_both = (refl, refl)
