-- Lines and columns in another order: branch number and involution stay.
-- Assumes nothing.
use mathlib.Core.Path.{◌≡◌, refl, sym, ap, ap₂, ◌∙◌, subst}
use mathlib.Core.Bool.{Bool, true, false}
use mathlib.Core.List.{List, Memᴰ}
use mathlib.Core.Logic.{⊎_elim}
use Prim.Native.Nat.{ℕ, suc, ◌+◌, ◌^◌, ◌≤◌, ◌<◌}
use native.Mathlib.Nat.{eq-zero-or-pos}
use native.Mathlib.Omega.{arith}
use lib.Bits.{bit_xor, xor_comm, xor_lt}
use lib.Dec.{eqb}
use lib.ListN.{length, get_or}
use lib.Pow.{pow_pos}
use Rattle.algebra.specs.Operations.{Operations}
use Rattle.algebra.proofs.FieldLaws.{Field}
use Rattle.algebra.specs.Matrix.{sum, apply, hadamard, weight, activity, branch_number, is_mds, is_involution}
use Rattle.algebra.specs.Places.{moved, Inverse, Affine}
use Rattle.algebra.proofs.Words.{length_tabulate, get_d_tabulate, tabulate_cong, tabulate_of}
use Rattle.algebra.proofs.Sums.{additive, Naturals, naturals, turned, composed, sum_cong, sum_permuted}
use Rattle.algebra.proofs.Weights.{length_apply, get_d_apply, counts, weight_tabulate, weight_sum}
use Rattle.algebra.proofs.Branch.{branch_le, branch_attained}
use Rattle.algebra.proofs.Involution.{involution_back, back_involution}
use Rattle.algebra.proofs.Bridge.{branch_cong, involution_cong}
use Rattle.algebra.proofs.Hadamard.{involution_sum, sum_involution}
use Rattle.algebra.proofs.Xor.{xor_assoc, xor_between, xor_own}

-- ---- lists

module _ (K : Operations) (n : ℕ) (σ ρ : ℕ → ℕ) (v : Inverse n σ ρ) (x : List K.Element) (long : length x ≡ n) where
  -- the weight stays
  pub weight_moved : weight K (moved K n σ x) ≡ weight K x
  weight_moved =
      weight_tabulate K n (λ i. get_or x (σ i) K.null)
      ∙ sum_permuted Naturals naturals n σ ρ v (λ i. counts K (get_or x i K.null))
      ∙ sym (weight_sum K n x long)

  -- moved there and back
  pub moved_back : moved K n σ (moved K n ρ x) ≡ x
  moved_back =
      sym (tabulate_of K.null n x _ long (λ i l.
      sym (get_d_tabulate n (λ i. get_or x (ρ i) K.null) (σ i) K.null (v.there i l) ∙ ap (λ (j : ℕ). get_or x j K.null) (v.back_there i l))))

-- tests that pass together are equal
pub same_bool : (a b : Bool) → (a ≡ true → b ≡ true) → (b ≡ true → a ≡ true) → a ≡ b
same_bool true b f g = sym (f refl)
same_bool false true f g = g refl
same_bool false false f g = refl

-- ---- matrices

module _ (K : Operations) (L : Field K) (n : ℕ) (f : ℕ → ℕ → K.Element) (σ ρ : ℕ → ℕ) (v : Inverse n σ ρ) (τ ω : ℕ → ℕ) (w : Inverse n τ ω) where
  -- the product of the moved matrix with the moved input is the moved product
  pub apply_moved : (x : List K.Element) → apply K n (λ i j. f (σ i) (τ j)) (moved K n τ x) ≡ moved K n σ (apply K n f x)
  apply_moved x = unfold apply in tabulate_cong n _ _ (λ i l.
      sum_cong K n _ (λ j. K.times (f (σ i) (τ j)) (get_or x (τ j) K.null))
      (λ j m. ap (K.times (f (σ i) (τ j))) (get_d_tabulate n (λ j. get_or x (τ j) K.null) j K.null m))
      ∙ sum_permuted K (additive K L) n τ ω w (λ j. K.times (f (σ i) j) (get_or x j K.null))
      ∙ sym (get_d_apply K n f x (σ i) (v.there i l)))

  -- so the activity stays
  pub activity_moved : (x : List K.Element) → length x ≡ n
      → activity K n (λ i j. f (σ i) (τ j)) (moved K n τ x) ≡ activity K n f x
  unfolding activity
  activity_moved x e =
      ap₂ ◌+◌ (weight_moved K n τ ω w x e)
      (ap (weight K) (apply_moved x) ∙ weight_moved K n σ ρ v (apply K n f x) (length_apply K n f x))

module _ (K : Operations) (L : Field K) (elements : List K.Element) (complete : (a : K.Element) → Memᴰ a elements) (n : ℕ) where
  moved_le : (f : ℕ → ℕ → K.Element) (σ ρ : ℕ → ℕ) → Inverse n σ ρ → (τ ω : ℕ → ℕ) → Inverse n τ ω → 0 < n
      → branch_number K elements n (λ i j. f (σ i) (τ j)) ≤ branch_number K elements n f
  moved_le f σ ρ v τ ω w h =
      let x = branch_attained K L elements complete n f h in
      let least = branch_le K L elements complete n (λ i j. f (σ i) (τ j)) (moved K n τ x.0) (length_tabulate n (λ i. get_or x.0 (τ i) K.null)) in
      omega (arith, x.2, x.3, weight_moved K n τ ω w x.0 x.1, activity_moved K L n f σ ρ v τ ω w x.0 x.1, least (omega (arith, x.2, weight_moved K n τ ω w x.0 x.1)))

  -- the branch number stays
  pub branch_moved : (f : ℕ → ℕ → K.Element) (σ ρ : ℕ → ℕ) → Inverse n σ ρ → (τ ω : ℕ → ℕ) → Inverse n τ ω
      → branch_number K elements n (λ i j. f (σ i) (τ j)) ≡ branch_number K elements n f
  branch_moved f σ ρ v τ ω w =
      ⊎_elim (λ (z : n ≡ 0). branch_cong K n _ f (λ i j l m. absurd (omega arith)) elements)
      (λ (h : 0 < n).
      let forth = moved_le f σ ρ v τ ω w h in
      let back = moved_le (λ i j. f (σ i) (τ j)) ρ σ (turned v) ω τ (turned w) h in
      let same = branch_cong K n (λ i j. f (σ (ρ i)) (τ (ω j))) f (λ i j l m. ap₂ f (v.there_back i l) (w.there_back j m)) elements in
      omega arith)
      (eq-zero-or-pos n)

  -- MDS stays
  pub mds_moved : (f : ℕ → ℕ → K.Element) (σ ρ : ℕ → ℕ) → Inverse n σ ρ → (τ ω : ℕ → ℕ) → Inverse n τ ω
      → is_mds K elements n (λ i j. f (σ i) (τ j)) ≡ is_mds K elements n f
  unfolding is_mds
  mds_moved f σ ρ v τ ω w = ap (λ (b : ℕ). eqb b (suc n)) (branch_moved f σ ρ v τ ω w)

  moved_involution : (f : ℕ → ℕ → K.Element) (σ ρ : ℕ → ℕ) → Inverse n σ ρ → is_involution K elements n f ≡ true
      → is_involution K elements n (λ i j. f (σ i) (σ j)) ≡ true
  moved_involution f σ ρ v t = back_involution K L elements complete n g twice
    where
      g : ℕ → ℕ → K.Element
      g i j = f (σ i) (σ j)

      twice_moved : (x : List K.Element) → length x ≡ n → apply K n g (apply K n g (moved K n σ x)) ≡ moved K n σ x
      twice_moved x e =
          ap (apply K n g) (apply_moved K L n f σ ρ v σ ρ v x) ∙ apply_moved K L n f σ ρ v σ ρ v (apply K n f x)
          ∙ ap (moved K n σ) (involution_back K L elements complete n f t x e)

      twice : (y : List K.Element) → length y ≡ n → apply K n g (apply K n g y) ≡ y
      twice y e =
          subst (λ z. apply K n g (apply K n g z) ≡ z) (moved_back K n σ ρ v y e)
          (twice_moved (moved K n ρ y) (length_tabulate n (λ i. get_or y (ρ i) K.null)))

  -- an involution stays one, where lines and columns are moved alike
  pub involution_moved : (f : ℕ → ℕ → K.Element) (σ ρ : ℕ → ℕ) → Inverse n σ ρ
      → is_involution K elements n (λ i j. f (σ i) (σ j)) ≡ is_involution K elements n f
  involution_moved f σ ρ v =
      let same = involution_cong K n (λ i j. f (σ (ρ i)) (σ (ρ j))) f (λ i j l m. ap₂ f (v.there_back i l) (v.there_back j m)) elements in
      same_bool (is_involution K elements n (λ i j. f (σ i) (σ j))) (is_involution K elements n f)
      (λ t. sym same ∙ moved_involution (λ i j. f (σ i) (σ j)) ρ σ (turned v) t) (moved_involution f σ ρ v)

-- ---- Hadamard matrices

-- lines and columns moved by exclusive or with t: the matrix stays as it is
pub hadamard_translated : (K : Operations) (row : List K.Element) (t i j : ℕ) → hadamard K row (bit_xor i t) (bit_xor j t) ≡ hadamard K row i j
unfolding hadamard
hadamard_translated K row t i j = ap (λ (c : ℕ). get_or row c K.null) (ap (bit_xor (bit_xor i t)) (xor_comm j t) ∙ xor_between i t j)

module _ (K : Operations) (L : Field K) (k : ℕ) (row : List K.Element) where
  -- an affine change of the places
  module _ (σ ρ : ℕ → ℕ) (a : Affine k σ ρ) where
    -- the matrix of the moved row is the matrix with moved lines and columns
    hadamard_moved : (i j : ℕ) → i < 2 ^ k → j < 2 ^ k
        → hadamard K (moved K (2 ^ k) σ row) i j ≡ hadamard K row (σ i) (bit_xor (σ j) (σ 0))
    unfolding hadamard
    hadamard_moved i j l m =
        get_d_tabulate (2 ^ k) (λ i. get_or row (σ i) K.null) (bit_xor i j) K.null (xor_lt k i j l m)
        ∙ ap (λ (c : ℕ). get_or row c K.null) (a.bits i j l m ∙ xor_assoc (σ i) (σ j) (σ 0))

    columns : Inverse (2 ^ k) (λ j. bit_xor (σ j) (σ 0)) (λ j. ρ (bit_xor j (σ 0)))
    columns = composed a.inverse (xor_own k (σ 0) (a.inverse.there 0 (pow_pos k)))

    sum_moved : sum K (2 ^ k) (λ i. get_or (moved K (2 ^ k) σ row) i K.null) ≡ sum K (2 ^ k) (λ i. get_or row i K.null)
    sum_moved =
        sum_cong K (2 ^ k) _ (λ i. get_or row (σ i) K.null) (λ i l. get_d_tabulate (2 ^ k) (λ i. get_or row (σ i) K.null) i K.null l)
        ∙ sum_permuted K (additive K L) (2 ^ k) σ ρ a.inverse (λ i. get_or row i K.null)

    module _ (elements : List K.Element) (complete : (a : K.Element) → Memᴰ a elements) where
      -- the moved row has the same branch number
      pub branch_row : branch_number K elements (2 ^ k) (hadamard K (moved K (2 ^ k) σ row)) ≡ branch_number K elements (2 ^ k) (hadamard K row)
      branch_row =
          branch_cong K (2 ^ k) _ (λ i j. hadamard K row (σ i) (bit_xor (σ j) (σ 0))) hadamard_moved elements
          ∙ branch_moved K L elements complete (2 ^ k) (hadamard K row) σ ρ a.inverse _ _ columns

      -- the same answer to MDS
      pub mds_row : is_mds K elements (2 ^ k) (hadamard K (moved K (2 ^ k) σ row)) ≡ is_mds K elements (2 ^ k) (hadamard K row)
      unfolding is_mds
      mds_row = ap (λ (b : ℕ). eqb b (suc (2 ^ k))) branch_row

      -- and is an involution's row exactly if the row is
      pub involution_row : is_involution K elements (2 ^ k) (hadamard K (moved K (2 ^ k) σ row)) ≡ is_involution K elements (2 ^ k) (hadamard K row)
      involution_row =
          same_bool _ _
          (λ t. sum_involution K L k row elements complete (sym sum_moved ∙ involution_sum K L k (moved K (2 ^ k) σ row) elements complete t))
          (λ t. sum_involution K L k (moved K (2 ^ k) σ row) elements complete (sum_moved ∙ involution_sum K L k row elements complete t))
