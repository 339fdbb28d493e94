-- A matrix that stays as it is when lines and columns are moved alike, over any field: an input that is moved likewise has as many nonzero
-- words, in and out. So of the choices of columns those suffice to which every choice can be moved. Assumes nothing.
use mathlib.Core.Path.{◌≡◌, sym, ap, ◌∙◌}
use mathlib.Core.Bool.{Bool, true, false, not, ◌&&◌}
use mathlib.Core.List.{List, Memᴰ}
use Prim.Native.Nat.{ℕ, ◌^◌, ◌<◌}
use lib.Dec.{ltb}
use lib.ListN.{length, get_or, length-map, get_or-map}
use borrow.Author.Tests.{ltb-true}
use Rattle.algebra.specs.Operations.{Operations}
use Rattle.algebra.proofs.FieldLaws.{Field}
use Rattle.algebra.specs.Matrix.{tabulate}
use Rattle.algebra.specs.Places.{moved, Inverse}
use Rattle.algebra.proofs.Words.{length_tabulate, tabulate_cong}
use Rattle.algebra.proofs.Involution.{and_left, and_right}
use Rattle.algebra.proofs.Symmetry.{weight_moved, activity_moved}
use Rattle.algebra.proofs.Choices.{digits, mask_of, support, support_mask, digits_mask, mask_lt}
use Rattle.algebra.proofs.Bridge.{map_tabulate, activity_cong}
use Rattle.field.specs.Polynomial.{first_below}
use Rattle.matrix.specs.Steps.Choice.{is_looked_at}
use Rattle.matrix.proofs.Squares.{LookedAt}

-- ---- choices, moved

-- the n digits of a mask at the places σ 0, σ 1, .., as a mask
unfoldable pub placed : ℕ → (ℕ → ℕ) → ℕ → ℕ
placed n σ mask = mask_of (tabulate n (λ i. get_or (digits n mask) (σ i) false))

-- the first of the moves σ 0, σ 1, .. σ (n - 1) to a choice that is looked at
unfoldable pub to_looked : ℕ → ℕ → (ℕ → ℕ → ℕ) → ℕ → ℕ
to_looked look n σ mask = first_below n (λ t. is_looked_at look (placed n (σ t) mask))

-- there is one
unfoldable pub has_looked : ℕ → ℕ → (ℕ → ℕ → ℕ) → ℕ → Bool
has_looked look n σ mask = ltb (to_looked look n σ mask) n && is_looked_at look (placed n (σ (to_looked look n σ mask)) mask)

module _ (K : Operations) (L : Field K) (elements : List K.Element) (complete : (a : K.Element) → Memᴰ a elements) where
  -- ---- the places of the nonzero words

  -- those of a moved input are moved
  moved_support : (n : ℕ) (σ : ℕ → ℕ) (x : List K.Element) → length x ≡ n → support_mask K (moved K n σ x) ≡ placed n σ (support_mask K x)
  unfolding placed support_mask
  moved_support n σ x e =
      ap mask_of (map_tabulate (λ a. not (K.is_null a)) n (λ i. get_or x (σ i) K.null)
      ∙ tabulate_cong n _ _ (λ i l. sym (digit i)))
    where
      size : length (support K x) ≡ n
      size = length-map x (λ a. not (K.is_null a)) ∙ e

      same : digits n (mask_of (support K x)) ≡ support K x
      same = rw (← size) (digits_mask (support K x))

      digit : (i : ℕ) → get_or (digits n (mask_of (support K x))) (σ i) false ≡ not (K.is_null (get_or x (σ i) K.null))
      digit i =
          ap (λ l. get_or l (σ i) false) same
          ∙ ap (λ (b : Bool). get_or (support K x) (σ i) (not b)) (sym L.null_is)
          ∙ get_or-map (λ a. not (K.is_null a)) x (σ i) K.null

  -- they fit in as many digits as there are words
  support_lt : (n : ℕ) (x : List K.Element) → length x ≡ n → support_mask K x < 2 ^ n
  unfolding support_mask
  support_lt n x e = rw (length-map x (λ a. not (K.is_null a)) ∙ e) at (mask_lt (support K x))

  -- ---- moves that leave the matrix as it is

  module _ (n : ℕ) (f : ℕ → ℕ → K.Element) (σ ρ : ℕ → ℕ → ℕ) (v : (t : ℕ) → t < n → Inverse n (σ t) (ρ t))
      (stays : (t : ℕ) → t < n → (i j : ℕ) → i < n → j < n → f (σ t i) (σ t j) ≡ f i j) where
    -- every input has one whose nonzero words stand in a choice of columns that is looked at
    pub moved_looked : (look : ℕ) → ((mask : ℕ) → mask < 2 ^ n → has_looked look n σ mask ≡ true)
        → (x : List K.Element) → length x ≡ n → LookedAt K L elements complete n f look x
    unfolding has_looked
    moved_looked look has x e =
        let mask : ℕ = support_mask K x in
        let t : ℕ = to_looked look n σ mask in
        let found = has mask (support_lt n x e) in
        let l : t < n = ltb-true t n (and_left (ltb t n) (is_looked_at look (placed n (σ t) mask)) found) in (
          moved K n (σ t) x,
          length_tabulate n (λ i. get_or x (σ t i) K.null),
          weight_moved K n (σ t) (ρ t) (v t l) x e,
          sym (activity_cong K n (λ i j. f (σ t i) (σ t j)) f (stays t l) (moved K n (σ t) x))
              ∙ activity_moved K L n f (σ t) (ρ t) (v t l) (σ t) (ρ t) (v t l) x e,
          ap (is_looked_at look) (moved_support n (σ t) x e) ∙ and_right (ltb t n) (is_looked_at look (placed n (σ t) mask)) found,
        )
