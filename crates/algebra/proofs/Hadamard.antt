-- Hadamard matrices of order 2 ^ k: when they are involutions, and that a row with an entry 0 is not MDS.
-- Assumes nothing.
use mathlib.Core.Path.{◌≡◌, refl, sym, ap, ap₂, ◌∙◌}
use mathlib.Core.Bool.{true, false}
use mathlib.Core.List.{List, Memᴰ}
use mathlib.Core.Logic.{◌≢◌}
use Prim.Native.Nat.{ℕ, ◌^◌, ◌<◌}
use native.Mathlib.Decide.{ℕ_discrete}
use lib.Bits.{bit_xor, xor_comm, xor_zero_r, xor_lt}
use lib.ListN.{get_or}
use lib.Pow.{pow_pos}
use Rattle.algebra.specs.Operations.{Operations}
use Rattle.algebra.proofs.FieldLaws.{Field}
use Rattle.algebra.specs.Matrix.{sum, hadamard, is_mds, is_involution}
use Rattle.algebra.proofs.Sums.{additive, delta, delta_same, delta_other, sum_cong, sum_permuted, sum_paired, square_sum, square_one}
use Rattle.algebra.proofs.Branch.{null_entry_not_mds}
use Rattle.algebra.proofs.Involution.{product, involution_identity, identity_involution}
use Rattle.algebra.proofs.Xor.{xor_assoc, xor_xor, xor_between, xor_zero, xor_own, xor_moves}

module _ (K : Operations) (L : Field K) (k : ℕ) (row : List K.Element) where
  -- H times H: the square of the row's sum on the diagonal
  square_same : (i : ℕ) → i < 2 ^ k → (s : K.Element) → sum K (2 ^ k) (λ i. get_or row i K.null) ≡ s
      → product K (2 ^ k) (hadamard K row) (hadamard K row) i i ≡ K.times s s
  unfolding product hadamard
  square_same i l s e =
      sum_cong K (2 ^ k) _ (λ c. K.times (get_or row (bit_xor c i) K.null) (get_or row (bit_xor c i) K.null))
      (λ c h. ap (λ (a : ℕ). K.times (get_or row a K.null) (get_or row (bit_xor c i) K.null)) (xor_comm i c))
      ∙ sym (square_sum K L (2 ^ k) (λ c. get_or row (bit_xor c i) K.null))
      ∙ ap (λ t. K.times t t) (sum_permuted K (additive K L) (2 ^ k) _ _ (xor_own k i l) (λ c. get_or row c K.null) ∙ e)

  -- and 0 elsewhere: the places c and c with the exclusive or of both numbers give the same
  square_other : (i j : ℕ) → i < 2 ^ k → j < 2 ^ k → i ≢ j → product K (2 ^ k) (hadamard K row) (hadamard K row) i j ≡ K.null
  unfolding product hadamard
  square_other i j l m d =
      sum_paired K L (2 ^ k) (λ c. bit_xor c (bit_xor i j)) (xor_own k (bit_xor i j) (xor_lt k i j l m))
      (λ c h. xor_moves c (bit_xor i j) (λ e. d (xor_zero i j e))) _
      (λ c h. ap₂ (λ (a b : ℕ). K.times (get_or row a K.null) (get_or row b K.null)) (left c) (right c)
      ∙ L.times_comm (get_or row (bit_xor c j) K.null) (get_or row (bit_xor i c) K.null))
    where
      left : (c : ℕ) → bit_xor i (bit_xor c (bit_xor i j)) ≡ bit_xor c j
      left c = sym (xor_assoc i c (bit_xor i j)) ∙ ap (λ (a : ℕ). bit_xor a (bit_xor i j)) (xor_comm i c) ∙ xor_between c i j

      right : (c : ℕ) → bit_xor (bit_xor c (bit_xor i j)) j ≡ bit_xor i c
      right c = xor_assoc c (bit_xor i j) j ∙ ap (bit_xor c) (xor_xor i j) ∙ xor_comm c i

  module _ (elements : List K.Element) (complete : (a : K.Element) → Memᴰ a elements) where
    -- a Hadamard matrix is an involution exactly if its row's sum is 1
    pub involution_sum : is_involution K elements (2 ^ k) (hadamard K row) ≡ true
        → sum K (2 ^ k) (λ i. get_or row i K.null) ≡ K.one
    involution_sum t =
        square_one K L (sum K (2 ^ k) (λ i. get_or row i K.null))
        (sym (square_same 0 (pow_pos k) (sum K (2 ^ k) (λ i. get_or row i K.null)) refl)
        ∙ involution_identity K L elements complete (2 ^ k) (hadamard K row) t 0 0 (pow_pos k) (pow_pos k) ∙ delta_same K 0 0 K.one refl)

    -- and the other way round
    pub sum_involution : sum K (2 ^ k) (λ i. get_or row i K.null) ≡ K.one
        → is_involution K elements (2 ^ k) (hadamard K row) ≡ true
    sum_involution e = identity_involution K L elements complete (2 ^ k) (hadamard K row) entry
      where
        entry : (i j : ℕ) → i < 2 ^ k → j < 2 ^ k → product K (2 ^ k) (hadamard K row) (hadamard K row) i j ≡ delta K i j K.one
        entry i j l m =
            elim (ℕ_discrete i j) [
              | yes q ↦ rw (q, delta_same K j j K.one refl) (square_same j m K.one e ∙ L.times_one K.one)
              | no d ↦ square_other i j l m d ∙ sym (delta_other K i j K.one d)
            ]

    -- a zero in the row stands in the first column
    pub null_not_mds : (a : ℕ) → a < 2 ^ k → get_or row a K.null ≡ K.null → is_mds K elements (2 ^ k) (hadamard K row) ≡ false
    unfolding hadamard
    null_not_mds a l z = null_entry_not_mds K L elements complete (2 ^ k) (hadamard K row) a 0 l (pow_pos k) (rw xor_zero_r z)
