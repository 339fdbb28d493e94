-- The product of a Hadamard matrix by three products of half the order.
-- Assumes nothing.
use mathlib.Core.Path.{◌≡◌, refl, sym, ap, ap₂, ◌∙◌}
use mathlib.Core.List.{List, ◌++◌}
use Prim.Native.Nat.{ℕ, ◌+◌, ◌^◌, ◌<◌}
use lib.Bits.{bit_xor, xor_lt}
use lib.ListN.{get_or}
use Rattle.algebra.specs.Operations.{Operations}
use Rattle.algebra.proofs.FieldLaws.{Field}
use Rattle.algebra.specs.Matrix.{tabulate, sum, apply, hadamard}
use Rattle.algebra.proofs.Words.{tabulate_add, tabulate_cong}
use Rattle.algebra.proofs.Sums.{Additive, additive, sum_cong, sum_plus, sum_add, plus_times}
use Rattle.algebra.proofs.Weights.{get_d_apply}
use Rattle.algebra.proofs.Xor.{xor_left, xor_right, xor_both}

-- the laws that the halves need: every element is its own negative, and products go over sums on both sides
pub record Bilinear (K : Operations) : Type 0 where
  pub sums : Additive K
  pub plus_self : (a : K.Element) → K.plus a a ≡ K.null
  pub times_plus : (a b c : K.Element) → K.times a (K.plus b c) ≡ K.plus (K.times a b) (K.times a c)
  pub plus_times : (a b c : K.Element) → K.times (K.plus a b) c ≡ K.plus (K.times a c) (K.times b c)

-- a field has these laws
pub bilinear : (K : Operations) → Field K → Bilinear K
bilinear K L = record { sums = additive K L; plus_self = L.plus_self; times_plus = L.times_plus; plus_times = plus_times K L }

-- word i of the product of a Hadamard matrix of order n
abbrev pub word_of : (K : Operations) → ℕ → List K.Element → List K.Element → ℕ → K.Element
word_of K n row x i = get_or (apply K n (hadamard K row) x) i K.null

module _ (K : Operations) (L : Bilinear K) where
  infixl 70 ◌⊕◌
  infixl 75 ◌⊗◌
  open K use {Element as E, null, plus as ◌⊕◌, times as ◌⊗◌}

  -- the same, the row and the input given by functions
  word : ℕ → (ℕ → E) → (ℕ → E) → ℕ → E
  word n h v i = sum K n (λ j. h (bit_xor i j) ⊗ v j)

  -- of the sum of two rows
  word_rows : (n : ℕ) (g h v : ℕ → E) (i : ℕ) → word n (λ a. g a ⊕ h a) v i ≡ word n g v i ⊕ word n h v i
  unfolding word
  word_rows n g h v i =
      sum_cong K n _ _ (λ j l. L.plus_times (g (bit_xor i j)) (h (bit_xor i j)) (v j)) ∙ sum_plus K L.sums n _ _

  -- of the sum of two inputs
  word_inputs : (n : ℕ) (h v w : ℕ → E) (i : ℕ) → word n h (λ j. v j ⊕ w j) i ≡ word n h v i ⊕ word n h w i
  unfolding word
  word_inputs n h v w i = sum_cong K n _ _ (λ j l. L.times_plus (h (bit_xor i j)) (v j) (w j)) ∙ sum_plus K L.sums n _ _

  -- what is added in both parts is gone
  between : (a c b : E) → (a ⊕ c) ⊕ (c ⊕ b) ≡ a ⊕ b
  between a c b =
      L.sums.plus_assoc a c (c ⊕ b)
      ∙ ap (λ d. a ⊕ d) (sym (L.sums.plus_assoc c c b) ∙ ap (λ d. d ⊕ b) (L.plus_self c) ∙ L.sums.plus_comm null b ∙ L.sums.plus_null b)

  -- the words from place n on
  abbrev from : ℕ → (ℕ → E) → ℕ → E
  from n f a = f (n + a)

  module _ (k n : ℕ) (is-power : n ≡ 2 ^ k) where
    -- a word of the upper half, by the upper blocks, and by the three products
    upper : (h v : ℕ → E) (i : ℕ) → i < n
        → word (n + n) h v i ≡ word n (λ a. from n h a ⊕ h a) (from n v) i ⊕ word n h (λ j. v j ⊕ from n v j) i
    unfolding word
    upper h v i l =
        sum_add K L.sums n n _
        ∙ ap (λ d. word n h v i ⊕ d) (sum_cong K n _ _ (λ j m. ap (λ (a : ℕ). h a ⊗ from n v j) (rw is-power (xor_right k i j (rw is-power at l) (rw is-power at m)))))
        ∙ L.sums.plus_comm (word n h v i) (word n (from n h) (from n v) i)
        ∙ sym (ap₂ ◌⊕◌ (word_rows n (from n h) h (from n v) i) (word_inputs n h v (from n v) i ∙ L.sums.plus_comm (word n h v i) (word n h (from n v) i))
        ∙ between (word n (from n h) (from n v) i) (word n h (from n v) i) (word n h v i))

    -- a word of the lower half
    lower : (h v : ℕ → E) (i : ℕ) → i < n
        → word (n + n) h v (n + i) ≡ word n (λ a. from n h a ⊕ h a) v i ⊕ word n h (λ j. v j ⊕ from n v j) i
    unfolding word
    lower h v i l =
        sum_add K L.sums n n _
        ∙ ap₂ ◌⊕◌ (sum_cong K n _ _ (λ j m. ap (λ (a : ℕ). h a ⊗ v j) (rw is-power (xor_left k i j (rw is-power at l) (rw is-power at m)))))
        (sum_cong K n _ _ (λ j m. ap (λ (a : ℕ). h a ⊗ from n v j) (rw is-power (xor_both k i j (rw is-power at l) (rw is-power at m)))))
        ∙ sym (ap₂ ◌⊕◌ (word_rows n (from n h) h v i) (word_inputs n h v (from n v) i) ∙ between (word n (from n h) v i) (word n h v i) (word n h (from n v) i))

    -- only the words below the order count
    word_is : (row x : List E) (h v : ℕ → E) → ((a : ℕ) → a < n → get_or row a null ≡ h a) → ((j : ℕ) → j < n → get_or x j null ≡ v j)
        → (i : ℕ) → i < n → word_of K n row x i ≡ word n h v i
    unfolding hadamard word
    word_is row x h v e d i l =
        get_d_apply K n (hadamard K row) x i l
        ∙ sum_cong K n _ _ (λ j m. ap₂ ◌⊗◌ (e (bit_xor i j) (rw is-power (xor_lt k i j (rw is-power at l) (rw is-power at m)))) (d j m))

    -- The halved product: with the row's halves H1 and H0 and the input's halves V0 and V1, `rows` holds H0 + H1, `below` V1 and
    -- `inputs` V0 + V1. Then (H0 + H1) V1 + H1 (V0 + V1) stands above (H0 + H1) V0 + H1 (V0 + V1).
    pub halved_product : (row x rows below inputs : List E)
        → ((a : ℕ) → a < n → get_or rows a null ≡ get_or row (n + a) null ⊕ get_or row a null)
        → ((j : ℕ) → j < n → get_or below j null ≡ get_or x (n + j) null)
        → ((j : ℕ) → j < n → get_or inputs j null ≡ get_or x j null ⊕ get_or x (n + j) null)
        → apply K (n + n) (hadamard K row) x
        ≡ tabulate n (λ i. word_of K n rows below i ⊕ word_of K n row inputs i) ++ tabulate n (λ i. word_of K n rows x i ⊕ word_of K n row inputs i)
    unfolding apply hadamard word
    halved_product row x rows below inputs is-rows is_below is-inputs =
        let h : ℕ → E = λ a. get_or row a null in
        let v : ℕ → E = λ j. get_or x j null in
        let third : (i : ℕ) → i < n → word_of K n row inputs i ≡ word n h (λ j. v j ⊕ v (n + j)) i = word_is row inputs h _ (λ a l. refl) is-inputs in
        tabulate_add n n _
        ∙ ap₂ ◌++◌ (tabulate_cong n _ _ (λ i l. upper h v i l ∙ sym (ap₂ ◌⊕◌ (word_is rows below _ _ is-rows is_below i l) (third i l))))
        (tabulate_cong n _ _ (λ i l. lower h v i l ∙ sym (ap₂ ◌⊕◌ (word_is rows x _ v is-rows (λ j m. refl) i l) (third i l))))
