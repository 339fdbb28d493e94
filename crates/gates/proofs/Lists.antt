-- Sums over lists, and the list of the numbers that pass a test. Assumes nothing.
use mathlib.Core.Path.{◌≡◌, refl, sym, ap, ap₂, ◌∙◌}
use mathlib.Core.Bool.{Bool, true, false, cond}
use mathlib.Core.List.{List, [], ◌∷◌}
use Prim.Native.Nat.{ℕ, zero, suc, ◌+◌}
use native.Mathlib.Nat.{add-zero, add-suc, suc-add, zero-add}
use native.Mathlib.Omega.{arith}
use lib.ListN.{length}
use Rattle.algebra.specs.Operations.{Operations}
use Rattle.algebra.specs.Matrix.{tabulate, sum}
use Rattle.algebra.proofs.Sums.{Additive, Naturals, sum_cong, null_plus, sum_first}
use Rattle.field.specs.Table.{keep_if, passing}

-- the sum of g over a list
unfoldable pub list_sum : {A : Type 0} (K : Operations) → (A → K.Element) → List A → K.Element
list_sum K g [] = K.null
list_sum K g (a ∷ l) = K.plus (g a) (list_sum K g l)

-- a list has as many elements as ones
pub length_sum : {A : Type 0} (l : List A) → length l ≡ list_sum Naturals (λ a. 1) l
unfolding list_sum
length_sum [] = refl
length_sum (a ∷ l) = omega (arith, length_sum l)

module _ (K : Operations) (L : Additive K) where
  -- over a list that is given by a function
  pub tabulate_sum : {A : Type 0} (g : A → K.Element) (n : ℕ) (f : ℕ → A) → list_sum K g (tabulate n f) ≡ sum K n (λ i. g (f i))
  unfolding list_sum tabulate sum
  tabulate_sum g zero f = refl
  tabulate_sum g (suc n) f = ap (K.plus (g (f 0))) (tabulate_sum g n (λ i. f (suc i))) ∙ sym (sum_first K L n (λ i. g (f i)))

  keep_sum : (g : ℕ → K.Element) (b : Bool) (a : ℕ) (l : List ℕ) → list_sum K g (keep_if b a l) ≡ K.plus (cond b (g a) K.null) (list_sum K g l)
  unfolding list_sum
  keep_sum g true a l = refl
  keep_sum g false a l = sym (null_plus K L (list_sum K g l))

  passing_from : (t : ℕ → Bool) (g : ℕ → K.Element) (n s : ℕ)
      → list_sum K g (passing t n s) ≡ sum K n (λ k. cond (t (s + k)) (g (s + k)) K.null)
  unfolding list_sum passing sum
  passing_from t g zero s = refl
  passing_from t g (suc n) s =
      keep_sum g (t s) s (passing t n (suc s))
      ∙ ap₂ K.plus (ap at (sym (add-zero s)))
      (passing_from t g n (suc s) ∙ sum_cong K n _ _ (λ k l. ap at (suc-add s k ∙ sym (add-suc s k))))
      ∙ sym (sum_first K L n (λ k. at (s + k)))
    where
      at : ℕ → K.Element
      at k = cond (t k) (g k) K.null

  -- over the numbers below n that pass a test
  pub passing_sum : (t : ℕ → Bool) (g : ℕ → K.Element) (n : ℕ) → list_sum K g (passing t n 0) ≡ sum K n (λ k. cond (t k) (g k) K.null)
  passing_sum t g n = passing_from t g n 0 ∙ sum_cong K n _ _ (λ k l. rw zero-add)
