-- Places modulo the order: sums and differences of them, and which place of a row stands at a line and a column of its circulant matrix.
-- Assumes nothing.
use mathlib.Core.Path.{◌≡◌, ap, ◌∙◌}
use mathlib.Core.Logic.{◌⊎◌, inl, inr, ⊎_elim}
use Prim.Native.Nat.{ℕ, ◌+◌, ◌-◌, ◌%◌, ◌≤◌, ◌<◌}
use native.Mathlib.Nat.{mod-eq_of_lt, mod-lt, add-mod_left}
use native.Mathlib.Omega.{arith}
use Rattle.algebra.proofs.Sums.{le_or_lt}
use Rattle.rows.specs.Steps.Around.{fourth_around}

-- ---- one number modulo n

-- n or twice n more
pub mod_once : (n s r : ℕ) → r < n → s ≡ n + r → s % n ≡ r
mod_once n s r l e = ap (λ (x : ℕ). x % n) e ∙ add-mod_left n r ∙ mod-eq_of_lt l

pub mod_twice : (n s r : ℕ) → r < n → s ≡ n + (n + r) → s % n ≡ r
mod_twice n s r l e = ap (λ (x : ℕ). x % n) e ∙ add-mod_left n (n + r) ∙ mod_once n (n + r) r l (omega arith)

-- ---- the place at line i, column j

module _ (n : ℕ) where
  abbrev pub place_around : ℕ → ℕ → ℕ
  place_around i j = (j + (n - i)) % n

  pub place_lt : (i j : ℕ) → i < n → place_around i j < n
  place_lt i j l = mod-lt (j + (n - i)) (omega arith)

  -- it and the line are the column, or n more
  pub place_cases : (i j : ℕ) → i < n → j < n → (place_around i j + i ≡ j) ⊎ (place_around i j + i ≡ j + n)
  place_cases i j l m =
      ⊎_elim (λ (k : i ≤ j). let e = mod_once n (j + (n - i)) (j - i) (omega arith) (omega arith) in inl (omega arith))
      (λ (k : j < i). let less : j + (n - i) < n = omega arith in let e = mod-eq_of_lt less in inr (omega arith)) (le_or_lt i j)

  -- a line has each place one time, and so has a column
  pub same_column : (i j₁ j₂ : ℕ) → i < n → j₁ < n → j₂ < n → place_around i j₁ ≡ place_around i j₂ → j₁ ≡ j₂
  same_column i j₁ j₂ l m k e =
      ⊎_elim
      (λ (a : place_around i j₁ + i ≡ j₁).
      ⊎_elim (λ (b : place_around i j₂ + i ≡ j₂). omega arith) (λ (b : place_around i j₂ + i ≡ j₂ + n). let z : ⊥ = omega arith in absurd z) (place_cases i j₂ l k))
      (λ (a : place_around i j₁ + i ≡ j₁ + n).
      ⊎_elim (λ (b : place_around i j₂ + i ≡ j₂). let z : ⊥ = omega arith in absurd z) (λ (b : place_around i j₂ + i ≡ j₂ + n). omega arith) (place_cases i j₂ l k))
      (place_cases i j₁ l m)

  pub same_line : (i₁ i₂ j : ℕ) → i₁ < n → i₂ < n → j < n → place_around i₁ j ≡ place_around i₂ j → i₁ ≡ i₂
  same_line i₁ i₂ j l m k e =
      ⊎_elim
      (λ (a : place_around i₁ j + i₁ ≡ j).
      ⊎_elim (λ (b : place_around i₂ j + i₂ ≡ j). omega arith) (λ (b : place_around i₂ j + i₂ ≡ j + n). let z : ⊥ = omega arith in absurd z) (place_cases i₂ j m k))
      (λ (a : place_around i₁ j + i₁ ≡ j + n).
      ⊎_elim (λ (b : place_around i₂ j + i₂ ≡ j). let z : ⊥ = omega arith in absurd z) (λ (b : place_around i₂ j + i₂ ≡ j + n). omega arith) (place_cases i₂ j m k))
      (place_cases i₁ j l k)

  -- ---- two pairs of places with the same sum modulo n

  abbrev pub SameSum : ℕ → ℕ → ℕ → ℕ → Type 0
  SameSum x d y z = (x + d ≡ y + z) ⊎ ((x + d ≡ y + z + n) ⊎ (x + d + n ≡ y + z))

  -- the pairs may be told in any order
  pub same_turned : (x d y z : ℕ) → SameSum x d y z → SameSum y z x d
  same_turned x d y z (inl e) = inl (omega arith)
  same_turned x d y z (inr (inl e)) = inr (inr (omega arith))
  same_turned x d y z (inr (inr e)) = inr (inl (omega arith))

  pub same_swapped : (x d y z : ℕ) → SameSum x d y z → SameSum d x y z
  same_swapped x d y z (inl e) = inl (omega arith)
  same_swapped x d y z (inr (inl e)) = inr (inl (omega arith))
  same_swapped x d y z (inr (inr e)) = inr (inr (omega arith))

  -- the fourth place is known by the others
  pub fourth_is : (x d y z : ℕ) → y < n → z < n → SameSum x d y z → fourth_around n d x y ≡ z
  unfolding fourth_around
  fourth_is x d y z l m h =
      ⊎_elim (λ (e : x + d ≡ y + z). mod_once n (x + d + (n - y)) z m (omega arith))
      (⊎_elim (λ (e : x + d ≡ y + z + n). mod_twice n (x + d + (n - y)) z m (omega arith))
      (λ (e : x + d + n ≡ y + z). let less : x + d + (n - y) ≡ z = omega arith in ap (λ (s : ℕ). s % n) less ∙ mod-eq_of_lt m)) h

  -- the places at two lines, two columns and across, of numbers s and t that the lines and the columns add up to
  abbrev Upto : ℕ → ℕ → ℕ → ℕ → Type 0
  Upto a b s t = (a + b + s ≡ t) ⊎ ((a + b + s ≡ t + n) ⊎ (a + b + s ≡ t + n + n))

  two_places : (i₁ i₂ j₁ j₂ : ℕ) → i₁ < n → i₂ < n → j₁ < n → j₂ < n → Upto (place_around i₁ j₁) (place_around i₂ j₂) (i₁ + i₂) (j₁ + j₂)
  two_places i₁ i₂ j₁ j₂ l₁ l₂ m₁ m₂ =
      ⊎_elim
      (λ (a : place_around i₁ j₁ + i₁ ≡ j₁).
      ⊎_elim (λ (b : place_around i₂ j₂ + i₂ ≡ j₂). inl (omega arith)) (λ (b : place_around i₂ j₂ + i₂ ≡ j₂ + n). inr (inl (omega arith))) (place_cases i₂ j₂ l₂ m₂))
      (λ (a : place_around i₁ j₁ + i₁ ≡ j₁ + n).
      ⊎_elim (λ (b : place_around i₂ j₂ + i₂ ≡ j₂). inr (inl (omega arith))) (λ (b : place_around i₂ j₂ + i₂ ≡ j₂ + n). inr (inr (omega arith))) (place_cases i₂ j₂ l₂ m₂))
      (place_cases i₁ j₁ l₁ m₁)

  upto_same : (a b c d s t : ℕ) → a < n → b < n → c < n → d < n → Upto a b s t → Upto c d s t → SameSum a b c d
  upto_same a b c d s t la lb lc ld (inl x) (inl y) = inl (omega arith)
  upto_same a b c d s t la lb lc ld (inl x) (inr (inl y)) = inr (inr (omega arith))
  upto_same a b c d s t la lb lc ld (inl x) (inr (inr y)) = let z : ⊥ = omega arith in absurd z
  upto_same a b c d s t la lb lc ld (inr (inl x)) (inl y) = inr (inl (omega arith))
  upto_same a b c d s t la lb lc ld (inr (inl x)) (inr (inl y)) = inl (omega arith)
  upto_same a b c d s t la lb lc ld (inr (inl x)) (inr (inr y)) = inr (inr (omega arith))
  upto_same a b c d s t la lb lc ld (inr (inr x)) (inl y) = let z : ⊥ = omega arith in absurd z
  upto_same a b c d s t la lb lc ld (inr (inr x)) (inr (inl y)) = inr (inl (omega arith))
  upto_same a b c d s t la lb lc ld (inr (inr x)) (inr (inr y)) = inl (omega arith)

  -- across two lines and two columns the sums are the same
  pub across : (i₁ i₂ j₁ j₂ : ℕ) → i₁ < n → i₂ < n → j₁ < n → j₂ < n
      → SameSum (place_around i₁ j₁) (place_around i₂ j₂) (place_around i₁ j₂) (place_around i₂ j₁)
  across i₁ i₂ j₁ j₂ l₁ l₂ m₁ m₂ =
      upto_same _ _ _ _ (i₁ + i₂) (j₁ + j₂) (place_lt i₁ j₁ l₁) (place_lt i₂ j₂ l₂) (place_lt i₁ j₂ l₁) (place_lt i₂ j₁ l₂)
      (two_places i₁ i₂ j₁ j₂ l₁ l₂ m₁ m₂) (swapped _ _ (two_places i₁ i₂ j₂ j₁ l₁ l₂ m₂ m₁))
    where
      swapped : (a b : ℕ) → Upto a b (i₁ + i₂) (j₂ + j₁) → Upto a b (i₁ + i₂) (j₁ + j₂)
      swapped a b (inl x) = inl (omega arith)
      swapped a b (inr (inl x)) = inr (inl (omega arith))
      swapped a b (inr (inr x)) = inr (inr (omega arith))
