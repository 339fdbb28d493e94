-- Whether one of the values of a request is too large, from the test of each. Assumes nothing.
use mathlib.Core.Path.{◌≡◌, refl, sym, ap, ◌∙◌}
use mathlib.Core.Bool.{Bool, true, false, ◌||◌}
use mathlib.Core.List.{List}
use Prim.Native.Nat.{ℕ, zero, suc, ◌+◌, ◌<◌}
use native.Mathlib.Nat.{add-zero, zero-add}
use native.Mathlib.Omega.{arith}
use Rattle.field.specs.Faults.{is_too_large}
use Rattle.rows.specs.Candidates.{some_too_large}
use Rattle.text.specs.Reading.{value_at, values_from}

module _ (p : ℕ) (s : List ℕ) where
  large_from : (j n k : ℕ) → k < n → is_too_large p (value_at s (j + k)) ≡ true → some_too_large p (values_from s j n) ≡ true
  unfolding some_too_large values_from
  large_from j zero k l e = absurd (let z : ⊥ = omega arith in z)
  large_from j (suc n) zero l e = ap (λ (b : Bool). b || some_too_large p (values_from s (suc j) n)) (ap (λ (i : ℕ). is_too_large p (value_at s i)) (sym (add-zero j)) ∙ e)
  large_from j (suc n) (suc k) l e = behind (is_too_large p (value_at s j)) (large_from (suc j) n k (omega arith) (ap (λ (i : ℕ). is_too_large p (value_at s i)) (omega arith) ∙ e))
    where
      behind : (b : Bool) {c : Bool} → c ≡ true → (b || c) ≡ true
      behind true h = refl
      behind false h = h

  none_from : (j n : ℕ) → ((k : ℕ) → k < n → is_too_large p (value_at s (j + k)) ≡ false) → some_too_large p (values_from s j n) ≡ false
  unfolding some_too_large values_from
  none_from j zero h = refl
  none_from j (suc n) h =
      ap (λ (b : Bool). b || some_too_large p (values_from s (suc j) n)) (ap (λ (i : ℕ). is_too_large p (value_at s i)) (sym (add-zero j)) ∙ h 0 (omega arith))
      ∙ none_from (suc j) n (λ k l. ap (λ (i : ℕ). is_too_large p (value_at s i)) (omega arith) ∙ h (suc k) (omega arith))

  -- a value is too large
  pub large_there : (n k : ℕ) → k < n → is_too_large p (value_at s k) ≡ true → true ≡ some_too_large p (values_from s 0 n)
  large_there n k l e = sym (large_from 0 n k l (ap (λ (i : ℕ). is_too_large p (value_at s i)) (zero-add k) ∙ e))

  -- none is
  pub none_large : (n : ℕ) → ((k : ℕ) → k < n → is_too_large p (value_at s k) ≡ false) → false ≡ some_too_large p (values_from s 0 n)
  none_large n h = sym (none_from 0 n (λ k l. ap (λ (i : ℕ). is_too_large p (value_at s i)) (zero-add k) ∙ h k l))
