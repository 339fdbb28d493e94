-- The key of a row is its sum and its depth in one number: rows compare by it as by the sum, and by the depth among equal sums (`key_lt`, `key_le`,
-- `key_split`, `key_same`); a permutation of the places keeps it (`key_permuted`). Assumes nothing.
use mathlib.Core.Path.{◌≡◌, sym, ap, ap₂, ◌∙◌}
use mathlib.Core.Logic.{◌⊎◌, inl, inr, ⊎_elim}
use mathlib.Core.List.{List}
use Prim.Native.Nat.{ℕ, suc, ◌+◌, ◌*◌, ◌≤◌, ◌<◌}
use native.Mathlib.Nat.{mul-le-mul_right, suc-mul, eq-or-lt_of_le}
use native.Mathlib.Omega.{arith}
use lib.ListN.{get_or}
use Rattle.algebra.specs.Places.{moved, Inverse}
use Rattle.algebra.proofs.Sums.{le_or_lt}
use Rattle.field.specs.Polynomial.{degree}
use Rattle.lines.specs.Numbers.{numbers}
use Rattle.lines.proofs.Tallies.{element_count_moved}
use Rattle.lines.proofs.Depths.{line_depth_le, depth_moved}
use Rattle.rows.specs.Keys.{sum_of, depth_of_row, key_of}

-- ---- two numbers in one

-- the first is smaller, or they are equal and the second is
abbrev pub Less : ℕ → ℕ → ℕ → ℕ → Type 0
Less a d b e = (a < b) ⊎ ((a ≡ b) × (d < e))

-- the same, or both are equal
abbrev pub LessOrSame : ℕ → ℕ → ℕ → ℕ → Type 0
LessOrSame a d b e = (a < b) ⊎ ((a ≡ b) × (d ≤ e))

-- one of two pairs is less, or they are the same
pub compare_pairs : (a d b e : ℕ) → Less a d b e ⊎ (LessOrSame b e a d)
compare_pairs a d b e =
    ⊎_elim
    (λ (l : a ≤ b).
    ⊎_elim
    (λ (q : a ≡ b). ⊎_elim (λ (m : e ≤ d). inr (inr (sym q, m))) (λ (m : d < e). inl (inr (q, m))) (le_or_lt e d))
    (λ (m : a < b). inl (inl m)) (eq-or-lt_of_le l))
    (λ (l : b < a). inr (inl l)) (le_or_lt a b)

-- less than a pair is less than one whose first number is larger, or the same and the second not smaller
pub pair_more : {a d b e b' e' : ℕ} → LessOrSame a d b e → b ≤ b' → (b ≡ b' → e ≤ e') → LessOrSame a d b' e'
pair_more {a} {d} {b} {e} {b'} {e'} h l m =
    ⊎_elim (λ (k : a < b). inl (omega arith))
    (λ (q : (a ≡ b) × (d ≤ e)).
    ⊎_elim (λ (s : b ≡ b'). inr (q.0 ∙ s, omega (arith, q.1, m s))) (λ (s : b < b'). inl (omega (arith, q.0))) (eq-or-lt_of_le l)) h

-- where the second numbers are below k, the first times k and the second compare as the two do
module _ (k a d b e : ℕ) (below : d < k) where
  pair_carry : a < b → a * k + d < b * k + e
  pair_carry l = let more : suc a * k ≤ b * k = mul-le-mul_right k l in omega (arith, suc-mul a k)

  pub pair_lt : Less a d b e → a * k + d < b * k + e
  pair_lt h = ⊎_elim pair_carry (λ (q : (a ≡ b) × (d < e)). omega (arith, ap (λ (x : ℕ). x * k) q.0, q.1)) h

  pub pair_le : LessOrSame a d b e → a * k + d ≤ b * k + e
  pair_le h = ⊎_elim (λ (l : a < b). omega (arith, pair_carry l)) (λ (q : (a ≡ b) × (d ≤ e)). omega (arith, ap (λ (x : ℕ). x * k) q.0, q.1)) h

-- ---- rows

module _ (p n : ℕ) where
  -- a depth is below the factor
  depth_below : (r : List ℕ) → depth_of_row p n r < suc (degree p * n)
  unfolding depth_of_row
  depth_below r = omega (arith, line_depth_le p n (λ j. get_or r j 0))

  module _ (r s : List ℕ) where
    pub key_lt : Less (sum_of p n r) (depth_of_row p n r) (sum_of p n s) (depth_of_row p n s) → key_of p n r < key_of p n s
    unfolding key_of
    key_lt h = pair_lt (suc (degree p * n)) _ _ _ _ (depth_below r) h

    pub key_le : LessOrSame (sum_of p n r) (depth_of_row p n r) (sum_of p n s) (depth_of_row p n s) → key_of p n r ≤ key_of p n s
    unfolding key_of
    key_le h = pair_le (suc (degree p * n)) _ _ _ _ (depth_below r) h

  -- what the order of two keys says
  pub key_split : (r s : List ℕ) → key_of p n r < key_of p n s → Less (sum_of p n r) (depth_of_row p n r) (sum_of p n s) (depth_of_row p n s)
  key_split r s l =
      ⊎_elim (λ h. h) (λ h. let z : ⊥ = omega (arith, key_le s r h) in absurd z)
      (compare_pairs (sum_of p n r) (depth_of_row p n r) (sum_of p n s) (depth_of_row p n s))

  pub key_same : (r s : List ℕ) → key_of p n r ≡ key_of p n s → (sum_of p n r ≡ sum_of p n s) × (depth_of_row p n r ≡ depth_of_row p n s)
  key_same r s q =
      ⊎_elim (λ h. let z : ⊥ = omega (arith, key_lt r s h) in absurd z)
      (λ h.
      ⊎_elim (λ l. let z : ⊥ = omega (arith, key_lt s r (inl l)) in absurd z)
      (λ (e : (sum_of p n s ≡ sum_of p n r) × (depth_of_row p n s ≤ depth_of_row p n r)).
      ⊎_elim (λ (m : depth_of_row p n s ≡ depth_of_row p n r). (sym e.0, sym m))
      (λ m. let z : ⊥ = omega (arith, key_lt s r (inr (e.0, m))) in absurd z) (eq-or-lt_of_le e.1)) h)
      (compare_pairs (sum_of p n r) (depth_of_row p n r) (sum_of p n s) (depth_of_row p n s))

-- ---- a row with its places moved

module _ (p n : ℕ) (σ ρ : ℕ → ℕ) (v : Inverse n σ ρ) (row : List ℕ) where
  -- a permutation of the places keeps the sum and the depth
  pub sum_permuted : sum_of p n (moved (numbers p) n σ row) ≡ sum_of p n row
  unfolding sum_of
  sum_permuted = element_count_moved p n σ ρ v row

  pub depth_permuted : depth_of_row p n (moved (numbers p) n σ row) ≡ depth_of_row p n row
  unfolding depth_of_row
  depth_permuted = depth_moved p n σ ρ v row

  -- and so the key
  pub key_permuted : key_of p n (moved (numbers p) n σ row) ≡ key_of p n row
  unfolding key_of
  key_permuted = ap₂ (λ (s d : ℕ). s * suc (degree p * n) + d) sum_permuted depth_permuted
