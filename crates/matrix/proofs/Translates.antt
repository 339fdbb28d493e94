-- Hadamard involutions by square blocks, over any field: of the blocks up to half the order those suffice whose columns no translation
-- makes smaller, since a translation leaves the matrix as it is. Assumes nothing.
use mathlib.Core.Path.{◌≡◌, refl, ap}
use mathlib.Core.Bool.{true}
use mathlib.Core.List.{List, Memᴰ}
use Prim.Native.Nat.{ℕ, zero, suc, ◌+◌, ◌-◌, ◌^◌, ◌≤◌, ◌<◌}
use native.Mathlib.Nat.{pow-suc}
use native.Mathlib.Omega.{arith}
use lib.Bits.{bit_xor}
use lib.ListN.{get_or}
use lib.Pow.{pow_pos}
use Rattle.algebra.specs.Operations.{Operations}
use Rattle.algebra.proofs.FieldLaws.{Field}
use Rattle.algebra.specs.Matrix.{tabulate, sum, hadamard, is_mds, places_from, chosen}
use Rattle.algebra.proofs.Hadamard.{sum_involution}
use Rattle.algebra.proofs.Symmetry.{hadamard_translated}
use Rattle.algebra.proofs.Xor.{xor_own}
use Rattle.field.specs.Polynomial.{first_below}
use Rattle.field.specs.Steps.{every_below}
use Rattle.matrix.specs.Steps.Choice.{translated, is_least, is_looked_at}
use Rattle.matrix.specs.Steps.Regular.{regular_between}
use Rattle.matrix.proofs.Squares.{every_each, half_decides}
use Rattle.matrix.proofs.Invariance.{placed, to_looked, has_looked, moved_looked}

-- ---- the computed test

-- place i, moved by t
abbrev translation : ℕ → ℕ → ℕ
translation t i = bit_xor i t

-- at the orders 2, 4 and 8 every choice has a translation that no translation makes smaller
least_of_each : every_below 3 (λ k. every_below (2 ^ 2 ^ suc k) (has_looked 1 (2 ^ suc k) translation)) ≡ true
unfolding has_looked to_looked placed first_below every_below is_looked_at is_least translated tabulate chosen places_from
least_of_each = refl

-- the same for one of them
has_least : (k : ℕ) → 1 ≤ k → k ≤ 3 → (mask : ℕ) → mask < 2 ^ 2 ^ k → has_looked 1 (2 ^ k) translation mask ≡ true
has_least zero low high mask l = elim low [ ]
has_least (suc k) low high mask l = every_each (2 ^ 2 ^ suc k) _ (every_each 3 _ least_of_each k high) mask l

-- ---- Hadamard involutions

module _ (K : Operations) (L : Field K) (elements : List K.Element) (complete : (a : K.Element) → Memᴰ a elements)
    (k : ℕ) (low : 1 ≤ k) (high : k ≤ 3) (row : List K.Element) where
  -- of a Hadamard involution the blocks up to half the order suffice whose columns no translation makes smaller
  pub half_is_enough : sum K (2 ^ k) (λ i. get_or row i K.null) ≡ K.one
      → is_mds K elements (2 ^ k) (hadamard K row) ≡ regular_between K (2 ^ k) (hadamard K row) 1 0 (2 ^ (k - 1))
  half_is_enough one =
      half_decides K L elements complete (2 ^ k) (hadamard K row) (pow_pos k) (sum_involution K L k row elements complete one)
      1 (2 ^ (k - 1)) (omega (arith, double))
      (moved_looked K L elements complete (2 ^ k) (hadamard K row) translation translation (xor_own k) (λ t l i j a b. hadamard_translated K row t i j)
      1 (has_least k low high))
    where
      double : 2 ^ k ≡ 2 ^ (k - 1) + 2 ^ (k - 1)
      double = let s : k ≡ suc (k - 1) = omega arith in omega (arith, ap (λ (i : ℕ). 2 ^ i) s, pow-suc 2 (k - 1))
