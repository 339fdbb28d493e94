-- Changes of places: a list with its elements at other places, and which maps of the places are permutations, and affine ones.
-- Assumes nothing.
use Rattle.std.specs.Prelude.{◌≡◌, List, ℕ, ◌^◌, ◌<◌, get_or}
use Rattle.std.specs.Int.Bits.{bit_xor}
use Rattle.algebra.specs.Operations.{Operations}
use Rattle.algebra.specs.Matrix.{tabulate}

-- the elements at the places σ 0, σ 1, .. σ (n - 1)
abbrev pub moved : (K : Operations) → ℕ → (ℕ → ℕ) → List K.Element → List K.Element
moved K n σ x = tabulate n (λ i. get_or x (σ i) K.null)

-- two maps of the numbers below n to such numbers, each of which undoes the other
pub record Inverse (n : ℕ) (σ ρ : ℕ → ℕ) : Type 0 where
  pub there : (i : ℕ) → i < n → σ i < n
  pub back : (i : ℕ) → i < n → ρ i < n
  pub back_there : (i : ℕ) → i < n → ρ (σ i) ≡ i
  pub there_back : (i : ℕ) → i < n → σ (ρ i) ≡ i

-- an affine change of the places below 2^k: two such maps, the first of which keeps exclusive or, but for the constant σ 0
pub record Affine (k : ℕ) (σ ρ : ℕ → ℕ) : Type 0 where
  pub inverse : Inverse (2 ^ k) σ ρ
  pub bits : (i j : ℕ) → i < 2 ^ k → j < 2 ^ k → σ (bit_xor i j) ≡ bit_xor (bit_xor (σ i) (σ j)) (σ 0)
