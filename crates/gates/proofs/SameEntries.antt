-- Only the entries below the order count: matrices with the same entries have the same gates and carriers. Assumes nothing.
use mathlib.Core.Path.{◌≡◌, ap}
use Prim.Native.Nat.{ℕ, ◌*◌, ◌/◌, ◌%◌, ◌^◌, ◌<◌}
use native.Mathlib.Nat.{div-lt_iff_lt-mul}
use native.Mathlib.Omega.{arith}
use lib.Dec.{eqb}
use Rattle.algebra.proofs.Words.{tabulate_cong}
use Rattle.field.specs.Polynomial.{Modulus, degree, product}
use Rattle.field.proofs.Degrees.{polynomial}
use Rattle.field.proofs.Completeness.{passing_cong}
use Rattle.lines.specs.Depths.{bit}
use Rattle.gates.specs.Gates.{is_input, inputs_of, outputs, gates_from, carriers_from, gates_of_matrix, carriers_of_matrix}

module _ (p n : ℕ) (h : Modulus p) where
  -- the word of a number below n·m
  word_below : (v : ℕ) → v < n * degree p → v / degree p < n
  word_below v l = let pos : 0 < degree p = omega (arith, (polynomial p h).least) in (div-lt_iff_lt-mul pos).1 l

  inputs_same : (b : ℕ) (line line' : ℕ → ℕ) → ((j : ℕ) → j < n → line j ≡ line' j) → inputs_of p n line b ≡ inputs_of p n line' b
  unfolding inputs_of is_input
  inputs_same b line line' e =
      passing_cong (is_input p line b) (is_input p line' b) (n * degree p) 0
      (λ v s l. ap (λ (a : ℕ). eqb (bit b (product p a (2 ^ (v % degree p)))) 1) (e (v / degree p) (word_below v (omega arith))))

  module _ (f g : ℕ → ℕ → ℕ) (e : (i j : ℕ) → i < n → j < n → f i j ≡ g i j) where
    outputs_same : outputs p n f ≡ outputs p n g
    unfolding outputs
    outputs_same =
        tabulate_cong (n * degree p) _ _ (λ o l.
        inputs_same (o % degree p) (f (o / degree p)) (g (o / degree p)) (λ j m. e (o / degree p) j (word_below o l) m))

    pub gates_same : gates_of_matrix p n f ≡ gates_of_matrix p n g
    unfolding gates_of_matrix
    gates_same = ap (gates_from (n * degree p)) outputs_same

    pub carriers_same : carriers_of_matrix p n f ≡ carriers_of_matrix p n g
    unfolding carriers_of_matrix
    carriers_same = ap (carriers_from (n * degree p)) outputs_same
