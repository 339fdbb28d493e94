-- The gates of every matrix of order 1 to 8 over every field are what is promised of them (`netlist`). Assumes nothing.
use mathlib.Core.Path.{◌≡◌, ◌∙◌}
use Prim.Native.Nat.{ℕ, ◌+◌, ◌*◌, ◌^◌, ◌≤◌, ◌<◌}
use native.Mathlib.Nat.{mul-le-mul}
use native.Mathlib.Omega.{arith}
use lib.ListN.{length}
use Rattle.field.specs.Polynomial.{Modulus, degree}
use Rattle.field.proofs.Degrees.{polynomial}
use Rattle.lines.proofs.Tallies.{matrix_count_le}
use Rattle.gates.specs.Gates.{outputs, gates_of_matrix, carriers_of_matrix}
use Rattle.gates.specs.Netlist.{Netlist}
use Rattle.gates.proofs.Counting.{gates_count}
use Rattle.gates.proofs.Joined.{length_outputs, gates_earlier, length_carriers, carriers_there}
use Rattle.gates.proofs.Evaluation.{gates_product}
use Rattle.gates.proofs.AlwaysZero.{zero_exactly}

module _ (p n : ℕ) (f : ℕ → ℕ → ℕ) (h : Modulus p) (u : n ≤ 8) (small : (i j : ℕ) → i < n → j < n → f i j < 2 ^ degree p) where
  -- at most 64 bits and 4,032 gates
  pub bits_few : n * degree p ≤ 64
  bits_few = mul-le-mul u (polynomial p h).most

  pub gates_few : length (gates_of_matrix p n f) ≤ 4032
  gates_few = omega (arith, gates_count p n f h small, matrix_count_le p n f h u)

  few : n * degree p + length (gates_of_matrix p n f) ≤ 999999
  few = omega (arith, bits_few, gates_few)

  pub carriers_length : length (carriers_of_matrix p n f) ≡ n * degree p
  unfolding carriers_of_matrix
  carriers_length = length_carriers (n * degree p) (outputs p n f) ∙ length_outputs p n f

  -- what is promised
  pub netlist : Netlist p n f
  netlist =
      record {
        gives_product = λ x words. gates_product p n f x h few words;
        gates_counted = gates_count p n f h small;
        gates_join = gates_earlier p n f;
        carriers_counted = carriers_length;
        carriers_exist = carriers_there p n f;
        always_zero = zero_exactly p n f h few;
      }
