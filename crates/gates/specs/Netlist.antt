-- What is promised of the gates of a matrix of order n over p. Assumes nothing.
use Rattle.std.specs.Prelude.{◌≡◌, ◌≢◌, ◌⊎◌, ◌↔◌, List, ℕ, ◌+◌, ◌*◌, ◌<◌, length, get_or}
use Rattle.algebra.specs.Matrix.{apply}
use Rattle.field.specs.Polynomial.{degree}
use Rattle.lines.specs.Numbers.{numbers, WordsInField}
use Rattle.lines.specs.Counts.{matrix_count}
use Rattle.gates.specs.Gates.{Gate, gate, gates_of_matrix, carriers_of_matrix}
use Rattle.gates.specs.Wires.{bits_of, evaluate}

-- the gate with this number joins two different numbers, both smaller than its own, the second of them one of the input bits
pub record JoinsEarlier (bits number : ℕ) (g : Gate) : Type 0 where
  pub different : g.running ≢ g.input
  pub running_earlier : g.running < number
  pub input_earlier : g.input < number
  pub is_input_holds : g.input < bits

-- the bits of the product with an input x
abbrev pub product_bits : ℕ → ℕ → (ℕ → ℕ → ℕ) → List ℕ → List ℕ
product_bits p n f x = bits_of (degree p) n (apply (numbers p) n f x)

pub record Netlist (p n : ℕ) (f : ℕ → ℕ → ℕ) : Type 0 where
  -- "evaluating the list on any input gives the matrix product"
  pub gives_product : (x : List ℕ) → WordsInField p n x
      → evaluate (gates_of_matrix p n f) (carriers_of_matrix p n f) (bits_of (degree p) n x) ≡ product_bits p n f x
  -- "the number of gates equals the matrix count"
  pub gates_counted : length (gates_of_matrix p n f) ≡ matrix_count p n f
  -- every gate joins two different numbers smaller than its own, the running result and then an input; the first gate has the number n·m
  pub gates_join : (k : ℕ) → k < length (gates_of_matrix p n f) → JoinsEarlier (n * degree p) (n * degree p + k) (get_or (gates_of_matrix p n f) k (gate 0 0))
  -- "a line for each output bit"
  pub carriers_counted : length (carriers_of_matrix p n f) ≡ n * degree p
  -- each carrier is an input, a gate, or 999999
  pub carriers_exist : (o : ℕ) → o < n * degree p
      → (get_or (carriers_of_matrix p n f) o 0 ≡ 999999) ⊎ (get_or (carriers_of_matrix p n f) o 0 < n * degree p + length (gates_of_matrix p n f))
  -- "999999 where the bit is always 0", and only there
  pub always_zero : (o : ℕ) → o < n * degree p
      → (get_or (carriers_of_matrix p n f) o 0 ≡ 999999) ↔ ((x : List ℕ) → WordsInField p n x → get_or (product_bits p n f x) o 0 ≡ 0)
