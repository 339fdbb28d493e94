-- The gates of a matrix product over a field of degree m: the inputs that each output bit joins, the gates that join them, and the number that
-- carries it. Assumes nothing.
use Rattle.std.specs.Prelude.{Bool, List, [], ◌∷◌, ◌++◌, ℕ, suc, ◌+◌, ◌*◌, ◌/◌, ◌%◌, ◌^◌, eqb, length}
use Rattle.algebra.specs.Matrix.{tabulate}
use Rattle.field.specs.Polynomial.{degree, product}
use Rattle.field.specs.Table.{passing}
use Rattle.lines.specs.Depths.{bit}

-- ---- inputs

-- input bit j of word i has the number i·m + j; number v is joined for bit b of a line's output where the line's entry i times 2^j has that bit
unfoldable pub is_input : ℕ → (ℕ → ℕ) → ℕ → ℕ → Bool
is_input p line b v = eqb (bit b (product p (line (v / degree p)) (2 ^ (v % degree p)))) 1

-- the inputs of bit b of the output of a line of n entries, from the lowest number up
unfoldable pub inputs_of : ℕ → ℕ → (ℕ → ℕ) → ℕ → List ℕ
inputs_of p n line b = passing (is_input p line b) (n * degree p) 0

-- the inputs of every output bit of a matrix, in ascending order: bit b of word i has the number i·m + b
unfoldable pub outputs : ℕ → ℕ → (ℕ → ℕ → ℕ) → List (List ℕ)
outputs p n f = tabulate (n * degree p) (λ o. inputs_of p n (f (o / degree p)) (o % degree p))

-- ---- gates

-- a gate by the two numbers it joins: the running result first, then the input joined to it
pub record Gate : Type 0 where
  pub running : ℕ
  pub input : ℕ

abbrev pub gate : ℕ → ℕ → Gate
gate running input = record { running = running; input = input }

-- the gates that join inputs to a running result, numbered from `next` on: each gate's own number is the running result after it
unfoldable pub joining : ℕ → ℕ → List ℕ → List Gate
joining next running [] = []
joining next running (v ∷ rest) = gate running v ∷ joining (suc next) next rest

-- the gates of an output bit: the others of its inputs are joined to the lowest
unfoldable pub gates_of : ℕ → List ℕ → List Gate
gates_of next [] = []
gates_of next (v ∷ rest) = joining next v rest

-- the number that carries an output bit: 999999 where the bit is always 0, the input's own where one input alone carries it, else the last gate's
unfoldable pub carrier_of : ℕ → List ℕ → ℕ
carrier_of next [] = 999999
carrier_of next (v ∷ []) = v
carrier_of next (v ∷ w ∷ rest) = next + length rest

-- ---- all outputs, one after the other

-- the gates of output bits with these inputs, numbered from `next` on, and the numbers that carry the bits
unfoldable pub gates_from : ℕ → List (List ℕ) → List Gate
gates_from next [] = []
gates_from next (inputs ∷ rest) = gates_of next inputs ++ gates_from (next + length (gates_of next inputs)) rest

unfoldable pub carriers_from : ℕ → List (List ℕ) → List ℕ
carriers_from next [] = []
carriers_from next (inputs ∷ rest) = carrier_of next inputs ∷ carriers_from (next + length (gates_of next inputs)) rest

-- the gates of the matrix f of order n, numbered on from n·m, and the number that carries each output bit
unfoldable pub gates_of_matrix : ℕ → ℕ → (ℕ → ℕ → ℕ) → List Gate
gates_of_matrix p n f = gates_from (n * degree p) (outputs p n f)

unfoldable pub carriers_of_matrix : ℕ → ℕ → (ℕ → ℕ → ℕ) → List ℕ
carriers_of_matrix p n f = carriers_from (n * degree p) (outputs p n f)
