-- What a list of gates computes. Assumes nothing.
use Rattle.std.specs.Prelude.{cond, List, [], ◌∷◌, ◌++◌, map, ℕ, ◌*◌, ◌/◌, ◌%◌, eqb, get_or}
use Rattle.algebra.specs.Matrix.{tabulate}
use Rattle.field.specs.Polynomial.{◌⊕◌}
use Rattle.lines.specs.Depths.{bit}
use Rattle.gates.specs.Gates.{Gate}

-- the bits of n words of m bits each: bit j of word i has the number i·m + j
unfoldable pub bits_of : ℕ → ℕ → List ℕ → List ℕ
bits_of m n words = tabulate (n * m) (λ v. bit (v % m) (get_or words (v / m) 0))

-- the wires are the input bits; then each gate appends the exclusive or of the two wires that it joins
unfoldable pub wires : List ℕ → List Gate → List ℕ
wires bits [] = bits
wires bits (g ∷ rest) = wires (bits ++ (get_or bits g.running 0 ⊕ get_or bits g.input 0) ∷ []) rest

-- the bit that a number carries: 999999 stands for a bit that is always 0
unfoldable pub carried_bit : List ℕ → ℕ → ℕ
carried_bit bits number = cond (eqb number 999999) 0 (get_or bits number 0)

-- the output bits of gates and carriers on these input bits
unfoldable pub evaluate : List Gate → List ℕ → List ℕ → List ℕ
evaluate gates carriers bits = map (carried_bit (wires bits gates)) carriers
