-- Steps of the code that contracts need. Nobody need believe these: theorems tie them to the definitions.
-- Assumes nothing.
use Rattle.std.specs.Prelude.{List, ◌++◌, ℕ, ◌-◌, length, replicate}
use Rattle.gates.specs.declared.Inputs.{Inputs}

-- the struct that holds a list of at most 64 numbers: it stands at the front, with zeros behind it
unfoldable pub as_inputs : List ℕ → Inputs
as_inputs l = record { list = l ++ replicate (64 - length l) 0; count = length l }
