-- The texts of the output bits, one after the other: the lines of their gates, or the lines of their carriers. Assumes nothing.
use Rattle.std.specs.Prelude.{List, [], ◌∷◌, ◌++◌, map, ℕ, ◌+◌, ◌-◌, length}
use Rattle.gates.specs.Gates.{gates_of, carrier_of}
use Rattle.text.specs.Text.{line_text, answer_text}
use Rattle.reply.specs.Due.{gate_line, carrier_line}
use Rattle.answer_matrix.specs.declared.gate_list.Part.{Part}
use Rattle.answer_matrix.specs.declared.gate_list.Part.TheVariants.{Gates, Carrier}

-- of one output bit with these inputs, its gates numbered from `next` on
abbrev pub output_text : Part → ℕ → List ℕ → List ℕ
output_text Gates next inputs = answer_text (map gate_line (gates_of next inputs))
output_text Carrier next inputs = line_text (carrier_line (carrier_of next inputs))

-- of all
unfoldable pub output_texts : Part → ℕ → List (List ℕ) → List ℕ
output_texts part next [] = []
output_texts part next (inputs ∷ rest) = output_text part next inputs ++ output_texts part (next + (length inputs - 1)) rest
