-- `answer_matrix::gate_list::put_gates` meets its contract. The loop's invariant: what is left to write are the gates that join the inputs from the next
-- one on. Assumes nothing.
use Prim.Native.Nat.{◌+◌, ◌≤◌}
use lib.ListN.{drop}
use Rattle.text.proofs.Places.{Left}
use Rattle.answer_matrix.specs.declared.gate_list.Part.TheVariants.{Gates}
use Rattle.answer_matrix.specs.Steps.Outputs.{output_text}
use Rattle.answer_matrix.proofs.GateLines.{joining_text}
use Rattle.answer_matrix.proofs.gate_list.put_gates.Given as goal

abbrev pub invariant-loop-k : goal.invariant-loop-k
invariant-loop-k l =
    (l.running ≤ 999999) × Left l.initial.writer (output_text Gates l.next l.inputs) l.writer (joining_text (l.next + l.k) l.running (drop l.k l.rest))
