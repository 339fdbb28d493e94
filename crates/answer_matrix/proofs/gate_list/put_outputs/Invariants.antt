-- `answer_matrix::gate_list::put_outputs` meets its contract. The loop's invariant: what is left to write are the texts of the output bits from o on.
-- Assumes nothing.
use Prim.Native.Nat.{◌+◌, ◌*◌, ◌≤◌}
use lib.ListN.{drop}
use Rattle.field.specs.Polynomial.{degree}
use Rattle.lines.specs.Numbers.{entry}
use Rattle.gates.specs.Gates.{outputs}
use Rattle.text.proofs.Places.{Left}
use Rattle.answer_matrix.specs.Steps.Outputs.{output_texts}
use Rattle.answer_matrix.proofs.gate_list.put_outputs.Given as goal

abbrev pub invariant-loop-o : goal.invariant-loop-o
invariant-loop-o l =
    let m = l.matrix in
    let outs = outputs m.field.polynomial m.order (entry m.entries) in
    (l.next ≤ 100 + 63 * l.o)
    × Left l.initial.writer (output_texts l.part (m.order * degree m.field.polynomial) outs) l.writer (output_texts l.part l.next (drop l.o outs))
