-- `gates::inputs_of` meets its contract: those of the numbers below v that are inputs are listed. Assumes nothing.
use Rattle.std.proofs.Common.{◌≡◌, get_or}
use Rattle.field.specs.Table.{passing}
use Rattle.gates.specs.Gates.{is_input}
use Rattle.gates.specs.Steps.{as_inputs}
use Rattle.gates.proofs.InputArrays.{inputs_in}
use Rattle.gates.proofs.inputs_of.Given as goal

abbrev pub invariant-loop-v : goal.invariant-loop-v
invariant-loop-v l = inputs_in l.list l.count ≡ as_inputs (passing (is_input l.field.polynomial (λ j. get_or l.fn.line j 0) l.b) l.v 0)
