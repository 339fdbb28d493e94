-- `answer_row::read_values` meets its contract. The loop's invariant: the values before number i are stored. Assumes nothing.
use mathlib.Core.Path.{◌≡◌}
use Rattle.text.specs.Reading.{values_from}
use Rattle.answer_row.proofs.read_values.Given as goal

abbrev pub invariant-loop-i : goal.invariant-loop-i
invariant-loop-i l = l.values.items ≡ values_from l.part 0 l.i
