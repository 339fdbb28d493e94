-- `text::put_values` meets its contract. The loop's invariant: what is left to write is the values from i on.
-- Assumes nothing.
use Rattle.text.specs.Text.{value_text}
use Rattle.text.specs.Reading.{values_from}
use Rattle.text.proofs.Places.{Left}
use Rattle.text.proofs.Loops.{values_left}
use Rattle.text.proofs.put_values.Given as goal

abbrev pub invariant-loop-i : goal.invariant-loop-i
invariant-loop-i l = Left l.initial.writer (value_text 0 (values_from l.values 0 l.count)) l.writer (values_left l.values l.count l.i)
