-- `text::Writer::put_line` meets its contract. The loop's invariant: what is left to write is the numbers from the next one on.
-- Assumes nothing.
use lib.ListN.{drop}
use Rattle.text.specs.Text.{columns}
use Rattle.text.proofs.Places.{Left}
use Rattle.text.proofs.Writer.put_line.Given as goal

abbrev pub invariant-loop-number : goal.invariant-loop-number
invariant-loop-number l = Left l.initial.self (columns l.numbers) l.self (columns (drop l.number-index l.numbers))
