-- `text::put_value` meets its contract: a number, and a line's end behind it where the line is full or the value is the last.
-- Assumes nothing.
use mathlib.Core.Path.{sym, ◌∙◌}
use mathlib.Core.List.{[], ◌∷◌, append-nil}
use native.Mathlib.Omega.{arith}
use lib.ListN.{length-append}
use Rattle.text.specs.Text.{column, line_end}
use Rattle.text.proofs.Lengths.{length_column, end_yes, end_no}
use Rattle.text.proofs.Places.{wrote_join, wrote_room}
use Rattle.text.proofs.put_value.Goals as goal

pub put_number-requires : goal.put_number-requires
put_number-requires c =
    (omega (arith, length-append (column c.args.v) (line_end c.args.i c.args.left), length_column c.args.v), c.requires.1)

pub put_newline-requires : goal.put_newline-requires
put_newline-requires c =
    let e = end_yes c.args.i c.args.left (sym c.ends_line.ensures ∙ c.if-ends_line.true) in
    omega (arith, wrote_room (column c.args.v) (10 ∷ []) (rw e at c.requires.0) c.put_number.ensures)

pub returns-then-ends_line : goal.returns-then-ends_line
returns-then-ends_line c =
    rw (end_yes c.args.i c.args.left (sym c.ends_line.ensures ∙ c.if-ends_line.true))
    (wrote_join (column c.args.v) (10 ∷ []) c.put_number.ensures c.put_newline.ensures)

pub returns-else-ends_line : goal.returns-else-ends_line
returns-else-ends_line c =
    rw (end_no c.args.i c.args.left (sym c.ends_line.ensures ∙ c.if-ends_line.false), append-nil) c.put_number.ensures
