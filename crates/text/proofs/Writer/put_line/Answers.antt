-- `text::Writer::put_line` meets its contract. The loop's invariant: what is left to write is the numbers from the next one on.
-- Assumes nothing.
use mathlib.Core.List.{[], ◌∷◌}
use Prim.Native.Nat.{◌+◌}
use native.Mathlib.Omega.{arith}
use lib.ListN.{drop, get_or, length-drop}
use Rattle.text.specs.Text.{column, columns, line_text, SixDigits}
use Rattle.text.proofs.Places.{left_start, left_step, left_end, left_room, wrote_join}
use Rattle.text.proofs.Lengths.{length_columns}
use Rattle.text.proofs.Loops.{columns_next, columns_none}
use borrow.Author.Rules.{rules}
use Rattle.text.proofs.Writer.put_line.Goals as goal

pub loop-number-init : goal.loop-number-init
loop-number-init c = left_start _ _

pub put_number-requires : goal.put_number-requires
unfolding SixDigits
put_number-requires c =
    let vs = c.args.numbers.now in
    let i = c.loop-number.number-index in (
      omega (arith, left_room (omega (arith, length_columns vs)) c.loop-number.invariant, length_columns (drop i vs), length-drop i vs),
      c.requires.1 i,
    )

pub loop-number-preserved : goal.loop-number-preserved
loop-number-preserved c =
    let vs = c.args.numbers.now in
    let i = c.loop-number.number-index in
    left_step (column (get_or vs i 0)) (columns (drop (i + 1) vs)) (rw (columns_next vs i (search rules)) at c.loop-number.invariant) c.put_number.ensures

pub put_newline-requires : goal.put_newline-requires
put_newline-requires c =
    let vs = c.args.numbers.now in
    omega (arith, c.loop-number.invariant.bytes.place, c.loop-number.invariant.bytes.long, length_columns vs, length_columns (drop c.loop-number.number-index vs), length-drop c.loop-number.number-index vs)

pub returns : goal.returns
unfolding line_text
returns c =
    let vs = c.args.numbers.now in
    wrote_join (columns vs) (10 ∷ [])
    (left_end (rw (columns_none vs c.loop-number.number-index c.loop-number-test.false) at c.loop-number.invariant)) c.put_newline.ensures
