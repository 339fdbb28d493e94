-- `text::rewrite` meets its contract: line one, and the values behind it, are the request text of what is read.
-- Assumes nothing.
use native.Mathlib.Nat.{zero-add}
use native.Mathlib.Omega.{arith}
use Rattle.text.specs.Text.{line_text}
use Rattle.text.specs.Reading.{kind_of, line_one, line_one_length}
use Rattle.text.proofs.Places.{wrote_join, wrote_room}
use borrow.Author.Rules.{rules}
use Rattle.text.proofs.Form.{line_one_read, tail_text, rewritten_is, length_rewritten, part_is}
use Rattle.text.proofs.rewrite.Goals as goal

pub put_line_one-requires : goal.put_line_one-requires
put_line_one-requires c = omega (arith, length_rewritten c.args.text.now)

pub slice_bounds-put_values-count : goal.slice_bounds-put_values-count
slice_bounds-put_values-count c = omega (arith, line_one_read c.args.text.now c.number_at.ensures c.line_one_length-line_one.ensures)

pub slice_bounds-put_values-start : goal.slice_bounds-put_values-start
slice_bounds-put_values-start c = omega (arith, line_one_read c.args.text.now c.number_at.ensures c.line_one_length-line_one.ensures)

pub put_values-requires : goal.put_values-requires
put_values-requires c =
    let s = c.args.text.now in
    let line = line_text (line_one s) in
    rw (line_one_read c.args.text.now c.number_at.ensures c.line_one_length-line_one.ensures, part_is (line_one_length (kind_of s)) s, c.number_at-count.ensures)
    (wrote_room line (tail_text s) (rw (zero-add, ← rewritten_is s) c.requires.1) c.put_line_one.ensures)

pub returns : goal.returns
returns c =
    let s = c.args.text.now in
    rw (rewritten_is s)
    (let written = wrote_join (line_text (line_one s)) (tail_text s) c.put_line_one.ensures
    (rw (line_one_read c.args.text.now c.number_at.ensures c.line_one_length-line_one.ensures, part_is (line_one_length (kind_of s)) s, c.number_at-count.ensures) at c.put_values.ensures) in
    search rules)
