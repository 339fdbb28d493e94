-- `text::in_form` meets its contract. A text that is too short, too long or of too many values is not in form, since a text in form has
-- the length that its kind and its count say; any other is compared with the text written anew.
-- Assumes nothing.
use Prim.Native.Nat.{◌≤◌}
use lib.ListN.{length}
use lib.Seq.{length-take-le}
use Rattle.text.specs.Reading.{kind_of, rewritten}
use mathlib.Core.Path.{sym}
use native.Mathlib.Omega.{arith}
use Rattle.text.proofs.Form.{line_one_read, line_one_least, line_one_most, length_rewritten, no_form, form_same}
use Rattle.text.proofs.Compare.{same_equal}
use Rattle.text.proofs.Places.{put_taken, put_long}
use Rattle.text.proofs.in_form.Goals as goal
use Rattle.text.proofs.in_form.Goals.{Else-number_at-gt-MOST_VALUES}

-- the text written anew fits the room for it
room : (c : Else-number_at-gt-MOST_VALUES) → length (rewritten c.args.text.now) ≤ 4099
room c =
    let s = c.args.text.now in
    omega (arith, length_rewritten s, line_one_most (kind_of s), c.number_at-2.ensures)

pub returns-then-text-line_one_length : goal.returns-then-text-line_one_length
returns-then-text-line_one_length c = sym (no_form c.args.text.now (λ l e. omega (arith, line_one_read c.args.text.now c.number_at.ensures c.line_one_length.ensures)))

pub returns-then-text-gt-MOST_BYTES : goal.returns-then-text-gt-MOST_BYTES
returns-then-text-gt-MOST_BYTES c = sym (no_form c.args.text.now (λ l e. omega arith))

pub returns-then-number_at-gt-MOST_VALUES : goal.returns-then-number_at-gt-MOST_VALUES
returns-then-number_at-gt-MOST_VALUES c =
    let s = c.args.text.now in
    sym (no_form s (λ l e. omega (arith, c.number_at-2.ensures, line_one_least (kind_of s))))

pub rewrite-n-requires : goal.rewrite-n-requires
rewrite-n-requires c = (omega (arith, line_one_read c.args.text.now c.number_at.ensures c.line_one_length.ensures), omega (arith, room (goal.at.rewrite-n-requires c).Else-number_at-gt-MOST_VALUES))

pub slice_bounds-again-end : goal.slice_bounds-again-end
slice_bounds-again-end c =
    let s = c.args.text.now in
    omega (arith, c.rewrite-n.ensures.place, put_long (rewritten s) c.rewrite-n.ensures, room (goal.at.slice_bounds-again-end c).Else-number_at-gt-MOST_VALUES)

pub slice_bounds-eq-end : goal.slice_bounds-eq-end
slice_bounds-eq-end c =
    let s = c.args.text.now in
    let fits = room (goal.at.slice_bounds-eq-end c).Else-number_at-gt-MOST_VALUES in
    sym (length-take-le _ _ (omega (arith, c.rewrite-n.ensures.place, put_long (rewritten s) c.rewrite-n.ensures)))

pub returns : goal.returns
returns c =
    let s = c.args.text.now in
    let whole = put_taken (rewritten s) (room (goal.at.returns c).Else-number_at-gt-MOST_VALUES) c.rewrite-n.ensures in
    rw (form_same s (omega arith), ← whole, ← same_equal) c.eq.ensures
