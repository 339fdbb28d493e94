-- `checks::checked_row_count` meets its contract. Assumes nothing.
use mathlib.Core.Path.{◌≡◌, sym, ap, ◌∙◌}
use mathlib.Core.Bool.{false}
use Prim.Native.Nat.{ℕ}
use lib.ListN.{get_or}
use Rattle.lines.specs.Counts.{row_count}
use Rattle.checks.specs.Answers.{is_wrong_order, some_word_too_large, row_faults}
use Rattle.checks.proofs.CallFaults.{order_passes, words_pass, call_returned, value_refused, value_yielded}
use Rattle.checks.proofs.checked_row_count.Goals as goal
use Rattle.checks.proofs.checked_row_count.Goals.{In_ok-field}

pub returns-in_err-field : goal.returns-in_err-field
unfolding row_faults
returns-in_err-field c =
    rw (sym c.is_wrong_order.ensures) (call_returned _ 0 _ _ _ _ c.from_residual.ensures.1 (c.in_err-field.ensures _))

order : (c : In_ok-field) → is_wrong_order c.args.n ≡ false
order c = sym c.is_wrong_order.ensures ∙ c.in_ok-field.ensures.1

pub word_too_large-requires : goal.word_too_large-requires
word_too_large-requires c = (order_passes _ (order (goal.at.word_too_large-requires c).In_ok-field)).1

pub returns-then-word_too_large : goal.returns-then-word_too_large
unfolding row_faults
returns-then-word_too_large c =
    value_refused 0 c.in_ok-field.field.modulus c.in_ok-field.ensures.0 (order (goal.at.returns-then-word_too_large c).In_ok-field) (λ q. some_word_too_large q c.args.n c.args.row) _
    (sym c.word_too_large.ensures ∙ c.if-word_too_large.true)

pub row_count-requires : goal.row_count-requires
row_count-requires c =
    let w = order_passes _ (order (goal.at.row_count-requires c).In_ok-field) in
    (w.0, w.1, words_pass _ _ _ (sym c.word_too_large.ensures ∙ c.if-word_too_large.false))

pub returns : goal.returns
unfolding row_faults
returns c =
    value_yielded 0 c.in_ok-field.field.modulus c.in_ok-field.ensures.0 (order (goal.at.returns c).In_ok-field) (λ q. some_word_too_large q c.args.n c.args.row)
    (sym c.word_too_large.ensures ∙ c.if-word_too_large.false)
    (c.row_count.ensures ∙ ap (λ (q : ℕ). row_count q c.args.n (λ j. get_or c.args.row j 0)) c.in_ok-field.ensures.0)
