-- `calls::reply_of` meets its contract: what is read is what the definitions name. Assumes nothing.
use mathlib.Core.Path.{◌≡◌, sym, ap, ap₂, ◌∙◌}
use Prim.Native.Nat.{ℕ}
use lib.ListN.{length, take}
use lib.Seq.{length-take-le}
use Rattle.calls.specs.Records.{call_in, polynomial_in, first_in, second_in, input_in, candidates_in}
use Rattle.calls.specs.Replies.{reply_of}
use Rattle.calls.proofs.Stored.{at_most_all}
use Rattle.calls.proofs.Numbered.{same_reply}
use borrow.Author.Rules.{rules}
use Rattle.calls.proofs.reply_of.Goals as goal
use Rattle.calls.proofs.reply_of.Goals.{After-min-count, After-widened-values}

pub slice_bounds-values-end : goal.slice_bounds-values-end
slice_bounds-values-end c = search rules

pub slice_bounds-reply_to-end : goal.slice_bounds-reply_to-end
slice_bounds-reply_to-end c = sym (length-take-le _ _ (slice_bounds-values-end (goal.at.slice_bounds-reply_to-end c).After-min-count))

size : (c : After-widened-values) → length c.widened-values.result ≡ 256
size c = search rules

pub returns : goal.returns
unfolding reply_of call_in polynomial_in first_in second_in input_in candidates_in
returns c =
    c.reply_to.ensures
    ∙ same_reply
    c.number_at.ensures
    c.number_at-2.ensures
    c.number_at-3.ensures
    c.number_at-4.ensures
    c.matrix_of.ensures
    c.words_at.ensures
    (ap (λ (n : ℕ). take n c.widened-values.result) c.min-count.ensures
    ∙ at_most_all c.widened-values.result c.number_at-4.result (size (goal.at.returns c).After-widened-values)
    ∙ ap₂ take c.number_at-4.ensures c.widened-values.ensures)
    c.budget_of.ensures
