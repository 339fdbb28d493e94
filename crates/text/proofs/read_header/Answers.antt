-- `text::read_header` meets its contract: the numbers of a text in form are those that are read.
-- Assumes nothing.
use mathlib.Core.Path.{sym, ap, ◌∙◌}
use mathlib.Core.Bool.{not}
use mathlib.Core.List.{[]}
use Rattle.refusal.specs.declared.Refusal.TheVariants.{Form}
use Rattle.refusal.proofs.Faults.{after_taken, after_left, after_empty}
use Rattle.text.specs.Reading.{kind_of, polynomial_of, order_of, count_of, header_answer}
use Rattle.text.proofs.read_header.Goals as goal

pub returns-then-not-in_form : goal.returns-then-not-in_form
unfolding header_answer
returns-then-not-in_form c = after_taken [] _ Form _ [] (ap not (sym c.in_form.ensures ∙ c.if-not-in_form.true))

pub returns : goal.returns
unfolding header_answer kind_of polynomial_of order_of count_of
returns c =
    rw (c.number_at.ensures, c.number_at-2.ensures, c.number_at-3.ensures, c.number_at-4.ensures, c.budget_of.ensures)
    (after_empty [] _ ∙ after_left [] _ 1 _ [] (ap not (sym c.in_form.ensures ∙ c.if-not-in_form.false)))
