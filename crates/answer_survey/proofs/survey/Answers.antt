-- `answer_survey::survey` meets its contract: the first fault of the list is told. Assumes nothing.
use mathlib.Core.Path.{◌≡◌, sym, ap, ◌∙◌}
use mathlib.Core.Bool.{false, not, ◌||◌}
use mathlib.Core.List.{[]}
use borrow.Author.Tests.{eq-eqb, ne_eqb}
use lib.Dec.{ltb, eqb}
use Rattle.refusal.specs.declared.Refusal.TheVariants.{PolynomialRange, OrderRange, CountRange}
use Rattle.refusal.proofs.Faults.{after_taken, after_left, after_empty}
use Rattle.reply.specs.Due.{survey_faults, survey, due_to}
use Rattle.reply.proofs.Replies.{replied_as}
use Rattle.reply.proofs.Values.{count_wrong, count_right}
use Rattle.answer_survey.proofs.survey.Goals as goal
use Rattle.answer_survey.proofs.survey.Goals.{Else-order-ne0, Else-wrong_degree}

-- what passed before a test is reached
degree : (c : Else-wrong_degree) → let m = c.args.m in (ltb m 2 || ltb 8 m) ≡ false
degree c = sym c.wrong_degree.ensures ∙ c.if-wrong_degree.false

order : (c : Else-order-ne0) → not (eqb c.args.order 0) ≡ false
order c = ap not (eq-eqb _ _ c.if-order-ne0.false)

pub returns-then-wrong_degree : goal.returns-then-wrong_degree
unfolding due_to survey survey_faults
returns-then-wrong_degree c =
    replied_as (after_taken [] _ PolynomialRange _ _ (sym c.wrong_degree.ensures ∙ c.if-wrong_degree.true)) c.refuse.ensures

pub returns-then-order-ne0 : goal.returns-then-order-ne0
unfolding due_to survey survey_faults
returns-then-order-ne0 c =
    replied_as
    (after_taken [] _ OrderRange _ _ (ap not (ne_eqb _ _ c.if-order-ne0.true))
    ∙ after_left [] _ 3 _ _ (degree (goal.at.returns-then-order-ne0 c).Else-wrong_degree))
    c.refuse-then-order-ne0.ensures

pub returns-then-count-ne0 : goal.returns-then-count-ne0
unfolding due_to survey survey_faults
returns-then-count-ne0 c =
    let a = c.args in
    replied_as
    (after_taken [] _ CountRange _ _ (count_wrong a.part.now a.count 0 c.if-count-ne0.true)
    ∙ after_left [] _ 5 _ _ (order (goal.at.returns-then-count-ne0 c).Else-order-ne0)
    ∙ after_left [] _ 3 _ _ (degree (goal.at.returns-then-count-ne0 c).Else-wrong_degree))
    c.refuse-then-count-ne0.ensures

pub returns : goal.returns
unfolding due_to survey survey_faults
returns c =
    let a = c.args in
    replied_as
    (after_empty [] _
    ∙ after_left [] _ 6 _ _ (count_right a.part.now a.count 0 c.if-count-ne0.false)
    ∙ after_left [] _ 5 _ _ (order (goal.at.returns c).Else-order-ne0)
    ∙ after_left [] _ 3 _ _ (degree (goal.at.returns c).Else-wrong_degree))
    c.put_survey.ensures
