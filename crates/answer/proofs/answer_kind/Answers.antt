-- `answer::answer_kind` meets its contract: each kind has its own part, and any other kind is refused with 2. Assumes nothing.
use mathlib.Core.Path.{sym, ap, ◌∙◌}
use Rattle.text.specs.Reading.{values_from}
use Rattle.reply.specs.Due.{Request, request_with}
use Rattle.reply.proofs.DueFrom.{search_unseen, survey_unseen, budget_left}
use Rattle.reply.proofs.Replies.{replied_as}
use Rattle.answer_matrix.proofs.Requests.{matrix_unseen}
use Rattle.answer.specs.Steps.{kind_named}
use Rattle.answer.proofs.answer_kind.Goals as goal
use Rattle.answer.proofs.answer_kind.Goals.{Start}

-- the request
abbrev asked : Start → Request
asked s =
    let h = s.args.header in
    request_with h.polynomial h.order h.budget (values_from s.args.part.now 0 h.count)

pub returns-in-Ok-Search : goal.returns-in-Ok-Search
returns-in-Ok-Search c =
    let k = c.in-Ok-Search in
    replied_as (budget_left (search_unseen k.family) (ap kind_named (sym k.field-0-is) ∙ k.ensures) (asked (goal.at.returns-in-Ok-Search c).Start)) c.search_row.ensures

pub returns-in-Ok-Matrix : goal.returns-in-Ok-Matrix
returns-in-Ok-Matrix c =
    let k = c.in-Ok-Matrix in
    replied_as (budget_left (matrix_unseen k.asked) (ap kind_named (sym k.field-0-is) ∙ k.ensures) (asked (goal.at.returns-in-Ok-Matrix c).Start)) c.of_matrix.ensures

pub returns-in-Ok-Survey : goal.returns-in-Ok-Survey
returns-in-Ok-Survey c =
    let k = c.in-Ok-Survey in
    replied_as (budget_left survey_unseen (ap kind_named (sym k.field-0-is) ∙ k.ensures) (asked (goal.at.returns-in-Ok-Survey c).Start)) c.survey.ensures
