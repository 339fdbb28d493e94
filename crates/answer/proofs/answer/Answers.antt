-- `answer::answer` meets its contract: a text that is not in form is refused with 1, any other is answered by its kind. Assumes nothing.
use mathlib.Core.Path.{ap, ◌∙◌}
use Prim.Native.Nat.{ℕ, ◌≤◌}
use native.Mathlib.Omega.{arith}
use mathlib.Core.List.{[]}
use lib.ListN.{length}
use Rattle.refusal.specs.Refusals.{answer}
use Rattle.text.proofs.Form.{form_long}
use Rattle.text.proofs.Requests.{header_read, header_refused}
use Rattle.reply.proofs.DueFrom.{text_refused, text_numbers}
use Rattle.reply.proofs.Replies.{replied_as}
use Rattle.answer.proofs.Acceptance.{budget_small}
use Rattle.answer.proofs.answer.Goals as goal
use Rattle.answer.proofs.answer.Goals.{After-line_one_length}

-- line one is read, and the text is long enough for it
long : (c : After-line_one_length) → c.line_one_length.result ≤ length c.args.request.now
long c =
    let s = c.args.request.now in
    let read = header_read s c.in-Ok.header c.in-Ok.ensures in
    rw (c.line_one_length.ensures, ← read.1) (form_long s read.0)

pub slice_bounds-part-count : goal.slice_bounds-part-count
slice_bounds-part-count c = long (goal.at.slice_bounds-part-count c).After-line_one_length

pub slice_bounds-part-start : goal.slice_bounds-part-start
slice_bounds-part-start c = omega (arith, long (goal.at.slice_bounds-part-start c).After-line_one_length)

pub answer_kind-requires : goal.answer_kind-requires
answer_kind-requires c =
    let s = c.args.request.now in
    omega (arith, budget_small s, (header_read s c.in-Ok.header c.in-Ok.ensures).5)

pub returns-in-Err : goal.returns-in-Err
returns-in-Err c =
    let s = c.args.request.now in
    let r = header_refused s c.in-Err.reason c.in-Err.ensures in
    record { reply = replied_as (ap (λ (n : ℕ). answer n []) r.1 ∙ text_refused s r.0) c.refuse.ensures }

pub returns-in-Ok : goal.returns-in-Ok
returns-in-Ok c =
    let s = c.args.request.now in
    record { reply = replied_as (text_numbers s c.in-Ok.header c.in-Ok.ensures) (rw c.line_one_length.ensures at c.answer_kind.ensures) }
