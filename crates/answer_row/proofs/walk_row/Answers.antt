-- `answer_row::walk_row` meets its contract: what is due to the values that are kept is due to all. Assumes nothing.
use mathlib.Core.Path.{◌≡◌, ap, ◌∙◌}
use mathlib.Core.List.{List}
use Prim.Native.Nat.{ℕ, min}
use Rattle.refusal.specs.Refusals.{answer}
use Rattle.rows.specs.declared.Family.TheVariants.{Hadamard}
use Rattle.cuts.proofs.Families.{family_most}
use Rattle.walk.specs.Answer.{walk_answer, walk_told}
use Rattle.text.specs.Reading.{values_from}
use Rattle.reply.proofs.Replies.{replied_as}
use Rattle.answer_row.proofs.Walked.{walk_kept, walk_refused, walk_passed, walk_due, six_told}
use Rattle.answer_row.proofs.walk_row.Goals as goal
use Rattle.answer_row.proofs.walk_row.Goals.{After-from, In-Ok, Start}

-- the values that are kept
abbrev kept : Start → List ℕ
kept s = values_from s.args.part.now 0 (min s.args.header.count 256)

-- what a walk says of them
said : (c : After-from)
    → let h = c.args.header in
    walk_answer h.polynomial h.order c.deref.result.now c.from.result ≡ walk_answer h.polynomial h.order (kept (goal.at.After-from c).Start) h.budget
said c =
    let h = c.args.header in
    ap (λ (l : List ℕ). walk_answer h.polynomial h.order l c.from.result) (c.deref.ensures.0 ∙ c.read_values-candidates.ensures)
    ∙ ap (walk_answer h.polynomial h.order (kept (goal.at.After-from c).Start)) c.from.ensures

-- numbers are told
told : (c : In-Ok)
    → let h = c.args.header in
    answer 0 (walk_told c.in-Ok.told) ≡ walk_answer h.polynomial h.order (kept (goal.at.In-Ok c).Start) h.budget
told c = c.in-Ok.ensures.answer ∙ said (goal.at.In-Ok c).After-from

pub put_walk-requires : goal.put_walk-requires
put_walk-requires c =
    let t = told (goal.at.put_walk-requires c).In-Ok in
    (family_most Hadamard _ (walk_passed _ _ _ _ _ t).order, six_told _ _ _ _ _ t c.requires)

pub returns-in-Err : goal.returns-in-Err
returns-in-Err c =
    let h = c.args.header in
    replied_as
    (walk_refused h.polynomial h.order (kept (goal.at.returns-in-Err c).Start) h.budget c.in-Err.reason (c.in-Err.ensures.answer ∙ said (goal.at.returns-in-Err c).After-from)
    ∙ walk_kept h.polynomial h.order h.budget c.args.part.now h.count)
    c.refuse.ensures

pub returns-in-Ok : goal.returns-in-Ok
returns-in-Ok c =
    let h = c.args.header in
    replied_as
    (walk_due _ _ _ _ _ (told (goal.at.returns-in-Ok c).In-Ok) ∙ walk_kept h.polynomial h.order h.budget c.args.part.now h.count)
    c.put_walk.ensures
