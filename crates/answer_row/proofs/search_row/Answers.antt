-- `answer_row::search_row` meets its contract: what is due to the values that are kept is due to all. Assumes nothing.
use mathlib.Core.Path.{◌≡◌, ap, ◌∙◌}
use mathlib.Core.List.{List}
use Prim.Native.Nat.{ℕ, min}
use Rattle.refusal.specs.Refusals.{answer}
use Rattle.field.proofs.Calls.{modulus_fits}
use Rattle.search.specs.Answer.{search_answer, row_told}
use Rattle.text.specs.Reading.{values_from}
use Rattle.reply.proofs.Replies.{replied_as}
use Rattle.answer_row.proofs.Found.{search_kept, search_refused, search_passed, sum_told, search_told}
use Rattle.answer_row.proofs.search_row.Goals as goal
use Rattle.answer_row.proofs.search_row.Goals.{After-deref, In-Ok, Start}

-- the values that are kept
abbrev kept : Start → List ℕ
kept s = values_from s.args.part.now 0 (min s.args.header.count 256)

-- what a search says of them
said : (c : After-deref)
    → let h = c.args.header in
    search_answer c.args.family h.polynomial h.order c.deref.result.now ≡ search_answer c.args.family h.polynomial h.order (kept (goal.at.After-deref c).Start)
said c = ap (search_answer c.args.family c.args.header.polynomial c.args.header.order) (c.deref.ensures.0 ∙ c.read_values-candidates.ensures)

-- a row is found
told : (c : In-Ok)
    → let h = c.args.header in
    answer 0 (row_told c.in-Ok.found) ≡ search_answer c.args.family h.polynomial h.order (kept (goal.at.In-Ok c).Start)
told c = c.in-Ok.ensures ∙ said (goal.at.In-Ok c).After-deref

pub overflow_cast-field : goal.overflow_cast-field
overflow_cast-field c = record { fits = modulus_fits (search_passed _ _ _ _ _ (told (goal.at.overflow_cast-field c).In-Ok)).modulus }

pub invariant_of-field : goal.invariant_of-field
invariant_of-field c = record { modulus = (search_passed _ _ _ _ _ (told (goal.at.invariant_of-field c).In-Ok)).modulus }

pub put_row-requires : goal.put_row-requires
put_row-requires c =
    let t = told (goal.at.put_row-requires c).In-Ok in
    let a = search_passed _ _ _ _ _ t in
    (a.low, a.high, sum_told _ _ _ _ _ t)

pub returns-in-Err : goal.returns-in-Err
returns-in-Err c =
    let h = c.args.header in
    replied_as
    (search_refused c.args.family h.polynomial h.order (kept (goal.at.returns-in-Err c).Start) c.in-Err.reason (c.in-Err.ensures ∙ said (goal.at.returns-in-Err c).After-deref)
    ∙ search_kept c.args.family h.polynomial h.order c.args.part.now h.count)
    c.refuse.ensures

pub returns-in-Ok : goal.returns-in-Ok
returns-in-Ok c =
    let h = c.args.header in
    replied_as (search_told _ _ _ _ _ (told (goal.at.returns-in-Ok c).In-Ok) ∙ search_kept c.args.family h.polynomial h.order c.args.part.now h.count) c.put_row.ensures
