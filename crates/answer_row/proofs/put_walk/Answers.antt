-- `answer_row::put_walk` meets its contract. Assumes nothing.
use mathlib.Core.Path.{◌≡◌, sym, ap, ap₂, ◌∙◌, subst}
use mathlib.Core.Bool.{cond}
use mathlib.Core.List.{List, [], ◌∷◌}
use Prim.Native.Nat.{ℕ}
use native.Mathlib.Omega.{arith}
use lib.ListN.{take, length-take}
use Rattle.refusal.specs.Refusals.{answer}
use Rattle.walk.specs.Answer.{told_count, told_row}
use Rattle.text.specs.Text.{SixDigits}
use Rattle.reply.proofs.Replies.{replied_as, six_in_two}
use Rattle.answer_row.proofs.Found.{six_take}
use borrow.Author.Rules.{rules}
use Rattle.answer_row.proofs.put_walk.Goals as goal
use Rattle.answer_row.proofs.put_walk.Goals.{After-widened-entries}

pub overflow_cast-tried : goal.overflow_cast-tried
unfolding SixDigits
overflow_cast-tried c = omega (arith, c.requires.1 2)

-- the numbers, and the row
numbers : (c : After-widened-entries)
    → let t = c.args.told in
    0 ∷ c.from-finished.result ∷ t.tried ∷ c.unwrap_or-best.result.count ∷ t.bound ∷ [] ≡ 0 ∷ cond t.finished 1 0 ∷ t.tried ∷ told_count t.best ∷ t.bound ∷ []
numbers c =
    let t = c.args.told in
    let finished : c.from-finished.result ≡ cond t.finished 1 0 = search rules in
    let count : c.unwrap_or-best.result.count ≡ told_count t.best = search rules in
    ap₂ (λ (f k : ℕ). 0 ∷ f ∷ t.tried ∷ k ∷ t.bound ∷ []) finished count

row : (c : After-widened-entries) → take c.args.n c.widened-entries.result ≡ take c.args.n (told_row c.args.told.best)
row c =
    let same : c.unwrap_or-best.result.row ≡ told_row c.args.told.best = search rules in
    ap (take c.args.n) (c.widened-entries.ensures.0 ∙ same)

pub put_answer-requires : goal.put_answer-requires
put_answer-requires c = (
  omega (arith, length-take c.args.n c.widened-entries.result, c.requires.0),
  six_in_two _ _ (subst SixDigits (sym (numbers (goal.at.put_answer-requires c).After-widened-entries)) c.requires.1) (six_take c.args.n _ c.widened-entries.ensures.1),
)

pub returns : goal.returns
returns c =
    replied_as
    (ap₂ (λ (a b : List ℕ). answer 0 (a ∷ b ∷ [])) (numbers (goal.at.returns c).After-widened-entries) (row (goal.at.returns c).After-widened-entries))
    c.put_answer.ensures
