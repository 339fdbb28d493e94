-- `answer_matrix::put_check` meets its contract: the line holds what is found. Assumes nothing.
use mathlib.Core.Path.{◌≡◌, sym, ap, ap₂, ◌∙◌, subst}
use mathlib.Core.List.{List, [], ◌∷◌}
use Prim.Native.Nat.{ℕ}
use lib.Dec.{lit<}
use Rattle.refusal.specs.Refusals.{answer}
use Rattle.lines.specs.Numbers.{entry, InField}
use Rattle.checks.specs.Answers.{yes_no, check_of}
use Rattle.text.specs.Text.{SixDigits}
use Rattle.reply.specs.Due.{check_lines}
use Rattle.reply.proofs.Replies.{replied_as, six_in_one}
use Rattle.reply.proofs.Values.{six_check}
use borrow.Author.Rules.{rules}
use Rattle.answer_matrix.proofs.put_check.Goals as goal
use Rattle.answer_matrix.proofs.put_check.Goals.{After-from-involution}

-- the line
found : (c : After-from-involution)
    → let r = c.check-found.result in
    let m = c.args.matrix in
    0 ∷ r.branch ∷ c.from-mds.result ∷ c.from-involution.result ∷ r.count ∷ [] ≡ 0 ∷ check_of m.field.polynomial m.order (entry m.entries)
found c =
    let r = c.check-found.result in
    let mds : c.from-mds.result ≡ yes_no r.mds = search rules in
    let involution : c.from-involution.result ≡ yes_no r.involution = search rules in
    ap₂ (λ (a b : ℕ). 0 ∷ r.branch ∷ a ∷ b ∷ r.count ∷ []) mds involution ∙ ap (λ (l : List ℕ). 0 ∷ l) c.check-found.ensures

pub put_answer-requires : goal.put_answer-requires
unfolding InField
put_answer-requires c =
    let m = c.args.matrix in
    let six = six_check m.field.polynomial m.order (entry m.entries) m.field.modulus m.low m.high m.inside in
    (lit< tt, six_in_one _ (subst SixDigits (sym (found (goal.at.put_answer-requires c).After-from-involution)) six))

pub returns : goal.returns
unfolding check_lines
returns c =
    replied_as (ap (λ (l : List ℕ). answer 0 (l ∷ [])) (found (goal.at.returns c).After-from-involution)) c.put_answer.ensures
