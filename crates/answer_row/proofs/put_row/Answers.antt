-- `answer_row::put_row` meets its contract: the counts follow from the sum of the element counts and the additions. Assumes nothing.
use mathlib.Core.Path.{◌≡◌, sym, ap, ◌∙◌}
use Prim.Native.Nat.{ℕ, ◌+◌, ◌*◌, ◌≤◌}
use native.Mathlib.Nat.{mul-le-mul}
use native.Mathlib.Omega.{arith}
use mathlib.Core.List.{List, [], ◌∷◌}
use lib.ListN.{get_or, take, length-take}
use lib.Seq.{get_or-take}
use Rattle.refusal.specs.Refusals.{answer}
use Rattle.lines.specs.Counts.{addition_count}
use Rattle.lines.proofs.Tallies.{addition_count_le, addition_count_cong}
use Rattle.rows.specs.Keys.{sum_of}
use Rattle.reply.proofs.Replies.{replied_as, six_in_two}
use Rattle.answer_row.proofs.Found.{row_lines_holds, sum_le, six_row, six_take}
use Rattle.answer_row.proofs.put_row.Goals as goal
use Rattle.answer_row.proofs.put_row.Goals.{After-addition_count}

-- the sum and the additions are small
sum_small : (c : After-addition_count) → c.args.found.sum ≤ 448
unfolding sum_of
sum_small c =
    sum_le c.args.field.polynomial c.args.n c.args.found.sum (λ j. get_or (take c.args.n c.args.found.row) j 0) c.args.field.modulus c.requires.1 c.requires.2

additions : (c : After-addition_count) → c.addition_count.result ≤ 56
additions c =
    omega (arith, c.addition_count.ensures, addition_count_le c.args.field.polynomial c.args.n (λ j. get_or c.args.found.row j 0) c.args.field.modulus c.requires.1)

most : (c : After-addition_count) → c.args.n * (c.args.found.sum + c.addition_count.result) ≤ 4032
most c =
    let low : c.args.found.sum + c.addition_count.result ≤ 504 = omega (arith, sum_small c, additions c) in
    mul-le-mul c.requires.1 low

pub overflow_add-count : goal.overflow_add-count
overflow_add-count c =
    let w = (goal.at.overflow_add-count c).After-addition_count in
    record { fits = omega (arith, sum_small w, additions w) }

pub overflow_mul-order : goal.overflow_mul-order
overflow_mul-order c = record { fits = omega (arith, most (goal.at.overflow_mul-order c).After-addition_count) }

pub put_answer-requires : goal.put_answer-requires
put_answer-requires c =
    let n = c.args.n in
    let w = (goal.at.put_answer-requires c).After-addition_count in (
      omega (arith, length-take n c.widened-entries.result, c.requires.1),
      six_in_two _ _ (six_row _ _ _ (sum_small w) (omega (arith, sum_small w, additions w)) (most w)) (six_take n _ c.widened-entries.ensures.1),
    )

pub returns : goal.returns
returns c =
    let p = c.args.field.polynomial in
    let n = c.args.n in
    let found = c.args.found in
    let count : ℕ = found.sum + c.addition_count.result in
    let entries : addition_count p n (λ j. get_or found.row j 0) ≡ addition_count p n (λ j. get_or (take n found.row) j 0) =
    addition_count_cong p n _ _ (λ j l. sym (get_or-take n found.row j 0 l)) in
    replied_as
    (ap (λ (l : List ℕ). answer 0 ((0 ∷ found.sum ∷ count ∷ n * count ∷ []) ∷ take n l ∷ [])) c.widened-entries.ensures.0
    ∙ ap (λ (l : List (List ℕ)). answer 0 l)
    (row_lines_holds p n found.sum count (take n found.row) c.requires.2
    (ap (λ (x : ℕ). found.sum + x) (c.addition_count.ensures ∙ entries))))
    c.put_answer.ensures
