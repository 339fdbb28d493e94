-- `answer_survey::put_survey` meets its contract: line one, and the lines of the degree's part of the table, are the survey.
-- Assumes nothing.
use mathlib.Core.Path.{◌≡◌}
use mathlib.Core.List.{List, [], ◌∷◌, ◌++◌}
use Prim.Native.Nat.{ℕ, ◌+◌, ◌-◌, ◌*◌, ◌≤◌}
use native.Mathlib.Omega.{arith}
use lib.ListN.{length}
use Rattle.text.specs.Text.{line_text, answer_text}
use Rattle.text.proofs.Form.{six_none, six_more}
use Rattle.text.proofs.Lengths.{length_line}
use Rattle.text.proofs.Places.{wrote_join, put_long}
use Rattle.reply.specs.Due.{survey_lines}
use Rattle.answer_survey.specs.Steps.TableLines.{lines_from}
use Rattle.answer_survey.proofs.Surveys.{starts_rise, start_most, survey_text, survey_length}
use Rattle.reply.proofs.Replies.{lines_written, lines_short}
use borrow.Author.Rules.{rules}
use Rattle.answer_survey.proofs.put_survey.Goals as goal
use Rattle.answer_survey.proofs.put_survey.Goals.{After-start_of-last}

-- the part of the table, and the text of the survey
low : (c : After-start_of-last) → c.start_of-first.result ≤ c.start_of-last.result
low c =
    let start = c.before.before.before in
    omega (arith, c.start_of-first.ensures, c.start_of-last.ensures, starts_rise start.args.m start.requires.1)

high : (c : After-start_of-last) → c.start_of-last.result ≤ 69
high c =
    let start = c.before.before.before in
    omega (arith, c.start_of-last.ensures, start_most (start.args.m + 1) (omega arith))

whole : (c : After-start_of-last)
    → answer_text (survey_lines c.args.m) ≡ line_text (0 ∷ (c.start_of-last.result - c.start_of-first.result) ∷ []) ++ lines_from c.start_of-first.result c.start_of-last.result
whole c =
    let start = c.before.before.before in
    rw (c.start_of-last.ensures, c.start_of-first.ensures) (survey_text start.args.m start.requires.0 start.requires.1)

size : (c : After-start_of-last)
    → length (answer_text (survey_lines c.args.m)) ≡ 13 + 19 * (c.start_of-last.result - c.start_of-first.result)
size c =
    let start = c.before.before.before in
    rw (c.start_of-last.ensures, c.start_of-first.ensures) (survey_length start.args.m start.requires.0 start.requires.1)

pub overflow_sub-count : goal.overflow_sub-count
overflow_sub-count c = low (goal.at.overflow_sub-count c).After-start_of-last

pub overflow_mul-count : goal.overflow_mul-count
overflow_mul-count c = omega (arith, high (goal.at.overflow_mul-count c).After-start_of-last)

pub overflow_add-count : goal.overflow_add-count
overflow_add-count c = omega (arith, high (goal.at.overflow_add-count c).After-start_of-last)

pub returns-then-space-count : goal.returns-then-space-count
returns-then-space-count c = lines_short (survey_lines c.args.m) _ (omega (arith, size (goal.at.returns-then-space-count c).After-start_of-last))

pub overflow_cast-count : goal.overflow_cast-count
overflow_cast-count c = omega (arith, high (goal.at.overflow_cast-count c).After-start_of-last)

pub put_line-requires : goal.put_line-requires
put_line-requires c =
    (omega (arith, low (goal.at.put_line-requires c).After-start_of-last), six_more _ (search rules) (six_more _ (omega (arith, high (goal.at.put_line-requires c).After-start_of-last)) six_none))

pub put_polynomials-requires : goal.put_polynomials-requires
put_polynomials-requires c =
    let first : List ℕ = 0 ∷ (c.start_of-last.result - c.start_of-first.result) ∷ [] in (
      low (goal.at.put_polynomials-requires c).After-start_of-last,
      high (goal.at.put_polynomials-requires c).After-start_of-last,
      omega (arith, c.put_line.ensures.put.place, length_line first, put_long (line_text first) c.put_line.ensures.put),
    )

pub returns : goal.returns
returns c =
    let wrote = wrote_join _ _ c.put_line.ensures c.put_polynomials.ensures in
    let replied =
    lines_written (survey_lines c.args.m) (omega (arith, size (goal.at.returns c).After-start_of-last)) (rw (← whole (goal.at.returns c).After-start_of-last) at wrote.put) in
    search rules
