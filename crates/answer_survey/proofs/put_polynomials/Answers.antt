-- `answer_survey::put_polynomials` meets its contract. The loop's invariant: what is left to write is the lines of the polynomials from the
-- next one on. Assumes nothing.
use Prim.Native.Nat.{◌+◌, ◌-◌, ◌<◌}
use native.Mathlib.Omega.{arith}
use lib.ListN.{get_or}
use Rattle.field.specs.Table.{table}
use Rattle.text.specs.Text.{line_text}
use Rattle.text.proofs.Places.{left_step, left_end, left_room}
use Rattle.reply.specs.Due.{survey_line}
use Rattle.answer_survey.specs.Steps.TableLines.{table_from, lines_from}
use Rattle.answer_survey.proofs.Surveys.{length_table, length_lines, part_modulus, part_next, lines_end}
use Rattle.answer_survey.proofs.put_polynomials.Goals as goal
use Rattle.answer_survey.proofs.put_polynomials.Goals.{In-loop-polynomial}

-- the loop is within the part
inside : (c : In-loop-polynomial) → c.loop-polynomial.polynomial-index < c.args.last - c.args.first
unfolding table table_from
inside c = omega (arith, length_table c.args.first c.args.last c.requires.1)

pub invariant_of-field : goal.invariant_of-field
unfolding table table_from
invariant_of-field c =
    record { modulus = part_modulus c.args.first c.args.last c.loop-polynomial.polynomial-index c.requires.1 (inside (goal.at.invariant_of-field c).In-loop-polynomial) }

pub put_polynomial-requires : goal.put_polynomial-requires
put_polynomial-requires c =
    let first = c.args.first in
    let last = c.args.last in
    omega (
      arith,
      left_room (omega (arith, length_lines first last c.requires.1)) c.loop-polynomial.invariant,
      length_lines (first + c.loop-polynomial.polynomial-index) last c.requires.1,
      inside (goal.at.put_polynomial-requires c).In-loop-polynomial,
    )

pub loop-polynomial-preserved : goal.loop-polynomial-preserved
unfolding table table_from
loop-polynomial-preserved c =
    let first = c.args.first in
    let last = c.args.last in
    let i = c.loop-polynomial.polynomial-index in
    left_step (line_text (survey_line (get_or (table_from first last) i 0))) (lines_from (first + (i + 1)) last)
    (rw (part_next first last i c.requires.1 (inside (goal.at.loop-polynomial-preserved c).In-loop-polynomial)) at c.loop-polynomial.invariant)
    c.put_polynomial.ensures

pub returns : goal.returns
unfolding table table_from
returns c =
    let first = c.args.first in
    let last = c.args.last in
    left_end (rw (lines_end (first + c.loop-polynomial.polynomial-index) last (omega (arith, length_table first last c.requires.1))) at c.loop-polynomial.invariant)
