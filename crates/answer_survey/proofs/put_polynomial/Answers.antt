-- `answer_survey::put_polynomial` meets its contract: the numbers are those of the polynomial's line, and fit their columns. Assumes nothing.
use Rattle.answer_survey.proofs.Surveys.{six_survey}
use borrow.Author.Rules.{rules}
use Rattle.answer_survey.proofs.put_polynomial.Goals as goal

pub put_line-requires : goal.put_line-requires
put_line-requires c =
    (search rules, rw (c.from.ensures, c.sums_of-sums.ensures) (six_survey c.args.field.polynomial c.args.field.modulus))
