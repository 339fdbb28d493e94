-- `walk::counted` meets its contract. Assumes nothing.
use native.Mathlib.Omega.{arith}
use lib.ListN.{get_or}
use Rattle.lines.proofs.Tallies.{addition_count_le}
use Rattle.walk.proofs.Telling.{kept_small, count_kept, row_kept, count_none, row_none}
use Rattle.walk.proofs.counted.Goals as goal

pub overflow_add-count : goal.overflow_add-count
overflow_add-count c =
    let p = c.args.field.polynomial in
    let h = c.args.field.modulus in
    let b = c.in_ok-best.best in
    record { fits = omega (arith, kept_small p c.args.n c.args.best c.requires.1 b c.in_ok-best.was h c.requires.0, c.addition_count.ensures, addition_count_le p c.args.n (λ j. get_or b.row j 0) h c.requires.0) }

pub returns-in_err-best-clause-count : goal.returns-in_err-best-clause-count
returns-in_err-best-clause-count c = rw c.from_residual.ensures (count_none c.args.field.polynomial c.args.n c.args.best c.in_err-best.was)

pub returns-in_err-best-clause-row : goal.returns-in_err-best-clause-row
returns-in_err-best-clause-row c = rw c.from_residual.ensures (row_none c.args.field.polynomial c.args.n c.args.best c.in_err-best.was c.requires.0)

pub returns-clause-count : goal.returns-clause-count
returns-clause-count c =
    count_kept c.args.field.polynomial c.args.n c.args.best c.requires.1 c.in_ok-best.best c.in_ok-best.was c.addition_count.result c.addition_count.ensures

pub returns-clause-row : goal.returns-clause-row
returns-clause-row c = row_kept c.args.field.polynomial c.args.n c.args.best c.requires.1 c.in_ok-best.best c.in_ok-best.was
