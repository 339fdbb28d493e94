-- `checks::check` meets its contract. Assumes nothing.
use native.Mathlib.Numerals.{add-one}
use native.Mathlib.Omega.{arith}
use Rattle.algebra.specs.Matrix.{is_mds}
use Rattle.lines.specs.Numbers.{InField}
use Rattle.matrix.proofs.Theorems.{branch_most}
use Rattle.checks.specs.Answers.{check_of}
use Rattle.checks.proofs.check.Goals as goal

pub overflow_cast-result : goal.overflow_cast-result
unfolding InField
overflow_cast-result c =
    let a = c.args in
    let w = c.requires in
    record { fits = omega (arith, c.branch_number_of-branch.ensures, branch_most a.field.polynomial a.field.modulus a.n _ w.2 w.0, w.1) }

pub returns : goal.returns
unfolding check_of is_mds
returns c = cc (add-one c.args.n)
