-- `checks::checked_branch_number` meets its contract: the branch number is at most 9. Assumes nothing.
use mathlib.Core.Path.{ap, ◌∙◌}
use Prim.Native.Nat.{ℕ}
use native.Mathlib.Omega.{arith}
use Rattle.algebra.specs.Matrix.{branch_number}
use Rattle.lines.specs.Numbers.{numbers, elements, entry, InField}
use Rattle.matrix.proofs.Theorems.{branch_most}
use Rattle.checks.proofs.CallFaults.{call_returned, call_accepted}
use Rattle.checks.proofs.checked_branch_number.Goals as goal

pub returns-in_err-field : goal.returns-in_err-field
returns-in_err-field c =
    call_returned _ 0 _ _ _ _ c.from_residual.ensures.1 c.in_err-field.ensures

pub overflow_cast-result : goal.overflow_cast-result
unfolding InField
overflow_cast-result c =
    let w = c.in_ok-field.ensures in
    record { fits = omega (arith, c.branch_number_of.ensures, branch_most _ c.in_ok-field.field.modulus _ _ w.3 w.1, w.2) }

pub returns : goal.returns
returns c = call_accepted 0 _ c.in_ok-field.ensures.4 (c.branch_number_of.ensures ∙ ap (λ (q : ℕ). branch_number (numbers q) (elements q) c.args.n (entry c.args.m)) c.in_ok-field.ensures.0)
