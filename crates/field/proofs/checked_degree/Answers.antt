-- `field::checked_degree` meets its contract. Assumes nothing.
use mathlib.Core.Path.{sym, ap, ◌∙◌}
use Prim.Native.Nat.{ℕ}
use Rattle.std.proofs.lemmas.Result.{err_from_is_err_and}
use Rattle.refusal.specs.Refusals.{answer, first_number}
use Rattle.refusal.proofs.Faults.{after_number, after_none, number_not_zero}
use Rattle.field.specs.Polynomial.{degree}
use Rattle.field.specs.Faults.{polynomial_faults}
use Rattle.field.proofs.Calls.{modulus_number}
use Rattle.field.proofs.checked_degree.Goals as goal
use Rattle.field.proofs.checked_degree.Goals.{In_ok-field}

pub returns-in_err-field : goal.returns-in_err-field
returns-in_err-field c =
    let p = err_from_is_err_and c.from_residual.result c.from_residual.ensures.1 in
    rw (p.1, p.2) (after_number 0 _ (polynomial_faults c.args.p) _ (sym c.in_err-field.ensures) (number_not_zero c.in_err-field.field-0.0))

pub returns : goal.returns
returns c =
    let field = c.in_ok-field.field in
    ap (answer 0) (c.from.ensures ∙ c.degree.ensures ∙ ap degree c.in_ok-field.ensures)
    ∙ after_none 0 _ (polynomial_faults c.args.p) (ap (λ (q : ℕ). first_number (polynomial_faults q)) (sym c.in_ok-field.ensures) ∙ modulus_number field.polynomial field.modulus)
