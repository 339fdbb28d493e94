-- `checks::field_for` meets its contract: behind the polynomial's faults the order decides. Assumes nothing.
use mathlib.Core.Path.{refl}
use Rattle.std.proofs.lemmas.Result.{err_from_is_err_and}
use Rattle.checks.proofs.CallFaults.{call_before, call_first}
use Rattle.checks.proofs.field_for.Goals as goal

pub returns-in_err-field : goal.returns-in_err-field
returns-in_err-field c =
    let p = err_from_is_err_and c.from_residual.result c.from_residual.ensures.1 in
    rw (p.1, p.2) (λ large. call_before _ _ large _ c.in_err-field.ensures)

pub returns-then-wrong_order : goal.returns-then-wrong_order
returns-then-wrong_order c = λ large. call_first _ _ large c.in_ok-field.field.modulus c.in_ok-field.ensures c.if-wrong_order.true refl
