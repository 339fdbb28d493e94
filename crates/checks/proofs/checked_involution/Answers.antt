-- `checks::checked_involution` meets its contract. Assumes nothing.
use mathlib.Core.Path.{ap, ◌∙◌}
use Prim.Native.Nat.{ℕ}
use Rattle.algebra.specs.Matrix.{is_involution}
use Rattle.lines.specs.Numbers.{numbers, elements, entry}
use Rattle.checks.specs.Answers.{yes_no}
use Rattle.checks.proofs.CallFaults.{call_returned, call_accepted}
use Rattle.checks.proofs.checked_involution.Goals as goal

pub returns-in_err-field : goal.returns-in_err-field
returns-in_err-field c =
    call_returned _ 0 _ _ _ _ c.from_residual.ensures.1 c.in_err-field.ensures

pub returns : goal.returns
returns c = call_accepted 0 _ c.in_ok-field.ensures.4 (c.from.ensures ∙ ap yes_no (c.involution.ensures ∙ ap (λ (q : ℕ). is_involution (numbers q) (elements q) c.args.n (entry c.args.m)) c.in_ok-field.ensures.0))
