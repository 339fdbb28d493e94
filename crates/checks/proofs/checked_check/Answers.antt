-- `checks::checked_check` meets its contract. Assumes nothing.
use mathlib.Core.Path.{ap, ◌∙◌}
use Prim.Native.Nat.{ℕ}
use lib.ListN.{replicate}
use Rattle.lines.specs.Numbers.{entry}
use Rattle.checks.specs.Answers.{check_of}
use Rattle.checks.proofs.CallFaults.{call_returned, call_accepted}
use Rattle.checks.proofs.checked_check.Goals as goal

pub returns-in_err-field : goal.returns-in_err-field
returns-in_err-field c =
    call_returned _ (replicate 4 0) _ _ _ _ c.from_residual.ensures.1 c.in_err-field.ensures

pub returns : goal.returns
returns c = call_accepted (replicate 4 0) _ c.in_ok-field.ensures.4 (c.check.ensures ∙ ap (λ (q : ℕ). check_of q c.args.n (entry c.args.m)) c.in_ok-field.ensures.0)
