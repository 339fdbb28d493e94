-- `checks::checked_matrix_count` meets its contract. Assumes nothing.
use mathlib.Core.Path.{ap, ◌∙◌}
use Prim.Native.Nat.{ℕ}
use Rattle.lines.specs.Numbers.{entry}
use Rattle.lines.specs.Counts.{matrix_count}
use Rattle.checks.proofs.CallFaults.{call_returned, call_accepted}
use Rattle.checks.proofs.checked_matrix_count.Goals as goal

pub returns-in_err-field : goal.returns-in_err-field
returns-in_err-field c =
    call_returned _ 0 _ _ _ _ c.from_residual.ensures.1 c.in_err-field.ensures

pub returns : goal.returns
returns c = call_accepted 0 _ c.in_ok-field.ensures.4 (c.matrix_count.ensures ∙ ap (λ (q : ℕ). matrix_count q c.args.n (entry c.args.m)) c.in_ok-field.ensures.0)
