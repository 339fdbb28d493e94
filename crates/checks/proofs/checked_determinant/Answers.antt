-- `checks::checked_determinant` meets its contract: sizes 0 to 8. Assumes nothing.
use mathlib.Core.Path.{sym, ap, ◌∙◌}
use Prim.Native.Nat.{ℕ, ◌≤◌}
use borrow.Author.Tests.{ltb-false}
use Rattle.algebra.specs.Matrix.{det}
use Rattle.lines.specs.Numbers.{numbers, entry}
use Rattle.checks.specs.Answers.{some_entry_too_large, determinant_faults}
use Rattle.checks.proofs.CallFaults.{entries_pass, call_returned, value_refused, value_yielded}
use Rattle.checks.proofs.checked_determinant.Goals as goal
use Rattle.checks.proofs.checked_determinant.Goals.{In_ok-field}

pub returns-in_err-field : goal.returns-in_err-field
unfolding determinant_faults
returns-in_err-field c =
    call_returned _ 0 _ _ _ _ c.from_residual.ensures.1 (c.in_err-field.ensures _)

most : (c : In_ok-field) → c.args.n ≤ 8
most c = ltb-false 8 _ c.in_ok-field.ensures.1

pub entry_too_large-requires : goal.entry_too_large-requires
entry_too_large-requires c = most (goal.at.entry_too_large-requires c).In_ok-field

pub returns-then-entry_too_large : goal.returns-then-entry_too_large
unfolding determinant_faults
returns-then-entry_too_large c =
    value_refused 0 c.in_ok-field.field.modulus c.in_ok-field.ensures.0 c.in_ok-field.ensures.1 (λ q. some_entry_too_large q c.args.n (entry c.args.m)) _
    (sym c.entry_too_large.ensures ∙ c.if-entry_too_large.true)

pub determinant_of-requires : goal.determinant_of-requires
determinant_of-requires c =
    (most (goal.at.determinant_of-requires c).In_ok-field, entries_pass _ _ _ (sym c.entry_too_large.ensures ∙ c.if-entry_too_large.false))

pub returns : goal.returns
unfolding determinant_faults
returns c =
    value_yielded 0 c.in_ok-field.field.modulus c.in_ok-field.ensures.0 c.in_ok-field.ensures.1 (λ q. some_entry_too_large q c.args.n (entry c.args.m))
    (sym c.entry_too_large.ensures ∙ c.if-entry_too_large.false)
    (c.from.ensures ∙ c.determinant_of.ensures ∙ ap (λ (q : ℕ). det (numbers q) c.args.n (entry c.args.m)) c.in_ok-field.ensures.0)
