-- `checks::field_for_matrix` meets its contract. Assumes nothing.
use mathlib.Core.Path.{◌≡◌, sym, ap, ◌∙◌}
use mathlib.Core.Bool.{false}
use Prim.Native.Nat.{ℕ}
use Rattle.std.proofs.lemmas.Result.{err_from_is_err_and}
use Rattle.lines.specs.Numbers.{entry}
use Rattle.checks.specs.Answers.{is_wrong_order, some_entry_too_large, matrix_faults}
use Rattle.checks.proofs.CallFaults.{call_first, order_passes, entries_pass}
use Rattle.checks.proofs.field_for_matrix.Goals as goal
use Rattle.checks.proofs.field_for_matrix.Goals.{In_ok-field, After-entry_too_large}

pub returns-in_err-field : goal.returns-in_err-field
unfolding matrix_faults
returns-in_err-field c =
    let p = err_from_is_err_and c.from_residual.result c.from_residual.ensures.1 in
    rw (p.1, p.2, sym c.is_wrong_order.ensures) (c.in_err-field.ensures _)

-- the order, and the entries over the field made
order : (c : In_ok-field) → is_wrong_order c.args.n ≡ false
order c = sym c.is_wrong_order.ensures ∙ c.in_ok-field.ensures.1

entries : (c : After-entry_too_large) → c.entry_too_large.result ≡ some_entry_too_large c.args.p c.args.n (entry c.args.m)
entries c = c.entry_too_large.ensures ∙ ap (λ (q : ℕ). some_entry_too_large q c.args.n (entry c.args.m)) c.in_ok-field.ensures.0

pub entry_too_large-requires : goal.entry_too_large-requires
entry_too_large-requires c = (order_passes _ (order (goal.at.entry_too_large-requires c).In_ok-field)).1

pub returns-then-entry_too_large : goal.returns-then-entry_too_large
unfolding matrix_faults
returns-then-entry_too_large c =
    let at = goal.at.returns-then-entry_too_large c in
    call_first _ _ _ c.in_ok-field.field.modulus c.in_ok-field.ensures.0 (order at.In_ok-field) (sym (entries at.After-entry_too_large) ∙ c.if-entry_too_large.true)

pub returns : goal.returns
unfolding matrix_faults
returns c =
    let at = goal.at.returns c in
    let (low, high) = order_passes _ (order at.In_ok-field) in (
      c.in_ok-field.ensures.0,
      low,
      high,
      entries_pass _ _ _ (sym c.entry_too_large.ensures ∙ c.if-entry_too_large.false),
      sym (call_first _ _ _ c.in_ok-field.field.modulus c.in_ok-field.ensures.0 (order at.In_ok-field) (sym (entries at.After-entry_too_large) ∙ c.if-entry_too_large.false)),
    )
