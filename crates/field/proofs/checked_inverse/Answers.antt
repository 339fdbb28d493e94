-- `field::checked_inverse` meets its contract. Assumes nothing.
use mathlib.Core.Path.{◌≡◌, sym, ap, ap₂, ◌∙◌}
use Prim.Native.Nat.{ℕ}
use native.Mathlib.Nat.{pos_of_ne-zero}
use borrow.Author.Tests.{eq-eqb, ne_eqb}
use Rattle.std.proofs.lemmas.Result.{err_from_is_err_and}
use Rattle.refusal.specs.Refusals.{answer}
use Rattle.refusal.proofs.Faults.{refused_before}
use Rattle.field.specs.Polynomial.{inverse}
use Rattle.field.specs.Faults.{is_too_large, polynomial_faults, inverse_faults}
use Rattle.field.proofs.Calls.{value_refused, bad_refused, value_yielded, not_too_large}
use Rattle.field.proofs.checked_inverse.Goals as goal
use Rattle.field.proofs.checked_inverse.Goals.{In_ok-field}

pub returns-in_err-field : goal.returns-in_err-field
unfolding inverse_faults
returns-in_err-field c =
    let p = err_from_is_err_and c.from_residual.result c.from_residual.ensures.1 in
    rw (p.1, p.2) (refused_before 0 _ (polynomial_faults c.args.p) _ _ c.in_err-field.ensures)

-- whether the value is too large, over the field made
large : (c : In_ok-field) → is_too_large c.in_ok-field.field.polynomial c.args.a ≡ is_too_large c.args.p c.args.a
large c = ap (λ (q : ℕ). is_too_large q c.args.a) c.in_ok-field.ensures

pub returns-in_err-first : goal.returns-in_err-first
unfolding inverse_faults
returns-in_err-first c =
    let p = err_from_is_err_and c.from_residual-in_err-first.result c.from_residual-in_err-first.ensures.1 in
    let said = c.in_err-first.ensures in
    rw (p.1, p.2, said.0)
    (value_refused 0 _ _ _ c.in_ok-field.field.modulus c.in_ok-field.ensures (sym (large (goal.at.returns-in_err-first c).In_ok-field) ∙ said.1))

pub returns-then-first-eq0 : goal.returns-then-first-eq0
unfolding inverse_faults
returns-then-first-eq0 c =
    let said = c.in_ok-first.ensures in
    bad_refused 0 _ _ _ c.in_ok-field.field.modulus c.in_ok-field.ensures
    (sym (large (goal.at.returns-then-first-eq0 c).In_ok-field) ∙ said.1) (eq-eqb c.args.a 0 (sym said.0 ∙ c.if-first-eq0.true))

pub inverse-requires : goal.inverse-requires
inverse-requires c =
    let said = c.in_ok-first.ensures in
    (pos_of_ne-zero c.if-first-eq0.false, rw said.0 (not_too_large c.in_ok-field.field.polynomial c.args.a said.1))

pub returns : goal.returns
unfolding inverse_faults
returns c =
    let said = c.in_ok-first.ensures in
    ap (answer 0) (c.from.ensures ∙ c.inverse.ensures ∙ ap₂ inverse c.in_ok-field.ensures said.0)
    ∙ value_yielded 0 _ _ _ c.in_ok-field.field.modulus c.in_ok-field.ensures
    (sym (large (goal.at.returns c).In_ok-field) ∙ said.1) (ne_eqb c.args.a 0 (λ e. c.if-first-eq0.false (said.0 ∙ e)))
