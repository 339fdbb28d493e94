-- `field::checked_xor_count` meets its contract. Assumes nothing.
use mathlib.Core.Path.{◌≡◌, refl, sym, ap, ap₂, ◌∙◌}
use mathlib.Core.Bool.{false}
use Prim.Native.Nat.{ℕ}
use Rattle.std.proofs.lemmas.Result.{err_from_is_err_and}
use Rattle.refusal.specs.Refusals.{answer}
use Rattle.refusal.proofs.Faults.{refused_before}
use Rattle.field.specs.Polynomial.{xor_count}
use Rattle.field.specs.Faults.{is_too_large, polynomial_faults, count_faults}
use Rattle.field.proofs.Calls.{value_refused, value_yielded, not_too_large}
use Rattle.field.proofs.checked_xor_count.Goals as goal
use Rattle.field.proofs.checked_xor_count.Goals.{In_ok-field, In_ok-first}

pub returns-in_err-field : goal.returns-in_err-field
unfolding count_faults
returns-in_err-field c =
    let p = err_from_is_err_and c.from_residual.result c.from_residual.ensures.1 in
    rw (p.1, p.2) (refused_before 0 _ (polynomial_faults c.args.p) _ _ c.in_err-field.ensures)

-- whether the value is too large, over the field made
large : (c : In_ok-field) → is_too_large c.in_ok-field.field.polynomial c.args.a ≡ is_too_large c.args.p c.args.a
large c = ap (λ (q : ℕ). is_too_large q c.args.a) c.in_ok-field.ensures

pub returns-in_err-first : goal.returns-in_err-first
unfolding count_faults
returns-in_err-first c =
    let p = err_from_is_err_and c.from_residual-in_err-first.result c.from_residual-in_err-first.ensures.1 in
    let said = c.in_err-first.ensures in
    rw (p.1, p.2, said.0)
    (value_refused 0 _ _ false c.in_ok-field.field.modulus c.in_ok-field.ensures (sym (large (goal.at.returns-in_err-first c).In_ok-field) ∙ said.1))

pub xor_count-requires : goal.xor_count-requires
xor_count-requires c =
    let said = c.in_ok-first.ensures in
    rw said.0 (not_too_large c.in_ok-field.field.polynomial c.args.a said.1)

pub returns : goal.returns
unfolding count_faults
returns c =
    let said = c.in_ok-first.ensures in
    ap (answer 0) (c.from.ensures ∙ c.xor_count.ensures ∙ ap₂ xor_count c.in_ok-field.ensures said.0)
    ∙ value_yielded 0 _ _ false c.in_ok-field.field.modulus c.in_ok-field.ensures (sym (large (goal.at.returns c).In_ok-field) ∙ said.1) refl
