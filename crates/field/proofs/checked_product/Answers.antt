-- `field::checked_product` meets its contract. Assumes nothing.
use mathlib.Core.Path.{◌≡◌, refl, sym, ap, ap₂, ◌∙◌}
use mathlib.Core.Bool.{Bool, false, ◌||◌, or-true}
use Prim.Native.Nat.{ℕ}
use Rattle.std.proofs.lemmas.Result.{err_from_is_err_and}
use Rattle.refusal.specs.Refusals.{answer}
use Rattle.refusal.proofs.Faults.{refused_before}
use Rattle.field.specs.Polynomial.{product}
use Rattle.field.specs.Faults.{is_too_large, polynomial_faults, product_faults}
use Rattle.field.proofs.Calls.{value_refused, value_yielded, not_too_large}
use Rattle.field.proofs.checked_product.Goals as goal
use Rattle.field.proofs.checked_product.Goals.{In_ok-field}

pub returns-in_err-field : goal.returns-in_err-field
unfolding product_faults
returns-in_err-field c =
    let p = err_from_is_err_and c.from_residual.result c.from_residual.ensures.1 in
    rw (p.1, p.2) (refused_before 0 _ (polynomial_faults c.args.p) _ _ c.in_err-field.ensures)

-- whether a value is too large, over the field made
large : (c : In_ok-field) (a : ℕ) → is_too_large c.in_ok-field.field.polynomial a ≡ is_too_large c.args.p a
large c a = ap (λ (q : ℕ). is_too_large q a) c.in_ok-field.ensures

pub returns-in_err-first : goal.returns-in_err-first
unfolding product_faults
returns-in_err-first c =
    let p = err_from_is_err_and c.from_residual-in_err-first.result c.from_residual-in_err-first.ensures.1 in
    let said = c.in_err-first.ensures in
    rw (p.1, p.2, said.0)
    (value_refused 0 _ _ false c.in_ok-field.field.modulus c.in_ok-field.ensures
    (ap (λ (b : Bool). b || is_too_large c.args.p c.args.b) (sym (large (goal.at.returns-in_err-first c).In_ok-field c.args.a) ∙ said.1)))

pub returns-in_err-second : goal.returns-in_err-second
unfolding product_faults
returns-in_err-second c =
    let p = err_from_is_err_and c.from_residual-in_err-second.result c.from_residual-in_err-second.ensures.1 in
    let said = c.in_err-second.ensures in
    rw (p.1, p.2, said.0)
    (value_refused 0 _ _ false c.in_ok-field.field.modulus c.in_ok-field.ensures
    (ap (λ (b : Bool). is_too_large c.args.p c.args.a || b) (sym (large (goal.at.returns-in_err-second c).In_ok-field c.args.b) ∙ said.1)
    ∙ or-true (is_too_large c.args.p c.args.a)))

pub product-requires : goal.product-requires
product-requires c =
    let said = c.in_ok-first.ensures in
    rw said.0 (not_too_large c.in_ok-field.field.polynomial c.args.a said.1)

pub returns : goal.returns
unfolding product_faults
returns c =
    let first = c.in_ok-first.ensures in
    let second = c.in_ok-second.ensures in
    let at = (goal.at.returns c).In_ok-field in
    ap (answer 0) (c.from.ensures ∙ c.product.ensures ∙ ap (λ (q : ℕ). product q c.in_ok-first.first c.in_ok-second.second) c.in_ok-field.ensures ∙ ap₂ (product c.args.p) first.0 second.0)
    ∙ value_yielded 0 _ _ false c.in_ok-field.field.modulus c.in_ok-field.ensures
    (ap₂ ◌||◌ (sym (large at c.args.a) ∙ first.1) (sym (large at c.args.b) ∙ second.1)) refl
