-- `search::checked_brief` meets its contract: the first fault of the list is told. Assumes nothing.
use mathlib.Core.Path.{refl, sym, ◌∙◌}
use Rattle.std.proofs.lemmas.Result.{err_from_is_err_and}
use Rattle.search.proofs.Refusals.{brief_before, brief_first}
use Rattle.search.proofs.checked_brief.Goals as goal

pub returns-in_err-field : goal.returns-in_err-field
returns-in_err-field c =
    let p = err_from_is_err_and c.from_residual.result c.from_residual.ensures.1 in
    rw (p.1, p.2) (brief_before _ _ _ _ _ c.in_err-field.ensures)

pub returns-then-is_wrong_order : goal.returns-then-is_wrong_order
returns-then-is_wrong_order c =
    brief_first _ _ _ _ c.in_ok-field.field.modulus c.in_ok-field.ensures (sym c.is_wrong_order.ensures ∙ c.if-is_wrong_order.true) refl refl refl

pub returns-then-is_wrong_count : goal.returns-then-is_wrong_count
returns-then-is_wrong_count c =
    brief_first _ _ _ _ c.in_ok-field.field.modulus c.in_ok-field.ensures (sym c.is_wrong_order.ensures ∙ c.if-is_wrong_order.false)
    (sym c.is_wrong_count.ensures ∙ c.if-is_wrong_count.true) refl refl

pub returns-then-some_too_large : goal.returns-then-some_too_large
returns-then-some_too_large c =
    brief_first _ _ _ _ c.in_ok-field.field.modulus c.in_ok-field.ensures (sym c.is_wrong_order.ensures ∙ c.if-is_wrong_order.false)
    (sym c.is_wrong_count.ensures ∙ c.if-is_wrong_count.false) (sym c.some_too_large.ensures ∙ c.if-some_too_large.true) refl

pub returns-then-some_bad : goal.returns-then-some_bad
returns-then-some_bad c =
    brief_first _ _ _ _ c.in_ok-field.field.modulus c.in_ok-field.ensures (sym c.is_wrong_order.ensures ∙ c.if-is_wrong_order.false)
    (sym c.is_wrong_count.ensures ∙ c.if-is_wrong_count.false) (sym c.some_too_large.ensures ∙ c.if-some_too_large.false) (sym c.some_bad.ensures ∙ c.if-some_bad.true)

pub returns : goal.returns
returns c = (
  c.in_ok-field.ensures,
  sym (brief_first _ _ _ _ c.in_ok-field.field.modulus c.in_ok-field.ensures (sym c.is_wrong_order.ensures ∙ c.if-is_wrong_order.false)
      (sym c.is_wrong_count.ensures ∙ c.if-is_wrong_count.false) (sym c.some_too_large.ensures ∙ c.if-some_too_large.false) (sym c.some_bad.ensures ∙ c.if-some_bad.false)),
)
