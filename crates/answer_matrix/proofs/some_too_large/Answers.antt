-- `answer_matrix::some_too_large` meets its contract. Assumes nothing.
use mathlib.Core.Path.{sym, ap, ◌∙◌}
use native.Mathlib.Omega.{arith}
use Rattle.std.proofs.Common.{below_more}
use Rattle.field.specs.Faults.{is_too_large}
use Rattle.answer_matrix.proofs.Values.{large_there, none_large}
use Rattle.answer_matrix.proofs.some_too_large.Goals as goal

pub returns-then-too_large : goal.returns-then-too_large
returns-then-too_large c =
    large_there c.args.field.polynomial c.args.part.now c.args.count c.loop-i.i (omega arith)
    (ap (is_too_large c.args.field.polynomial) (sym c.value_at.ensures) ∙ sym c.too_large.ensures ∙ c.if-too_large.true)

pub loop-i-preserved : goal.loop-i-preserved
loop-i-preserved c =
    below_more _ _ c.loop-i.invariant (ap (is_too_large c.args.field.polynomial) (sym c.value_at.ensures) ∙ sym c.too_large.ensures ∙ c.if-too_large.false)

pub returns : goal.returns
returns c = none_large c.args.field.polynomial c.args.part.now c.args.count (λ k l. c.loop-i.invariant k (omega arith))
