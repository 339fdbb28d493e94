-- `checks::checked_halved` meets its contract. Assumes nothing.
use mathlib.Core.Path.{◌≡◌, sym, ap, ◌∙◌}
use mathlib.Core.Bool.{Bool, false, ◌||◌, or-true}
use mathlib.Core.List.{◌++◌}
use Prim.Native.Nat.{ℕ, ◌-◌, ◌≤◌}
use lib.ListN.{replicate}
use Rattle.algebra.specs.Matrix.{apply, hadamard}
use Rattle.lines.specs.Numbers.{numbers}
use Rattle.checks.specs.Answers.{is_wrong_halved_order, some_word_too_large, halved_faults}
use Rattle.checks.proofs.CallFaults.{halved_order_passes, halving_most, words_pass, call_returned, value_refused, value_yielded, neither}
use Rattle.checks.proofs.checked_halved.Goals as goal
use Rattle.checks.proofs.checked_halved.Goals.{In_ok-field}
use Rattle.checks.proofs.checked_halved.Goals.{then-word_too_large-via-then-word_too_large, then-word_too_large-via-else-word_too_large+then-word_too_large-2}

pub returns-in_err-field : goal.returns-in_err-field
unfolding halved_faults
returns-in_err-field c =
    rw (sym c.is_wrong_halved_order.ensures) (call_returned _ (replicate 8 0) _ _ _ _ c.from_residual.ensures.1 (c.in_err-field.ensures _))

order : (c : In_ok-field) → is_wrong_halved_order c.args.n ≡ false
order c = sym c.is_wrong_halved_order.ensures ∙ c.in_ok-field.ensures.1

most : (c : In_ok-field) → c.args.n ≤ 8
most c = halving_most (halved_order_passes _ (order c))

pub word_too_large-requires : goal.word_too_large-requires
word_too_large-requires c = most (goal.at.word_too_large-requires c).In_ok-field

pub word_too_large-requires-else-word_too_large : goal.word_too_large-requires-else-word_too_large
word_too_large-requires-else-word_too_large c = most (goal.at.word_too_large-requires-else-word_too_large c).In_ok-field

pub returns-then-word_too_large : goal.returns-then-word_too_large
unfolding halved_faults
returns-then-word_too_large c =
    let a = c.args in
    let q = c.in_ok-field.field.polynomial in
    value_refused (replicate 8 0) c.in_ok-field.field.modulus c.in_ok-field.ensures.0 (order (goal.at.returns-then-word_too_large c).In_ok-field)
    (λ q. some_word_too_large q a.n a.row || some_word_too_large q a.n a.x) _
    (elim c.then-word_too_large.branch [
      | then-word_too_large-via-then-word_too_large w ↦ ap (λ (b : Bool). b || some_word_too_large q a.n a.x) (sym c.word_too_large.ensures ∙ w.if-word_too_large.true)
      | then-word_too_large-via-else-word_too_large+then-word_too_large-2 w ↦
          ap (λ (b : Bool). some_word_too_large q a.n a.row || b) (sym w.word_too_large-else-word_too_large.ensures ∙ w.if-word_too_large-2.true) ∙ or-true _
    ])

pub halved-requires : goal.halved-requires
halved-requires c = (
  halved_order_passes _ (order (goal.at.halved-requires c).In_ok-field),
  words_pass _ _ _ (sym c.word_too_large.ensures ∙ c.if-word_too_large.false),
  words_pass _ _ _ (sym c.word_too_large-else-word_too_large.ensures ∙ c.if-word_too_large-2.false),
)

pub returns : goal.returns
unfolding halved_faults
returns c =
    let a = c.args in
    value_yielded (replicate 8 0) c.in_ok-field.field.modulus c.in_ok-field.ensures.0 (order (goal.at.returns c).In_ok-field)
    (λ q. some_word_too_large q a.n a.row || some_word_too_large q a.n a.x)
    (neither (sym c.word_too_large.ensures ∙ c.if-word_too_large.false) (sym c.word_too_large-else-word_too_large.ensures ∙ c.if-word_too_large-2.false))
    (c.halved.ensures ∙ ap (λ (q : ℕ). apply (numbers q) a.n (hadamard (numbers q) a.row) a.x ++ replicate (8 - a.n) 0) c.in_ok-field.ensures.0)
