-- `checks::checked_plain` meets its contract. Assumes nothing.
use mathlib.Core.Path.{◌≡◌, sym, ap, ◌∙◌}
use mathlib.Core.Bool.{Bool, false, ◌||◌, or-true}
use mathlib.Core.List.{◌++◌}
use Prim.Native.Nat.{ℕ, ◌-◌}
use lib.ListN.{replicate}
use Rattle.algebra.specs.Matrix.{apply}
use Rattle.lines.specs.Numbers.{numbers, entry}
use Rattle.checks.specs.Answers.{is_wrong_order, some_word_too_large, some_entry_too_large, plain_faults}
use Rattle.checks.proofs.CallFaults.{order_passes, words_pass, entries_pass, call_returned, value_refused, value_yielded, neither}
use Rattle.checks.proofs.checked_plain.Goals as goal
use Rattle.checks.proofs.checked_plain.Goals.{In_ok-field}
use Rattle.checks.proofs.checked_plain.Goals.{then-entry_too_large-via-then-entry_too_large, then-entry_too_large-via-else-entry_too_large+then-word_too_large}

pub returns-in_err-field : goal.returns-in_err-field
unfolding plain_faults
returns-in_err-field c =
    rw (sym c.is_wrong_order.ensures) (call_returned _ (replicate 8 0) _ _ _ _ c.from_residual.ensures.1 (c.in_err-field.ensures _))

order : (c : In_ok-field) → is_wrong_order c.args.n ≡ false
order c = sym c.is_wrong_order.ensures ∙ c.in_ok-field.ensures.1

pub entry_too_large-requires : goal.entry_too_large-requires
entry_too_large-requires c = (order_passes _ (order (goal.at.entry_too_large-requires c).In_ok-field)).1

pub word_too_large-requires : goal.word_too_large-requires
word_too_large-requires c = (order_passes _ (order (goal.at.word_too_large-requires c).In_ok-field)).1

pub returns-then-entry_too_large : goal.returns-then-entry_too_large
unfolding plain_faults
returns-then-entry_too_large c =
    let a = c.args in
    let q = c.in_ok-field.field.polynomial in
    value_refused (replicate 8 0) c.in_ok-field.field.modulus c.in_ok-field.ensures.0 (order (goal.at.returns-then-entry_too_large c).In_ok-field)
    (λ q. some_entry_too_large q a.n (entry a.m) || some_word_too_large q a.n a.x) _
    (elim c.then-entry_too_large.branch [
      | then-entry_too_large-via-then-entry_too_large w ↦ ap (λ (b : Bool). b || some_word_too_large q a.n a.x) (sym c.entry_too_large.ensures ∙ w.if-entry_too_large.true)
      | then-entry_too_large-via-else-entry_too_large+then-word_too_large w ↦
          ap (λ (b : Bool). some_entry_too_large q a.n (entry a.m) || b) (sym w.word_too_large.ensures ∙ w.if-word_too_large.true) ∙ or-true _
    ])

pub plain-requires : goal.plain-requires
plain-requires c = (
  (order_passes _ (order (goal.at.plain-requires c).In_ok-field)).1,
  entries_pass _ _ _ (sym c.entry_too_large.ensures ∙ c.if-entry_too_large.false),
  words_pass _ _ _ (sym c.word_too_large.ensures ∙ c.if-word_too_large.false),
)

pub returns : goal.returns
unfolding plain_faults
returns c =
    let a = c.args in
    value_yielded (replicate 8 0) c.in_ok-field.field.modulus c.in_ok-field.ensures.0 (order (goal.at.returns c).In_ok-field)
    (λ q. some_entry_too_large q a.n (entry a.m) || some_word_too_large q a.n a.x)
    (neither (sym c.entry_too_large.ensures ∙ c.if-entry_too_large.false) (sym c.word_too_large.ensures ∙ c.if-word_too_large.false))
    (c.plain.ensures ∙ ap (λ (q : ℕ). apply (numbers q) a.n (entry a.m) a.x ++ replicate (8 - a.n) 0) c.in_ok-field.ensures.0)
