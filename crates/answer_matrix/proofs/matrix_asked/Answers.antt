-- `answer_matrix::matrix_asked` meets its contract: the first fault of the list is told. Assumes nothing.
use mathlib.Core.Path.{◌≡◌, refl, sym, ◌∙◌}
use mathlib.Core.Bool.{not, false}
use Prim.Native.Nat.{ℕ, ◌+◌, ◌*◌, ◌^◌, ◌≤◌, ◌<◌}
use native.Mathlib.Nat.{lt_of_lt_of_le, mul-le-mul}
use native.Mathlib.Omega.{arith}
use lib.Dec.{eqb}
use lib.ListN.{length}
use Rattle.std.proofs.lemmas.Result.{err_from_is_err_and}
use Rattle.field.specs.Polynomial.{degree}
use Rattle.field.proofs.Calls.{elements_most}
use Rattle.lines.specs.Numbers.{InField}
use Rattle.lines.proofs.Filled.{entry_of}
use Rattle.checks.specs.Answers.{is_wrong_order}
use Rattle.checks.proofs.CallFaults.{order_passes}
use Rattle.rows.specs.Candidates.{some_too_large}
use Rattle.text.specs.Reading.{value_at, values_from}
use Rattle.reply.proofs.Values.{count_wrong, count_right, value_small, place_below_holds, entries_read}
use Rattle.answer_matrix.proofs.Requests.{matrix_before, matrix_first}
use Rattle.answer_matrix.proofs.matrix_asked.Goals as goal
use Rattle.answer_matrix.proofs.matrix_asked.Goals.{Else-header-n, Else-some_too_large, Else-is_wrong_order}

pub returns-in_err-field : goal.returns-in_err-field
returns-in_err-field c =
    let p = err_from_is_err_and c.from_residual.result c.from_residual.ensures.1 in
    rw (p.1, p.2) (matrix_before _ _ _ _ c.in_err-field.ensures)

-- what passed before a test is reached
order : (c : Else-is_wrong_order) → is_wrong_order c.args.header.order ≡ false
order c = sym c.is_wrong_order.ensures ∙ c.if-is_wrong_order.false

most : (c : Else-is_wrong_order) → (1 ≤ c.args.header.order) × (c.args.header.order ≤ 8)
most c = order_passes _ (order c)

count : (c : Else-header-n) → not (eqb (length (values_from c.args.part.now 0 c.args.header.count)) (c.args.header.order * c.args.header.order)) ≡ false
count c = count_right c.args.part.now c.args.header.count _ c.if-header-n.false

large : (c : Else-some_too_large) → some_too_large c.in_ok-field.field.polynomial (values_from c.args.part.now 0 c.args.header.count) ≡ false
large c = sym c.some_too_large.ensures ∙ c.if-some_too_large.false

pub returns-then-is_wrong_order : goal.returns-then-is_wrong_order
returns-then-is_wrong_order c = matrix_first _ _ _ c.in_ok-field.field.modulus c.in_ok-field.ensures (sym c.is_wrong_order.ensures ∙ c.if-is_wrong_order.true) refl refl

pub overflow_mul-n : goal.overflow_mul-n
overflow_mul-n c =
    let m = (most (goal.at.overflow_mul-n c).Else-is_wrong_order).1 in
    record { fits = omega (arith, mul-le-mul m m) }

pub returns-then-header-n : goal.returns-then-header-n
returns-then-header-n c =
    matrix_first _ _ _ c.in_ok-field.field.modulus c.in_ok-field.ensures (order (goal.at.returns-then-header-n c).Else-is_wrong_order)
    (count_wrong c.args.part.now c.args.header.count _ c.if-header-n.true) refl

pub returns-then-some_too_large : goal.returns-then-some_too_large
returns-then-some_too_large c =
    matrix_first _ _ _ c.in_ok-field.field.modulus c.in_ok-field.ensures (order (goal.at.returns-then-some_too_large c).Else-is_wrong_order)
    (count (goal.at.returns-then-some_too_large c).Else-header-n) (sym c.some_too_large.ensures ∙ c.if-some_too_large.true)

-- every value of the matrix is an element
small : (c : Else-some_too_large) (i j : ℕ) → i < c.args.header.order → j < c.args.header.order
    → value_at c.args.part.now (i * c.args.header.order + j) < 2 ^ degree c.in_ok-field.field.polynomial
small c i j l m =
    value_small _ c.args.part.now c.args.header.count _ (large c) (rw c.if-header-n.false (place_below_holds _ i j l m))

pub matrix_of-requires : goal.matrix_of-requires
matrix_of-requires c = (
  (most (goal.at.matrix_of-requires c).Else-is_wrong_order).1,
  λ i j l m. lt_of_lt_of_le (small (goal.at.matrix_of-requires c).Else-some_too_large i j l m) (elements_most _ c.in_ok-field.field.modulus),
)

pub invariant_of-result : goal.invariant_of-result
unfolding InField
invariant_of-result c =
    let m = most (goal.at.invariant_of-result c).Else-is_wrong_order in
    record {
      low = m.0;
      high = m.1;
      inside =
          λ i j l k.
          rw (entry_of _ _ (λ i j. value_at c.args.part.now (i * c.args.header.order + j)) _ c.matrix_of.ensures i j l k)
          (small (goal.at.invariant_of-result c).Else-some_too_large i j l k);
    }

pub returns : goal.returns
returns c = (
  c.in_ok-field.ensures,
  refl,
  sym (matrix_first _ _ _ c.in_ok-field.field.modulus c.in_ok-field.ensures (order (goal.at.returns c).Else-is_wrong_order) (count (goal.at.returns c).Else-header-n)
      (large (goal.at.returns c).Else-some_too_large)),
  λ i j l m.
      entry_of _ _ (λ i j. value_at c.args.part.now (i * c.args.header.order + j)) _ c.matrix_of.ensures i j l m
      ∙ sym (rw c.if-header-n.false (entries_read c.args.part.now c.args.header.order i j l m)),
)
