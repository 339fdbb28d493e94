-- `text::put_line_one` meets its contract: the numbers of the line are those that are read, as many as the kind has.
-- Assumes nothing.
use mathlib.Core.Path.{◌≡◌, sym}
use mathlib.Core.List.{List, [], ◌∷◌}
use Prim.Native.Nat.{ℕ, ◌+◌, ◌≤◌}
use native.Mathlib.Omega.{arith}
use lib.ListN.{take}
use lib.Seq.{length-take-le}
use Rattle.text.specs.Reading.{line_one, kind_of, polynomial_of, order_of, count_of}
use Rattle.text.proofs.Lengths.{further_le, length_line}
use Rattle.text.proofs.Form.{six_line_one, line_one_taken, length_line_one}
use Rattle.text.proofs.put_line_one.Goals as goal
use Rattle.text.proofs.put_line_one.Goals.{After-further_numbers}

-- there is at most one further number
few : (c : After-further_numbers) → c.further_numbers.result ≤ 1
few c = rw c.further_numbers.ensures (further_le _)

-- the numbers of the line are those read from the text
numbers : (c : After-further_numbers)
    → ◌≡◌ {A = List ℕ}
    (take (4 + c.further_numbers.result)
    (c.number_at-kind.result
    ∷ c.number_at-polynomial.result
    ∷ c.number_at-order.result
    ∷ c.number_at-count.result
    ∷ c.number_at.result
    ∷ []))
    (line_one c.args.text.now)
numbers c =
    let s = c.args.text.now in
    (unfold kind_of polynomial_of order_of count_of in rw (
      c.further_numbers.ensures,
      c.number_at-kind.ensures,
      c.number_at-polynomial.ensures,
      c.number_at-order.ensures,
      c.number_at-count.ensures,
      c.number_at.ensures,
    ) (line_one_taken s))

pub overflow_add-numbers : goal.overflow_add-numbers
overflow_add-numbers c = omega (arith, few (goal.at.overflow_add-numbers c).After-further_numbers)

pub slice_bounds-numbers-end : goal.slice_bounds-numbers-end
slice_bounds-numbers-end c = omega (arith, few (goal.at.slice_bounds-numbers-end c).After-further_numbers)

pub slice_bounds-put_line-end : goal.slice_bounds-put_line-end
slice_bounds-put_line-end c = sym (length-take-le _ _ (slice_bounds-numbers-end (goal.at.slice_bounds-put_line-end c).After-further_numbers))

pub put_line-requires : goal.put_line-requires
put_line-requires c =
    let s = c.args.text.now in
    rw (numbers (goal.at.put_line-requires c).After-further_numbers) (omega (arith, length_line (line_one s), length_line_one s), six_line_one s)

pub returns : goal.returns
returns c = rw (numbers (goal.at.returns c).After-further_numbers) at c.put_line.ensures
