-- `multiply::halved` meets its contract: its three calls of itself are of half the order, the measure. Assumes nothing.
use mathlib.Core.Path.{◌≡◌, refl, sym, ap, ◌∙◌, subst}
use mathlib.Core.List.{List, ◌++◌}
use Prim.Native.Nat.{ℕ, ◌-◌, ◌/◌, ◌<◌}
use native.Mathlib.Omega.{arith}
use lib.ListN.{replicate}
use Rattle.algebra.specs.Matrix.{tabulate, apply, hadamard}
use Rattle.lines.specs.Numbers.{numbers, WordsInField}
use Rattle.multiply.proofs.Halving.{Half, half, single, first_in_field, second_in_field, added_in_field, halved_steps}
use Rattle.multiply.proofs.+halved.Goals as goal
use Rattle.multiply.proofs.+halved.Goals.{Else-n-eq1, After-added-inputs}

-- half the order, after the test
half_at : (t : ℕ) (c : Else-n-eq1 t) → Half c.args.n (c.args.n / 2)
half_at t c = half c.args.n c.requires.0 c.if-n-eq1.false

-- the measure falls
less_at : (t : ℕ) (c : Else-n-eq1 t) → c.args.n / 2 < t
less_at t c = subst (λ (m : ℕ). c.args.n / 2 < m) c.decreases (half_at t c).less

-- the words that the calls are given are elements
record Elements (p h : ℕ) (row x rows below inputs : List ℕ) : Type 0 where
  pub of_row : WordsInField p h row
  pub of_x : WordsInField p h x
  pub of_rows : WordsInField p h rows
  pub of_below : WordsInField p h below
  pub of_inputs : WordsInField p h inputs

elements_at : (t : ℕ) (c : After-added-inputs t)
    → Elements c.args.field.polynomial (c.args.n / 2) c.args.row c.args.x c.added-rows.result c.part-below.result c.added-inputs.result
elements_at t c =
    let p = c.args.field.polynomial in
    let n = c.args.n in
    let d = (half n c.requires.0 c.if-n-eq1.false).double in
    let row = c.args.row in
    let x = c.args.x in
    let first_row_holds = first_in_field p n (n / 2) d row c.requires.1 in
    let first_x = first_in_field p n (n / 2) d x c.requires.2 in
    let second_x = second_in_field p n (n / 2) d x c.requires.2 _ c.part-below.ensures in
    record {
      of_row = first_row_holds;
      of_x = first_x;
      of_rows = added_in_field p (n / 2) _ row _ c.added-rows.ensures (second_in_field p n (n / 2) d row c.requires.1 _ c.part-right.ensures) first_row_holds;
      of_below = second_x;
      of_inputs = added_in_field p (n / 2) x _ _ c.added-inputs.ensures first_x second_x;
    }

pub product-requires : goal.product-requires
unfolding WordsInField
product-requires t c = c.requires.1 0 (omega arith)

pub returns-then-n-eq1 : goal.returns-then-n-eq1
unfolding apply tabulate
returns-then-n-eq1 t c =
    let one : c.args.n ≡ 1 = c.if-n-eq1.true in
    rw (one, c.product.ensures, single c.args.field.polynomial c.args.row c.args.x) refl

pub halved-p0-requires : goal.halved-p0-requires
halved-p0-requires t c =
    let e = (goal.at.halved-p0-requires t c).Else-n-eq1 in
    let w = elements_at t (goal.at.halved-p0-requires t c).After-added-inputs in
    (less_at t e, ((half_at t e).order, w.of_rows, w.of_below))

pub halved-p1-requires : goal.halved-p1-requires
halved-p1-requires t c =
    let e = (goal.at.halved-p1-requires t c).Else-n-eq1 in
    let w = elements_at t (goal.at.halved-p1-requires t c).After-added-inputs in
    (less_at t e, ((half_at t e).order, w.of_rows, w.of_x))

pub halved-p2-requires : goal.halved-p2-requires
halved-p2-requires t c =
    let e = (goal.at.halved-p2-requires t c).Else-n-eq1 in
    let w = elements_at t (goal.at.halved-p2-requires t c).After-added-inputs in
    (less_at t e, ((half_at t e).order, w.of_row, w.of_inputs))

pub returns : goal.returns
returns t c =
    let h = half_at t (goal.at.returns t c).Else-n-eq1 in
    let p = c.args.field.polynomial in
    let row = c.args.row in
    let x = c.args.x in
    c.joined.ensures
    ∙ halved_steps p (c.args.n / 2) row x _ _ _ _ _ _ _ _ _ (record {
      right_is = c.part-right.ensures;
      below_is = c.part-below.ensures;
      rows_is = c.added-rows.ensures;
      inputs_is = c.added-inputs.ensures;
      p0_is = c.halved-p0.ensures;
      p1_is = c.halved-p1.ensures;
      p2_is = c.halved-p2.ensures;
      upper_is = c.added-upper.ensures;
      lower_is = c.added-lower.ensures;
    }) c.args.field.modulus h.order h.most
    ∙ ap (λ (n : ℕ). apply (numbers p) n (hadamard (numbers p) row) x ++ replicate (8 - n) 0) (sym h.double)
