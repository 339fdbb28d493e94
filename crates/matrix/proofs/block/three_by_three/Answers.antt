-- `matrix::block::three_by_three` meets its contract: expanded along the first line. Assumes nothing.
use mathlib.Core.Path.{ap, ap₂, ◌∙◌}
use Prim.Native.Nat.{ℕ, ◌^◌, ◌<◌}
use native.Mathlib.Omega.{arith}
use lib.Bits.{bit_xor}
use Rattle.field.specs.Polynomial.{degree, product, ◌⊕◌}
use Rattle.lines.specs.Numbers.{entry, InField}
use Rattle.matrix.proofs.Minors.{det_three}
use Rattle.matrix.proofs.block.three_by_three.Goals as goal
use Rattle.matrix.proofs.block.three_by_three.Goals.{Start}

-- the entries are elements
below : (c : Start) (i j : ℕ) → i < 3 → j < 3 → entry c.args.block i j < 2 ^ degree c.args.table.now.polynomial
unfolding InField
below c = c.requires

pub returns : goal.returns
unfolding ◌⊕◌
returns c =
    let p = c.args.table.now.polynomial in
    let f = entry c.args.block in
    let along : ℕ → ℕ → ℕ = λ j. product p (f 0 j) in
    ap₂ bit_xor
    (ap₂ bit_xor
    (c.times-r.ensures ∙ ap (along 0) c.two_by_two-first.ensures)
    (c.times-s.ensures ∙ ap (along 1) c.two_by_two-second.ensures))
    (c.times.ensures ∙ ap (along 2) c.two_by_two-third.ensures)
    ∙ det_three p f (λ j. below (goal.at.returns c).Start 2 j (omega arith))
