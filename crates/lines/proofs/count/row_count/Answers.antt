-- `lines::count::row_count` meets its contract. Assumes nothing.
use mathlib.Core.Path.{ap₂}
use Prim.Native.Nat.{ℕ, ◌+◌}
use native.Mathlib.Omega.{arith}
use lib.ListN.{get_or}
use Rattle.lines.specs.Counts.{row_count}
use Rattle.lines.proofs.Tallies.{element_count_le, addition_count_le}
use Rattle.lines.proofs.count.row_count.Goals as goal

pub overflow_add-result : goal.overflow_add-result
overflow_add-result c =
    let line : ℕ → ℕ = λ j. get_or c.args.line j 0 in
    let elements = element_count_le c.args.field.polynomial c.args.n line c.args.field.modulus in
    let additions = addition_count_le c.args.field.polynomial c.args.n line c.args.field.modulus c.requires.1 in
    record { fits = omega (arith, c.element_count.ensures, c.addition_count.ensures, elements, additions) }

pub returns : goal.returns
unfolding row_count
returns c = ap₂ (λ (x y : ℕ). x + y) c.element_count.ensures c.addition_count.ensures
