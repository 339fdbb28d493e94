-- `lines::figure::ones_in_line` meets its contract: after k turns the column is a times 2^k, and the ones of the columns before it are
-- counted. Assumes nothing.
use mathlib.Core.Path.{◌≡◌}
use Prim.Native.Nat.{◌^◌}
use Rattle.field.specs.Polynomial.{product}
use Rattle.lines.specs.Counts.{total}
use Rattle.lines.specs.Depths.{bit}
use Rattle.lines.proofs.figure.ones_in_line.Given as goal

abbrev pub invariant-loop : goal.invariant-loop
invariant-loop l =
    let p = l.field.polynomial in
    (l.column ≡ product p l.a (2 ^ l.counter)) × (l.ones ≡ total l.counter (λ k. bit l.b (product p l.a (2 ^ k))))
