-- `multiply::dot` meets its contract: after j turns the first j products are added. Assumes nothing.
use mathlib.Core.Path.{◌≡◌}
use lib.ListN.{get_or}
use Rattle.algebra.specs.Matrix.{sum}
use Rattle.field.specs.Polynomial.{product}
use Rattle.lines.specs.Numbers.{numbers}
use Rattle.multiply.proofs.dot.Given as goal

abbrev pub invariant-loop-j : goal.invariant-loop-j
invariant-loop-j l =
    let p = l.field.polynomial in
    l.r ≡ sum (numbers p) l.j (λ j. product p (get_or l.line j 0) (get_or l.x j 0))
