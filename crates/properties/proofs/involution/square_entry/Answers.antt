-- `properties::involution::square_entry` meets its contract: the first k products are added. Assumes nothing.
use mathlib.Core.Path.{◌≡◌, refl, ap, ◌∙◌}
use Prim.Native.Nat.{ℕ}
use native.Mathlib.Omega.{arith}
use Rattle.algebra.specs.Matrix.{sum}
use Rattle.field.specs.Polynomial.{product}
use Rattle.lines.specs.Numbers.{numbers, entry, InField}
use Rattle.lines.proofs.Filled.{sum_more}
use Rattle.properties.specs.Steps.Identity.{square_entry}
use Rattle.properties.proofs.involution.square_entry.Goals as goal

pub loop-k-init : goal.loop-k-init
unfolding sum
loop-k-init c = refl

pub product-sum-requires : goal.product-sum-requires
unfolding InField
product-sum-requires c = c.requires.3 c.args.i c.loop-k.k c.requires.1 (omega arith)

pub loop-k-preserved : goal.loop-k-preserved
loop-k-preserved c =
    let args = c.args in
    let loop = c.loop-k in
    let p = args.field.polynomial in
    sum_more p loop.k (λ l. product p (entry args.m args.i l) (entry args.m l args.j)) loop.sum c.product-sum.result loop.invariant c.product-sum.ensures

pub returns : goal.returns
unfolding square_entry
returns c =
    let args = c.args in
    let p = args.field.polynomial in
    let last : c.loop-k.k ≡ args.n = omega arith in
    c.loop-k.invariant ∙ ap (λ (k : ℕ). sum (numbers p) k (λ l. product p (entry args.m args.i l) (entry args.m l args.j))) last
