-- `multiply::dot` meets its contract: after j turns the first j products are added. Assumes nothing.
use mathlib.Core.Path.{◌≡◌, refl}
use native.Mathlib.Omega.{arith}
use Rattle.algebra.specs.Matrix.{sum}
use Rattle.lines.specs.Numbers.{WordsInField}
use Rattle.lines.proofs.Filled.{sum_more}
use Rattle.multiply.proofs.dot.Goals as goal

pub loop-j-init : goal.loop-j-init
unfolding sum
loop-j-init c = refl

pub product-r-requires : goal.product-r-requires
unfolding WordsInField
product-r-requires c = c.requires.1 c.loop-j.j c.loop-j-test.true

pub loop-j-preserved : goal.loop-j-preserved
loop-j-preserved c =
    sum_more c.args.field.polynomial c.loop-j.j _ c.loop-j.r c.product-r.result c.loop-j.invariant c.product-r.ensures

pub returns : goal.returns
returns c =
    let last : c.loop-j.j ≡ c.args.n = omega arith in
    rw last at c.loop-j.invariant
