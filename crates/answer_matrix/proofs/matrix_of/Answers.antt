-- `answer_matrix::matrix_of` meets its contract. The loop's invariant: the lines before line i are stored. Assumes nothing.
use mathlib.Core.Path.{◌≡◌, refl}
use Prim.Native.Nat.{◌≤◌}
use native.Mathlib.Nat.{mul-le-mul}
use native.Mathlib.Omega.{arith}
use lib.ListN.{replicate}
use Rattle.algebra.specs.Matrix.{tabulate}
use Rattle.lines.proofs.Filled.{filled_more}
use Rattle.lines.specs.Steps.Blocks.{framed}
use borrow.Author.Rules.{rules}
use Rattle.answer_matrix.proofs.matrix_of.Goals as goal

pub loop-i-init : goal.loop-i-init
unfolding framed tabulate
loop-i-init c = refl

pub overflow_mul-i : goal.overflow_mul-i
overflow_mul-i c =
    let few : c.loop-i.i ≤ 8 = omega arith in
    record { fits = omega (arith, mul-le-mul few c.requires.0) }

pub line_of-requires : goal.line_of-requires
line_of-requires c =
    let few : c.loop-i.i ≤ 8 = omega arith in
    (c.requires.0, mul-le-mul few c.requires.0, λ j l. c.requires.1 c.loop-i.i j (search rules) l)

pub loop-i-preserved : goal.loop-i-preserved
unfolding framed
loop-i-preserved c =
    let loop = c.loop-i in
    filled_more (replicate 8 0) _ loop.i loop.m c.line_of.result (omega arith) loop.invariant c.line_of.ensures

pub returns : goal.returns
returns c =
    let last : c.loop-i.i ≡ c.args.n = omega arith in
    rw last at c.loop-i.invariant
