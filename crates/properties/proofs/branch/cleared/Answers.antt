-- `properties::branch::cleared` meets its contract: the lines before line i are those of the cleared block. Assumes nothing.
use mathlib.Core.Path.{◌≡◌, refl}
use Prim.Native.Nat.{◌-◌, ◌<◌}
use native.Mathlib.Omega.{arith}
use lib.ListN.{replicate}
use Rattle.algebra.specs.Matrix.{tabulate}
use Rattle.algebra.proofs.Kernel.{skip_le}
use Rattle.lines.specs.Numbers.{InField, WordsInField}
use Rattle.lines.specs.Steps.Blocks.{framed}
use Rattle.lines.proofs.Filled.{filled_more}
use Rattle.properties.proofs.Elimination.{cleared_as}
use Rattle.properties.proofs.branch.cleared.Goals as goal
use Rattle.properties.proofs.branch.cleared.Goals.{After-other_line}

pub loop-i-init : goal.loop-i-init
unfolding tabulate
loop-i-init c = refl

-- one of the r lines is read
inside : (c : After-other_line) → c.other_line.result < c.args.r
inside c = omega (arith, c.other_line.ensures, skip_le c.args.k c.loop-i.i)

pub offset_bounds-block-other_line : goal.offset_bounds-block-other_line
offset_bounds-block-other_line c = record { fits = omega (arith, inside (goal.at.offset_bounds-block-other_line c).After-other_line) }

pub bounds-block-other_line : goal.bounds-block-other_line
bounds-block-other_line c = omega (arith, inside (goal.at.bounds-block-other_line c).After-other_line)

pub cleared_line-requires : goal.cleared_line-requires
unfolding InField WordsInField
cleared_line-requires c =
    let pre = c.requires in
    (pre.2, pre.3, λ j l. pre.4 c.args.k j pre.0 l, λ j l. pre.4 c.other_line.result j (inside (goal.at.cleared_line-requires c).After-other_line) l)

pub loop-i-preserved : goal.loop-i-preserved
loop-i-preserved c =
    let args = c.args in
    filled_more (replicate 8 0) _ c.loop-i.i c.loop-i.left c.cleared_line.result (omega arith) c.loop-i.invariant
    (cleared_as args.table.now.polynomial args.block args.k c.loop-i.i c.other_line.result (args.c - 1) c.cleared_line.result c.other_line.ensures c.cleared_line.ensures)

pub returns : goal.returns
unfolding framed
returns c =
    let last : c.loop-i.i ≡ c.args.r - 1 = omega arith in
    rw last at c.loop-i.invariant
