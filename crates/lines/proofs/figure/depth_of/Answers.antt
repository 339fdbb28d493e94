-- `lines::figure::depth_of` meets its contract: no power before that of d was t or more. Assumes nothing.
use Rattle.std.proofs.Common.{rules, arith, below_more}
use Rattle.std.proofs.Math.Nat.{pow-le-pow_right}
use Prim.Native.Nat.{◌^◌, ◌≤◌, ◌<◌}
use Rattle.field.proofs.Degrees.{pow_cancel}
use Rattle.lines.proofs.Depths.{depth_is}
use Rattle.lines.proofs.figure.depth_of.Goals as goal
use Rattle.lines.proofs.figure.depth_of.Goals.{In-loop-d}

-- the power of d fits, so it is what was compared
fits : (c : In-loop-d) → 2 ^ c.loop-d.d ≤ 2 ^ 16
fits c = pow-le-pow_right (omega arith) c.loop-d.invariant.0

-- t fits 16 bits
below : (c : In-loop-d) → c.loop-d.d < 16
below c =
    let word : c.args.t < 65536 = search rules in
    pow_cancel c.loop-d.d 16 (omega (arith, fits c, c.loop-d-test.true, c.from.ensures, word))

pub overflow_add-d : goal.overflow_add-d
overflow_add-d c = record { fits = omega (arith, below (goal.at.overflow_add-d c).In-loop-d) }

pub loop-d-smaller : goal.loop-d-smaller
loop-d-smaller c = omega (arith, below (goal.at.loop-d-smaller c).In-loop-d)

pub loop-d-preserved : goal.loop-d-preserved
loop-d-preserved c =
    let step = (goal.at.loop-d-preserved c).In-loop-d in (
      omega (arith, below step),
      below_more _ _ c.loop-d.invariant.1 (omega (arith, fits step, c.loop-d-test.true, c.from.ensures)),
    )

pub returns : goal.returns
returns c = depth_is c.args.t c.loop-d.d (omega (arith, c.loop-d-test.false, c.from.ensures)) c.loop-d.invariant.1
