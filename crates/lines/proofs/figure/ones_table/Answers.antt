-- `lines::figure::ones_table` meets its contract: after i turns the first i entries are stored. Assumes nothing.
use mathlib.Core.Path.{◌≡◌, refl}
use Prim.Native.Nat.{◌*◌, ◌^◌, ◌≤◌}
use native.Mathlib.Omega.{arith}
use Rattle.algebra.specs.Matrix.{tabulate}
use Rattle.field.specs.Polynomial.{degree}
use Rattle.field.proofs.Calls.{elements_most}
use Rattle.lines.specs.Steps.Figures.{ones_table}
use Rattle.lines.proofs.Filled.{filled_to_more}
use Rattle.lines.proofs.figure.ones_table.Goals as goal
use Rattle.lines.proofs.figure.ones_table.Goals.{After-size-i-end}

-- at most 256 elements
few : (c : After-size-i-end) → c.size-i-end.result ≤ 256
few c = rw c.size-i-end.ensures (elements_most c.args.field.polynomial c.args.field.modulus)

pub overflow_mul-i-end : goal.overflow_mul-i-end
overflow_mul-i-end c = record { fits = omega (arith, few (goal.at.overflow_mul-i-end c).After-size-i-end) }

pub loop-i-init : goal.loop-i-init
unfolding tabulate
loop-i-init c = refl

pub overflow_cast-i : goal.overflow_cast-i
overflow_cast-i c = record { fits = omega (arith, few (goal.at.overflow_cast-i c).After-size-i-end) }

pub bounds-r-i : goal.bounds-r-i
bounds-r-i c = omega (arith, few (goal.at.bounds-r-i c).After-size-i-end)

pub loop-i-preserved : goal.loop-i-preserved
loop-i-preserved c =
    let at = c.loop-i in
    let most = few (goal.at.loop-i-preserved c).After-size-i-end in
    filled_to_more 2048 0 _ at.i at.r _ (omega (arith, most)) at.invariant c.ones_in_line.ensures

pub returns : goal.returns
unfolding ones_table
returns c =
    let all : c.loop-i.i ≡ 8 * 2 ^ degree c.args.field.polynomial = omega (arith, c.size-i-end.ensures) in
    rw all at c.loop-i.invariant
