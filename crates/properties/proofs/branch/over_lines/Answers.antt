-- `properties::branch::over_lines` meets its contract: the choices of lines before `lines` are tried. Assumes nothing.
use mathlib.Core.Path.{◌≡◌, refl, ap, ◌∙◌}
use Prim.Native.Nat.{ℕ, ◌^◌}
use native.Mathlib.Omega.{arith}
use Rattle.lines.specs.Numbers.{numbers, elements, entry}
use Rattle.properties.specs.Steps.Pairs.{over_lines}
use Rattle.matrix.proofs.Selections.{shifted}
use Rattle.properties.proofs.Trials.{lines_more}
use Rattle.properties.proofs.branch.over_lines.Goals as goal

pub loop-lines-init : goal.loop-lines-init
unfolding over_lines
loop-lines-init c = refl

pub tried-least-requires : goal.tried-least-requires
tried-least-requires c =
    let pre = c.requires in
    (pre.0, pre.1, pre.2, rw (shifted c.args.n pre.0) at c.loop-lines-test.true)

pub loop-lines-preserved : goal.loop-lines-preserved
loop-lines-preserved c =
    let args = c.args in
    let p = args.table.now.polynomial in
    let loop = c.loop-lines in
    lines_more (numbers p) (elements p) args.n args.c (entry args.narrow) loop.lines args.best loop.least c.tried-least.result loop.invariant c.tried-least.ensures

pub returns : goal.returns
returns c =
    let args = c.args in
    let p = args.table.now.polynomial in
    let loop = c.loop-lines in
    let last : loop.lines ≡ 2 ^ args.n = omega (arith, shifted args.n c.requires.0) in
    loop.invariant ∙ ap (λ (k : ℕ). over_lines (numbers p) (elements p) args.n args.c (entry args.narrow) k args.best) last
