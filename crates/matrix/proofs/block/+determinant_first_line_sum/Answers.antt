-- `matrix::block::determinant` and `matrix::block::first_line_sum` meet their contracts. Assumes nothing.
use mathlib.Core.Path.{◌≡◌, ap, ◌∙◌}
use Prim.Native.Nat.{◌+◌, ◌-◌, ◌<◌}
use native.Mathlib.Omega.{arith}
use Rattle.algebra.specs.Matrix.{without}
use Rattle.lines.specs.Numbers.{entry, InField}
use Rattle.lines.proofs.Filled.{entry_of}
use Rattle.matrix.proofs.Minors.{first_line, first_line_none, first_line_more, first_line_all, det_none, det_single, det_pair, minor_in_field}
use Rattle.matrix.proofs.block.+determinant_first_line_sum.Goals as goal

-- ---- determinant

pub determinant-returns-in-0 : goal.determinant-returns-in-0
determinant-returns-in-0 t c = rw c.in-0.is (det_none _ _)

pub determinant-returns-in-1 : goal.determinant-returns-in-1
unfolding InField
determinant-returns-in-1 t c =
    let one = c.in-1.is in
    rw one (det_single _ (entry c.args.block) (c.requires.1 0 0 (omega (arith, one)) (omega (arith, one))))

pub determinant-returns-in-2 : goal.determinant-returns-in-2
unfolding InField
determinant-returns-in-2 t c =
    let two = c.in-2.is in
    rw (two, c.two_by_two.ensures)
    (det_pair _ (entry c.args.block) (c.requires.1 1 0 (omega (arith, two)) (omega (arith, two))) (c.requires.1 1 1 (omega (arith, two)) (omega (arith, two))))

-- ---- first_line_sum

pub first_line_sum-loop-j-init : goal.first_line_sum-loop-j-init
first_line_sum-loop-j-init t c = first_line_none c.args.table.now.polynomial (c.args.n - 1) (entry c.args.block)

pub first_line_sum-determinant-minor-requires : goal.first_line_sum-determinant-minor-requires
first_line_sum-determinant-minor-requires t c =
    let n = c.args.n in
    let pre = c.requires in
    let same : n + n ≡ t = c.decreases in
    let less : n - 1 + (n - 1) + 1 < t = omega (arith, pre.0) in
    (less, (omega (arith, pre.1), minor_in_field c.args.table.now.polynomial n c.loop-j.j c.args.block c.without.result pre.0 pre.1 pre.2 c.without.ensures))

pub first_line_sum-loop-j-preserved : goal.first_line_sum-loop-j-preserved
first_line_sum-loop-j-preserved t c =
    let n = c.args.n in
    let block = c.args.block in
    let left = c.without in
    let j = c.loop-j.j in
    first_line_more c.args.table.now.polynomial (n - 1) (entry block) (entry left.result) j c.loop-j.r c.determinant-minor.result c.times-r.result
    c.loop-j.invariant c.determinant-minor.ensures
    (λ i k l m. entry_of (n - 1) 7 (without (entry block) j) left.result left.ensures i k l (omega (arith, c.requires.1))) c.times-r.ensures

pub first_line_sum-returns : goal.first_line_sum-returns
first_line_sum-returns t c =
    let p = c.args.table.now.polynomial in
    let n = c.args.n in
    let f = entry c.args.block in
    let all : c.loop-j.j ≡ n = omega arith in
    c.loop-j.invariant ∙ ap (first_line p (n - 1) f) all ∙ first_line_all p n f c.requires.0
