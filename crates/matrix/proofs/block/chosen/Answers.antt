-- `matrix::block::chosen` meets its contract: the chosen elements before place i are stored. Assumes nothing.
use Rattle.std.proofs.Common.{◌<◌, ◌/◌, ◌^◌, length, arith}
use Rattle.std.proofs.lemmas.List.{get_or_default}
use Rattle.matrix.proofs.Selections.{low_digit, walk_begins, walk_goes_on, walk_cleared, walk_full}
use Rattle.matrix.proofs.block.chosen.Goals as goal

pub loop-i-init : goal.loop-i-init
loop-i-init g c = (omega arith, λ d. walk_begins c.args.from d c.args.empty c.args.choice)

pub loop-i-preserved : goal.loop-i-preserved
loop-i-preserved g c =
    let loop = c.loop-i in
    let inside : loop.i < length c.args.from = omega arith in (
      omega (arith, low_digit (c.args.choice / 2 ^ loop.i)),
      λ d.
          rw (get_or_default c.args.from loop.i c.index-from-i.result d inside, c.from-k.ensures)
          (walk_goes_on c.args.from d c.args.empty c.args.choice loop.r loop.i loop.k loop.invariant.0 (loop.invariant.1 d) c.loop-i-test.true),
    )

pub returns-then-k-lt8 : goal.returns-then-k-lt8
returns-then-k-lt8 g c d =
    let loop = c.loop-i in
    walk_cleared c.args.from d c.args.empty c.args.choice loop.r loop.i loop.k loop.invariant.0 (loop.invariant.1 d) (omega arith) c.if-k-lt8.true

pub returns-else-k-lt8 : goal.returns-else-k-lt8
returns-else-k-lt8 g c d =
    let loop = c.loop-i in
    walk_full c.args.from d c.args.empty c.args.choice loop.r loop.i loop.k loop.invariant.0 (loop.invariant.1 d) (omega arith) c.if-k-lt8.false
