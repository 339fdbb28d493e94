-- `text::put_values` meets its contract. The loop's invariant: what is left to write is the values from i on.
-- Assumes nothing.
use Prim.Native.Nat.{◌+◌, ◌-◌}
use mathlib.Core.List.{◌++◌}
use native.Mathlib.Omega.{arith}
use Rattle.text.specs.Text.{column, line_end}
use Rattle.text.specs.Reading.{value_at}
use Rattle.text.proofs.Numbers.{value_six}
use Rattle.text.proofs.Places.{left_start, left_step, left_end, left_room}
use Rattle.text.proofs.Loops.{values_left, values_start, values_next, values_room, values_none}
use Rattle.text.proofs.put_values.Goals as goal

pub loop-i-init : goal.loop-i-init
loop-i-init c = rw values_start (left_start _ _)

pub put_value-requires : goal.put_value-requires
put_value-requires c =
    let s = c.args.values.now in
    rw c.value_at.ensures
    (omega (arith, left_room c.requires c.loop-i.invariant, values_room s c.args.count c.loop-i.i c.loop-i-test.true), value_six s c.loop-i.i)

pub loop-i-preserved : goal.loop-i-preserved
loop-i-preserved c =
    let s = c.args.values.now in
    let n = c.args.count in
    let i = c.loop-i.i in
    left_step (column (value_at s i) ++ line_end i (n - i - 1)) (values_left s n (i + 1)) (rw (values_next s n i c.loop-i-test.true) at c.loop-i.invariant)
    (rw c.value_at.ensures at c.put_value.ensures)

pub returns : goal.returns
returns c = left_end (rw (values_none c.args.values.now c.args.count c.loop-i.i c.loop-i-test.false) at c.loop-i.invariant)
