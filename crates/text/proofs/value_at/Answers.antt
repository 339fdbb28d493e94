-- `text::value_at` meets its contract: a value that begins behind the end is read as 0.
-- Assumes nothing.
use mathlib.Core.Path.{sym}
use Prim.Native.Nat.{◌+◌, ◌*◌, ◌/◌}
use native.Mathlib.Omega.{arith}
use Rattle.text.specs.Reading.{value_at}
use Rattle.text.proofs.Numbers.{number_past}
use Rattle.text.proofs.value_at.Goals as goal

pub returns-then-values-i : goal.returns-then-values-i
unfolding value_at
returns-then-values-i c =
    let s = c.args.values.now in
    let i = c.args.i in
    sym (number_past s (6 * i + i / 16) (omega arith))

pub returns : goal.returns
unfolding value_at
returns c = c.number_at.ensures
