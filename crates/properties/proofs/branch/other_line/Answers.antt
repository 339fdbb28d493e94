-- `properties::branch::other_line` meets its contract. Assumes nothing.
use mathlib.Core.Path.{sym, ◌∙◌}
use native.Mathlib.Numerals.{add-one}
use Rattle.matrix.proofs.Minors.{skip_before, skip_behind}
use Rattle.properties.proofs.branch.other_line.Goals as goal

pub returns-then-i-k : goal.returns-then-i-k
returns-then-i-k c = sym (skip_before c.args.k c.args.i c.if-i-k.true)

pub returns-else-i-k : goal.returns-else-i-k
returns-else-i-k c = add-one c.args.i ∙ sym (skip_behind c.args.k c.args.i c.if-i-k.false)
