-- `answer_row::read_values` meets its contract. Assumes nothing.
use mathlib.Core.Path.{ap, ◌∙◌}
use native.Mathlib.Omega.{arith}
use lib.Dec.{lit<}
use lib.ListN.{length}
use Rattle.text.proofs.Lengths.{length_values_from}
use Rattle.answer_row.proofs.Found.{values_stored, values_none}
use Rattle.answer_row.proofs.read_values.Goals as goal

pub loop-i-init : goal.loop-i-init
loop-i-init c = c.new-values.ensures ∙ values_none c.args.part.now

pub push-requires : goal.push-requires
push-requires c = (lit< tt, omega (arith, ap length c.loop-i.invariant, length_values_from c.args.part.now 0 c.loop-i.i))

pub loop-i-preserved : goal.loop-i-preserved
loop-i-preserved c =
    c.push.ensures.items ∙ values_stored c.args.part.now c.loop-i.i c.loop-i.values.items c.value_at.result c.loop-i.invariant c.value_at.ensures
