-- `gates::carrier_of` meets its contract: the three cases of the definition. Assumes nothing.
use Rattle.std.proofs.Common.{arith, lit≤, ◌∙◌, ap, ◌+◌, ℕ, length-take, length-drop}
use Rattle.gates.proofs.InputLists.{carrier_none, carrier_one, carrier_more}
use Rattle.gates.proofs.carrier_of.Goals as goal

pub returns-in-empty : goal.returns-in-empty
returns-in-empty c = (carrier_none _ _ (omega arith), lit≤ tt)

pub returns-in-len1 : goal.returns-in-len1
returns-in-len1 c = (c.from.ensures ∙ carrier_one _ _ (omega arith), omega (arith, (c.type_inv.inputs 0).fits))

pub returns-in-len2-up : goal.returns-in-len2-up
returns-in-len2-up c =
    simp (length-take, length-drop)
    (ap (λ (k : ℕ). c.args.next + k) (omega arith) ∙ carrier_more _ _ (λ e. omega arith) (λ e. omega arith), omega arith)
