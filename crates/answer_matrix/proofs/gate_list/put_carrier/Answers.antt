-- `answer_matrix::gate_list::put_carrier` meets its contract. Assumes nothing.
use native.Mathlib.Omega.{arith}
use Rattle.gates.specs.Gates.{carrier_of}
use Rattle.text.proofs.Form.{six_none, six_more}
use Rattle.text.proofs.Lengths.{length_line}
use Rattle.reply.specs.Due.{carrier_line}
use Rattle.answer_matrix.proofs.gate_list.put_carrier.Goals as goal

pub put_line-requires : goal.put_line-requires
put_line-requires c =
    let a = c.args in
    (omega (arith, c.requires.2, length_line (carrier_line (carrier_of a.next a.inputs.now))), six_more _ c.carrier_of.ensures.1 six_none)

pub returns : goal.returns
returns c =
    rw c.carrier_of.ensures.0 at c.put_line.ensures
