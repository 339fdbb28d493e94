-- `answer_matrix::of_matrix` meets its contract: what is due to a matrix that is read, or the refusal. Assumes nothing.
use Rattle.reply.proofs.Replies.{replied_as}
use Rattle.answer_matrix.specs.declared.Asked.TheVariants.{Check, Gates}
use Rattle.answer_matrix.proofs.Requests.{matrix_refused, matrix_due}
use Rattle.answer_matrix.proofs.of_matrix.Goals as goal

pub returns-in-Err : goal.returns-in-Err
returns-in-Err c = replied_as (matrix_refused c.args.asked _ _ _ _ c.in-Err.ensures) c.refuse.ensures

pub returns-in-Check : goal.returns-in-Check
returns-in-Check c =
    let h = c.in-Ok.ensures in
    rw c.in-Check.is (replied_as (matrix_due Check _ _ _ c.in-Ok.matrix h.0 h.1 h.2 h.3) c.put_check.ensures)

pub returns-in-Gates : goal.returns-in-Gates
returns-in-Gates c =
    let h = c.in-Ok.ensures in
    rw c.in-Gates.is (replied_as (matrix_due Gates _ _ _ c.in-Ok.matrix h.0 h.1 h.2 h.3) c.put_gate_list.ensures)
