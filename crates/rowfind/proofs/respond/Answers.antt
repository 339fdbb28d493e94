-- `rowfind::respond` meets its contract: with 52,877 bytes every answer fits, and 4,097 bytes of the input tell what is due to all of it.
-- Assumes nothing.
use mathlib.Core.Path.{refl, sym}
use native.Mathlib.Omega.{arith}
use lib.Dec.{lit≤}
use lib.Seq.{length-take-le}
use Rattle.refusal.proofs.Faults.{number_not_zero}
use Rattle.answer.proofs.Shown.{shown_answer, shown_refusal}
use Rattle.answer.proofs.WholeInput.{first_bytes}
use Rattle.rowfind.proofs.respond.Goals as goal

pub slice_bounds-answer-end : goal.slice_bounds-answer-end
slice_bounds-answer-end c =
    sym (length-take-le c.args.read c.args.buffer.now (omega arith))

pub returns-in-Ok : goal.returns-in-Ok
returns-in-Ok c = λ input e. first_bytes 4097 (lit≤ tt) input (rw e (shown_answer c.in-Ok.ensures c.requires.2 refl))

pub returns-in-Err : goal.returns-in-Err
returns-in-Err c = λ input e. first_bytes 4097 (lit≤ tt) input (rw e (shown_refusal c.in-Err.ensures c.requires.2 (number_not_zero c.in-Err.field-0)))
