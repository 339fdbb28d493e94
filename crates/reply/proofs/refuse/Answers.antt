-- `reply::refuse` meets its contract: the line is seven bytes long. Assumes nothing.
use native.Mathlib.Omega.{arith}
use Rattle.refusal.proofs.Faults.{number_le}
use Rattle.text.proofs.Form.{six_none, six_more}
use Rattle.reply.proofs.Replies.{refused_written, refused_short}
use borrow.Author.Rules.{rules}
use Rattle.reply.proofs.refuse.Goals as goal

pub put_line-requires : goal.put_line-requires
put_line-requires c =
    (search rules, six_more _ (omega (arith, c.from.ensures, number_le c.args.reason)) six_none)

pub returns-then-space-ge7 : goal.returns-then-space-ge7
returns-then-space-ge7 c = let replied = refused_written c.args.reason (search rules) (rw c.from.ensures at c.put_line.ensures.put) in search rules

pub returns-else-space-ge7 : goal.returns-else-space-ge7
returns-else-space-ge7 c = refused_short c.args.reason _ (search rules)
