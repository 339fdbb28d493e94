-- `reply::put_answer` meets its contract. The loop's invariant: what is left to write is the lines from the next one on. Assumes nothing.
use lib.ListN.{drop}
use Rattle.text.proofs.Places.{Left}
use Rattle.reply.proofs.Replies.{lines_text}
use Rattle.reply.proofs.put_answer.Given as goal

abbrev pub invariant-loop-line : goal.invariant-loop-line
invariant-loop-line l = Left l.initial.writer (lines_text l.lines) l.writer (lines_text (drop l.line-index l.lines))
