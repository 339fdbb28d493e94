-- `reply::put_answer` meets its contract: the length is known before the first byte is written. Assumes nothing.
use mathlib.Core.Path.{◌≡◌, ap}
use Prim.Native.Nat.{◌+◌, ◌≤◌}
use native.Mathlib.Omega.{arith}
use lib.ListN.{length, length-append, drop}
use mathlib.Core.List.{map}
use Rattle.text.specs.Text.{line_text}
use Rattle.text.proofs.Lengths.{length_line}
use Rattle.text.proofs.Places.{left_step, left_end, left_room}
use Rattle.reply.proofs.Replies.{lines_written, lines_short, lines_text, line_at, lines_next, lines_none, lines_size}
use borrow.Author.Rules.{rules}
use Rattle.reply.proofs.put_answer.Goals as goal
use Rattle.reply.proofs.put_answer.Goals.{After-sum-size, In-loop-line}

-- the size is that of the text
size : (c : After-sum-size) → c.sum-size.result ≡ length (lines_text c.args.lines.now)
size c = let e = lines_size c.args.lines.now in search rules

pub returns-then-space-size : goal.returns-then-space-size
returns-then-space-size c = lines_short _ _ (omega (arith, size (goal.at.returns-then-space-size c).After-sum-size))

-- what is left fits, and the next line stands before it
room : (c : In-loop-line) → c.loop-line.writer.at + length (lines_text (drop c.loop-line.line-index c.args.lines.now)) ≤ length c.loop-line.writer.space.now
room c = left_room (omega (arith, size (goal.at.In-loop-line c).After-sum-size)) c.loop-line.invariant

pub put_line-requires : goal.put_line-requires
put_line-requires c =
    let lines = c.args.lines.now in
    let i = c.loop-line.line-index in
    let line = line_at lines i in (
      omega (
        arith,
        room (goal.at.put_line-requires c).In-loop-line,
        ap length (lines_next lines i c.loop-line-test.true),
        length-append (line_text line) (lines_text (drop (i + 1) lines)),
        length_line line,
      ),
      c.requires.1 i _ c.loop-line-test.true,
    )

pub loop-line-preserved : goal.loop-line-preserved
loop-line-preserved c =
    let lines = c.args.lines.now in
    let i = c.loop-line.line-index in
    left_step _ (lines_text (drop (i + 1) lines)) (rw (lines_next lines i c.loop-line-test.true) at c.loop-line.invariant) c.put_line.ensures

pub returns : goal.returns
returns c =
    let lines = c.args.lines.now in
    let wrote = left_end (rw (lines_none lines c.loop-line.line-index c.loop-line-test.false) at c.loop-line.invariant) in
    let replied = lines_written (map (λ line. line.now) lines) (omega (arith, size (goal.at.returns c).After-sum-size)) wrote.put in
    search rules
