-- `matrix::block::next_columns` meets its contract: no mask between the given one and r is a choice. Assumes nothing.
use mathlib.Core.Path.{sym, ◌∙◌}
use native.Mathlib.Nat.{not-le_of_lt}
use native.Mathlib.Omega.{arith}
use Rattle.matrix.specs.Steps.Choice.{line_of}
use Rattle.matrix.proofs.Masks.{Skipped, choice_skips, skipped_any, skipped_more, skipped_next}
use Rattle.matrix.proofs.block.next_columns.Goals as goal
use Rattle.matrix.proofs.block.next_columns.Goals.{After-next_choice-r-in-loop-r}

pub loop-r-init : goal.loop-r-init
loop-r-init c =
    let a = c.args in
    let pre = c.requires in
    skipped_any (line_of a.look) a.mask c.next_choice-r.result (choice_skips a.mask c.next_choice-r.result pre.0 pre.1 c.next_choice-r.ensures)

-- the next mask of as many ones
next : (c : After-next_choice-r-in-loop-r) → Skipped 0 c.loop-r.r c.next_choice-r-in-loop-r.result
next c =
    let loop = c.loop-r in
    choice_skips loop.r c.next_choice-r-in-loop-r.result (omega (arith, loop.invariant.later)) c.loop-r-test.true c.next_choice-r-in-loop-r.ensures

pub loop-r-smaller : goal.loop-r-smaller
loop-r-smaller c = omega (arith, c.loop-r-test.true, (next (goal.at.loop-r-smaller c).After-next_choice-r-in-loop-r).later)

pub loop-r-preserved : goal.loop-r-preserved
loop-r-preserved c =
    let a = c.args in
    let loop = c.loop-r in
    skipped_more (line_of a.look) a.mask loop.r c.next_choice-r-in-loop-r.result loop.invariant c.loop-r-test.true
    (sym c.is_looked_at.ensures ∙ c.if-not-is_looked_at.true) (next (goal.at.loop-r-preserved c).After-next_choice-r-in-loop-r)

pub returns-else-not-is_looked_at : goal.returns-else-not-is_looked_at
returns-else-not-is_looked_at c =
    let a = c.args in
    let loop = c.loop-r in
    skipped_next (line_of a.look) a.mask loop.r loop.invariant (λ l. sym c.is_looked_at.ensures ∙ c.if-not-is_looked_at.false)

pub returns-after-loop-r : goal.returns-after-loop-r
returns-after-loop-r c =
    let a = c.args in
    let loop = c.loop-r in
    skipped_next (line_of a.look) a.mask loop.r loop.invariant (λ l. absurd (not-le_of_lt l c.loop-r-test.false))
