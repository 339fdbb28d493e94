-- `text::column_byte` meets its contract: each arm is the case of `column_byte` that the test picks.
-- Assumes nothing.
use borrow.Author.Tests.{lt-ltb, le-ltb}
use Rattle.text.specs.Text.{column_byte}
use Rattle.text.proofs.column_byte.Goals as goal

pub returns-then-v-place : goal.returns-then-v-place
unfolding column_byte
returns-then-v-place c = simp (lt-ltb _ _ c.if-v-place.true)

pub returns-else-v-place : goal.returns-else-v-place
unfolding column_byte
returns-else-v-place c = simp (le-ltb _ _ c.if-v-place.false)
