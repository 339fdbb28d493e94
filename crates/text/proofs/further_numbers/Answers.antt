-- `text::further_numbers` meets its contract: only kind 6 has a further number.
-- Assumes nothing.
use borrow.Author.Tests.{eq-eqb, ne_eqb}
use Rattle.text.specs.Text.{further_numbers}
use Rattle.text.proofs.further_numbers.Goals as goal

pub returns-then-kind-eq6 : goal.returns-then-kind-eq6
unfolding further_numbers
returns-then-kind-eq6 c = rw (eq-eqb _ 6 c.if-kind-eq6.true)

pub returns-else-kind-eq6 : goal.returns-else-kind-eq6
unfolding further_numbers
returns-else-kind-eq6 c = rw (ne_eqb _ 6 c.if-kind-eq6.false)
