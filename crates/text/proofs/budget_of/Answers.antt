-- `text::budget_of` meets its contract: the number behind the count, where line one has one.
-- Assumes nothing.
use mathlib.Core.Path.{◌≡◌, sym, ◌∙◌}
use Rattle.text.specs.Text.{further_numbers}
use Rattle.text.specs.Reading.{kind_of}
use Rattle.text.proofs.Form.{budget_none, budget_some}
use Rattle.text.proofs.budget_of.Goals as goal
use Rattle.text.proofs.budget_of.Goals.{After-further_numbers}

-- how many further numbers the text has
many : (c : After-further_numbers) → c.further_numbers.result ≡ further_numbers (kind_of c.args.text.now)
unfolding kind_of
many c = rw (← c.number_at.ensures) c.further_numbers.ensures

pub returns-then-further_numbers-eq0 : goal.returns-then-further_numbers-eq0
returns-then-further_numbers-eq0 c =
    let s = c.args.text.now in
    sym (budget_none s (sym (many (goal.at.returns-then-further_numbers-eq0 c).After-further_numbers) ∙ c.if-further_numbers-eq0.true))

pub returns-else-further_numbers-eq0 : goal.returns-else-further_numbers-eq0
returns-else-further_numbers-eq0 c =
    let s = c.args.text.now in
    c.number_at-else-further_numbers-eq0.ensures ∙ sym (budget_some s (λ e. c.if-further_numbers-eq0.false (many (goal.at.returns-else-further_numbers-eq0 c).After-further_numbers ∙ e)))
