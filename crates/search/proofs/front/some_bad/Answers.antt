-- `search::front::some_bad` meets its contract. Assumes nothing.
use mathlib.Core.Path.{sym, ◌∙◌}
use Rattle.search.proofs.Refusals.{bad_zero, bad_repeated, contains_member}
use Rattle.search.proofs.front.some_bad.Goals as goal

pub returns-then-contains : goal.returns-then-contains
returns-then-contains c = c.if-contains.true ∙ bad_zero c.args.values.now (sym (contains_member 0 c.args.values.now) ∙ sym c.contains.ensures.value ∙ c.if-contains.true)

pub returns-else-contains : goal.returns-else-contains
returns-else-contains c =
    bad_repeated c.args.values.now c.some_repeated.result
    (sym (contains_member 0 c.args.values.now) ∙ sym c.contains.ensures.value ∙ c.if-contains.false) c.some_repeated.ensures
