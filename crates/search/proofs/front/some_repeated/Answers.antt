-- `search::front::some_repeated` meets its contract. Assumes nothing.
use mathlib.Core.Path.{sym, ◌∙◌}
use Rattle.rows.specs.Candidates.{some_repeated}
use Rattle.search.proofs.Refusals.{test_none, test_found, test_next, repeated_here, repeated_none, contains_rest}
use Rattle.search.proofs.front.some_repeated.Goals as goal

pub returns-then-contains : goal.returns-then-contains
returns-then-contains c =
    let args = c.args in
    let at = c.loop-i in
    test_found some_repeated repeated_none args.values.now at.i at.invariant _ (repeated_here args.values.now at.i c.loop-i-test.true)
    (sym (contains_rest args.values.now at.i c.contains.ensures.value) ∙ c.if-contains.true)

pub loop-i-preserved : goal.loop-i-preserved
loop-i-preserved c =
    let args = c.args in
    let at = c.loop-i in
    test_next some_repeated repeated_none args.values.now at.i at.invariant _ (repeated_here args.values.now at.i c.loop-i-test.true)
    (sym (contains_rest args.values.now at.i c.contains.ensures.value) ∙ c.if-contains.false)

pub returns : goal.returns
returns c = test_none some_repeated repeated_none c.args.values.now c.loop-i.i c.loop-i.invariant c.loop-i-test.false
