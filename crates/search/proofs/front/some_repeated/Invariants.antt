-- `search::front::some_repeated` meets its contract: no value before place i stands behind its own place. Assumes nothing.
use mathlib.Core.Path.{◌≡◌}
use lib.ListN.{drop}
use Rattle.rows.specs.Candidates.{some_repeated}
use Rattle.search.proofs.front.some_repeated.Given as goal

abbrev pub invariant-loop-i : goal.invariant-loop-i
invariant-loop-i l = some_repeated l.values ≡ some_repeated (drop l.i l.values)
