-- `lines::figure::greatest` meets its contract: after i turns r is the greatest of the first i. Assumes nothing.
use mathlib.Core.Path.{◌≡◌}
use lib.ListN.{get_or}
use Rattle.lines.specs.Depths.{greatest}
use Rattle.lines.proofs.figure.greatest.Given as goal

abbrev pub invariant-loop-t : goal.invariant-loop-t
invariant-loop-t l = l.r ≡ greatest l.t-index (λ b. get_or l.t-items b 0)
