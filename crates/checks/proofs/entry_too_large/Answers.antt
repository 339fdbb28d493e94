-- `checks::entry_too_large` meets its contract: line by line. Assumes nothing.
use mathlib.Core.Path.{◌≡◌}
use mathlib.Core.List.{[]}
use lib.ListN.{get_or}
use Rattle.std.proofs.Common.{rules}
use Rattle.field.specs.Polynomial.{some_below}
use Rattle.checks.specs.Answers.{some_word_too_large, some_entry_too_large}
use Rattle.checks.proofs.CallFaults.{some_first}
use Rattle.checks.proofs.entry_too_large.Goals as goal
use Rattle.checks.proofs.entry_too_large.Goals.{After-any}

lines : (c : After-any) → let a = c.args in c.any.result ≡ some_below a.n (λ i. some_word_too_large a.field.polynomial a.n (get_or a.m i []))
lines c = some_first c.args.n c.args.m [] (some_word_too_large c.args.field.polynomial c.args.n) _ (search rules) (search rules) (search rules)

pub returns : goal.returns
unfolding some_entry_too_large some_word_too_large
returns c = lines (goal.at.returns c).After-any
