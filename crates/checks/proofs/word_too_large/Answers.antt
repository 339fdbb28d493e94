-- `checks::word_too_large` meets its contract. Assumes nothing.
use Rattle.std.proofs.Common.{rules}
use Rattle.field.specs.Faults.{is_too_large}
use Rattle.checks.specs.Answers.{some_word_too_large}
use Rattle.checks.proofs.CallFaults.{some_first}
use Rattle.checks.proofs.word_too_large.Goals as goal

pub returns : goal.returns
unfolding some_word_too_large
returns c = some_first c.args.n c.args.row 0 (is_too_large c.args.field.polynomial) _ (search rules) (search rules) (search rules)
