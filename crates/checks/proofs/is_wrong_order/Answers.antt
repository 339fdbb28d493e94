-- `checks::is_wrong_order` meets its contract. Assumes nothing.
use Rattle.std.proofs.Common.{rules}
use borrow.Author.Tests.{tests}
use Rattle.checks.specs.Answers.{is_wrong_order}
use Rattle.checks.proofs.is_wrong_order.Goals as goal

pub returns : goal.returns
unfolding is_wrong_order
returns c = search (rules, tests)
