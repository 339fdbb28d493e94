-- `search::front::is_wrong_order` meets its contract. Assumes nothing.
use Rattle.std.proofs.Common.{rules}
use borrow.Author.Tests.{tests}
use Rattle.search.specs.Answer.{is_wrong_search_order, is_wrong_circulant_order}
use Rattle.search.proofs.front.is_wrong_order.Goals as goal

pub returns-after-matches : goal.returns-after-matches
unfolding is_wrong_search_order
returns-after-matches c = rw c.in-Hadamard.is (search (rules, tests))

pub returns-in-Circulant : goal.returns-in-Circulant
unfolding is_wrong_circulant_order
returns-in-Circulant c = rw c.in-Circulant.is (search (rules, tests))
