-- `search::front::is_wrong_count` meets its contract. Assumes nothing.
use Rattle.std.proofs.Common.{rules}
use borrow.Author.Tests.{tests}
use Rattle.search.specs.Answer.{is_wrong_search_count, is_wrong_circulant_count}
use Rattle.search.proofs.front.is_wrong_count.Goals as goal

pub returns-then-count-gt255 : goal.returns-then-count-gt255
unfolding is_wrong_search_count
returns-then-count-gt255 c = rw c.in-Hadamard.is (search (rules, tests))

pub returns-then-n-eq8 : goal.returns-then-n-eq8
unfolding is_wrong_search_count
returns-then-n-eq8 c = rw c.in-Hadamard.is (search (rules, tests))

pub returns-else-n-eq8 : goal.returns-else-n-eq8
unfolding is_wrong_search_count
returns-else-n-eq8 c = rw c.in-Hadamard.is (search (rules, tests))

pub returns-in-Circulant : goal.returns-in-Circulant
unfolding is_wrong_circulant_count
returns-in-Circulant c = rw c.in-Circulant.is (search (rules, tests))
