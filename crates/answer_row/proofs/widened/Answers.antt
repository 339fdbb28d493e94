-- `answer_row::widened` meets its contract. Assumes nothing.
use mathlib.Core.Path.{◌≡◌}
use native.Mathlib.Omega.{arith}
use lib.ListN.{length}
use Rattle.answer_row.proofs.Found.{same_entries, six_entries}
use borrow.Author.Rules.{rules}
use Rattle.answer_row.proofs.widened.Goals as goal

pub returns : goal.returns
returns c =
    let loop = c.loop-i in
    let row = c.args.row in
    let eight : length row ≡ 8 = search rules in (
      same_entries loop.entries row loop.invariant.0 eight (λ k l. (loop.invariant.1 k (omega arith)).0),
      six_entries loop.entries loop.invariant.0 (λ k l. (loop.invariant.1 k (omega arith)).1),
    )
