-- `walk::next::first_row` meets its contract. Assumes nothing.
use mathlib.Core.Path.{ap, ◌∙◌}
use mathlib.Core.List.{[]}
use Prim.Native.Nat.{ℕ, zero-le}
use native.Mathlib.Nat.{sub-zero}
use lib.ListN.{length}
use borrow.Author.Tests.{le-ltb}
use Rattle.walk.specs.Steps.Successors.{filled_up, first_row, eight}
use Rattle.walk.proofs.Filling.{drop_zeros}
use Rattle.walk.proofs.next.first_row.Goals as goal

pub filled-requires : goal.filled-requires
filled-requires c = (zero-le, c.requires.0, c.requires.1, drop_zeros c.args.n c.requires.0)

pub returns : goal.returns
unfolding first_row
returns c = (
  c.if-letters-n.false,
  rw (le-ltb (length c.args.letters.now) c.args.n c.if-letters-n.false) (c.filled.ensures ∙ ap (λ (k : ℕ). eight c.args.n (filled_up c.args.letters.now [] k)) (sub-zero c.args.n)),
)
