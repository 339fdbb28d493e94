-- `walk::next::rank_table` meets its contract: after a turns the first a entries are stored. Assumes nothing.
use mathlib.Core.Path.{◌≡◌}
use Prim.Native.Nat.{suc}
use Rattle.lines.specs.Steps.Blocks.{filled_to}
use Rattle.walk.specs.Steps.Successors.{count_below}
use Rattle.walk.proofs.next.rank_table.Given as goal

abbrev pub invariant-loop-a : goal.invariant-loop-a
invariant-loop-a l = (l.i ≡ count_below l.letters l.a) × (l.r ≡ filled_to 256 0 (λ a. count_below l.letters (suc a)) l.a)
