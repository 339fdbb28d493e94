-- `walk::Tables::advance` meets its contract: it stands after the rows of the budget that are tried. Assumes nothing.
use mathlib.Core.Path.{◌≡◌}
use Prim.Native.Nat.{◌+◌}
use Rattle.walk.specs.Steps.Positions.{position_at}
use Rattle.walk.proofs.Tables.advance.Given as goal

abbrev pub invariant-loop : goal.invariant-loop
invariant-loop l = l.here ≡ position_at l.self.table.now.polynomial l.self.order l.self.letters.now (l.initial.here.tried + l.counter)
