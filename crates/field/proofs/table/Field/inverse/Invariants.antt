-- `field::table::Field::inverse` meets its contract: no element before b is an inverse, and there is one. Assumes nothing.
use mathlib.Core.Path.{◌≡◌}
use Prim.Native.Nat.{ℕ, ◌^◌, ◌<◌}
use Rattle.field.specs.Polynomial.{degree, product}
use Rattle.field.proofs.table.Field.inverse.Given as goal

abbrev pub invariant-loop-b : goal.invariant-loop-b
invariant-loop-b l = (l.b < 2 ^ degree l.self.polynomial) × ((k : ℕ) → k < l.b → product l.self.polynomial l.a k ≡ 1 → ⊥)
