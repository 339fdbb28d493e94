-- `field::table::Field::fill_products` meets its contract: after i turns the table has its first i entries. Assumes nothing.
use mathlib.Core.Path.{◌≡◌}
use Prim.Native.Nat.{◌*◌, ◌^◌, ◌≤◌}
use Rattle.field.specs.Polynomial.{degree}
use Rattle.field.proofs.ProductTable.{Filled}
use Rattle.field.proofs.table.Field.fill_products.Given as goal

abbrev pub invariant-loop-i : goal.invariant-loop-i
invariant-loop-i l = (l.end ≡ 256 * 2 ^ degree l.self.polynomial) × (l.end ≤ 65536) × Filled l.self.polynomial l.i l.products
