-- `field::table::Field::xor_count` meets its contract: after j turns the column is a times 2^j, and the ones of the columns before it are counted.
-- Assumes nothing.
use mathlib.Core.Path.{◌≡◌}
use Prim.Native.Nat.{◌^◌, ◌≤◌}
use Rattle.field.specs.Polynomial.{product, ones_in_columns}
use Rattle.field.proofs.table.Field.xor_count.Given as goal

abbrev pub invariant-loop-j : goal.invariant-loop-j
invariant-loop-j l = (l.m ≤ 8) × (l.column ≡ product l.self.polynomial l.a (2 ^ l.j)) × (l.ones ≡ ones_in_columns l.self.polynomial l.a l.j)
