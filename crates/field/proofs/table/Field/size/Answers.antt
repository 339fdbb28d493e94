-- `field::table::Field::size` meets its contract: 1 shifted by the degree is 2^m. Assumes nothing.
use mathlib.Core.Path.{◌∙◌}
use Prim.Native.Nat.{◌^◌}
use native.Mathlib.Nat.{one-mul}
use native.Mathlib.Omega.{arith}
use lib.Dec.{lit≤}
use Rattle.field.specs.Polynomial.{degree}
use Rattle.field.proofs.Degrees.{polynomial}
use Rattle.field.proofs.Calls.{shifted_width}
use Rattle.field.proofs.table.Field.size.Goals as goal

pub overflow_shl-result : goal.overflow_shl-result
overflow_shl-result c = omega (arith, c.degree.ensures, (polynomial c.args.self.polynomial c.args.self.modulus).most)

pub returns : goal.returns
returns c =
    let p = c.args.self.polynomial in
    shifted_width 1 p _ c.args.self.modulus (lit≤ tt) c.degree.ensures ∙ one-mul (2 ^ degree p)
