-- `field::degree` meets its contract: the leading zeros of the 16 bits stand above the highest set one. Assumes nothing.
use native.Mathlib.Omega.{arith}
use Rattle.field.proofs.Degrees.{degree_leading}
use Rattle.field.proofs.degree.Goals as goal

pub overflow_cast-result : goal.overflow_cast-result
overflow_cast-result c = record { fits = omega (arith, degree_leading 15 c.args.p (omega arith)) }

pub overflow_sub-result : goal.overflow_sub-result
overflow_sub-result c = omega (arith, degree_leading 15 c.args.p (omega arith))

pub returns : goal.returns
returns c = omega (arith, degree_leading 15 c.args.p (omega arith))
