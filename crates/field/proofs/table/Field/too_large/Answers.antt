-- `field::table::Field::too_large` meets its contract: 1 shifted by the degree is 2^m. Assumes nothing.
use mathlib.Core.Path.{ap, ◌∙◌}
use Prim.Native.Nat.{ℕ, ◌*◌, ◌%◌, ◌^◌}
use native.Mathlib.Nat.{one-mul, mod-eq_of_lt, lt_of_le_of_lt}
use native.Mathlib.Omega.{arith}
use lib.Dec.{leb, lit<}
use lib.Pow.{pow_mono}
use Rattle.field.specs.Polynomial.{degree}
use Rattle.field.specs.Faults.{is_too_large}
use Rattle.field.proofs.Degrees.{polynomial}
use Rattle.field.proofs.table.Field.too_large.Goals as goal

pub overflow_shl-result : goal.overflow_shl-result
overflow_shl-result c = omega (arith, c.degree.ensures, (polynomial c.args.self.polynomial c.args.self.modulus).most)

pub returns : goal.returns
unfolding is_too_large
returns c =
    let p = c.args.self.polynomial in
    let poly = polynomial p c.args.self.modulus in
    ap (λ (n : ℕ). leb n c.args.a)
    (ap (λ (n : ℕ). 1 * 2 ^ n % 4294967296) c.degree.ensures
    ∙ ap (λ (n : ℕ). n % 4294967296) (one-mul (2 ^ degree p))
    ∙ mod-eq_of_lt (lt_of_le_of_lt (pow_mono {j = 8} poly.most) (lit< tt)))
