-- `field::table::Field::product_by_half` meets its contract. Assumes nothing.
use mathlib.Core.Path.{◌≡◌, sym, ap, ap₂, subst⁻¹, ◌∙◌}
use Prim.Native.Nat.{ℕ, ◌*◌, ◌/◌, ◌^◌, ◌<◌}
use native.Mathlib.Nat.{lt_of_lt_of_le}
use lib.Bits.{bit_and, bit_xor, and_mask}
use lib.Pow.{pow_mono}
use Rattle.field.specs.Polynomial.{◌⊕◌, degree, rem, product}
use Rattle.field.proofs.Degrees.{polynomial}
use Rattle.field.proofs.Sum.{selected}
use Rattle.field.proofs.Field.{times_half, times_lt}
use borrow.Author.Rules.{rules}
use Rattle.field.proofs.table.Field.product_by_half.Goals as goal
use Rattle.field.proofs.table.Field.product_by_half.Goals.{After-double-twice}

pub double-twice-requires : goal.double-twice-requires
double-twice-requires c =
    let p = c.args.self.polynomial in
    subst⁻¹ (λ (x : ℕ). x < 2 ^ degree p) c.requires.1 (times_lt p (degree p) (polynomial p c.args.self.modulus).has c.args.a (c.args.b / 2))

pub overflow_mul-result : goal.overflow_mul-result
overflow_mul-result c = record { fits = selected c.args.b c.args.a 16 (search rules) }

-- the step
step : (c : After-double-twice) → bit_xor c.double-twice.result (bit_and c.args.b 1 * c.args.a) ≡ product c.args.self.polynomial c.args.a c.args.b
unfolding ◌⊕◌
step c =
    let p = c.args.self.polynomial in
    let a = c.args.a in
    let b = c.args.b in
    ap₂ bit_xor (c.double-twice.ensures ∙ ap (λ (x : ℕ). rem p (x * 2)) c.requires.1) (ap (λ (x : ℕ). x * a) (and_mask b 1))
    ∙ sym (times_half p (degree p) (polynomial p c.args.self.modulus).has a b c.requires.0)

pub overflow_cast-result-3 : goal.overflow_cast-result-3
overflow_cast-result-3 c =
    let p = c.args.self.polynomial in
    let poly = polynomial p c.args.self.modulus in
    record { fits = subst⁻¹ (λ (x : ℕ). x < 256) (step (goal.at.overflow_cast-result-3 c).After-double-twice) (lt_of_lt_of_le (times_lt p (degree p) poly.has c.args.a c.args.b) (pow_mono {j = 8} poly.most)) }

pub returns : goal.returns
returns c = step (goal.at.returns c).After-double-twice
