-- `field::table::Field::double` meets its contract: the shift loses no bit, and moves the tested one to the place of the degree. Assumes nothing.
use mathlib.Core.Path.{◌≡◌, sym, ap, ap₂, ◌∙◌}
use Prim.Native.Nat.{ℕ, suc, ◌-◌, ◌*◌, ◌/◌, ◌%◌, ◌^◌, ◌≤◌, ◌<◌}
use native.Mathlib.Nat.{mod-eq_of_lt}
use native.Mathlib.Omega.{arith}
use lib.Bits.{bit_and, and_mask}
use lib.Pow.{pow_mono}
use Rattle.field.specs.Polynomial.{bit, ◌⊕◌, degree}
use Rattle.field.specs.Doubling.{xtime}
use Rattle.field.proofs.Sum.{selected}
use Rattle.field.proofs.Degrees.{polynomial}
use Rattle.field.proofs.Doubling.{bit_double, xtime_rem}
use Rattle.field.proofs.table.Field.double.Goals as goal

shifted : (x m : ℕ) → x < 2 ^ m → m ≤ 8 → x * 2 < 65536
shifted x m h u = omega (arith, pow_mono {j = 8} u)

pub overflow_sub-reached : goal.overflow_sub-reached
overflow_sub-reached c = omega (arith, c.degree.ensures, (polynomial c.args.self.polynomial c.args.self.modulus).least)

pub overflow_shr-reached : goal.overflow_shr-reached
overflow_shr-reached c = omega (arith, c.degree.ensures, (polynomial c.args.self.polynomial c.args.self.modulus).most)

pub overflow_mul-result : goal.overflow_mul-result
overflow_mul-result c = record { fits = selected _ _ 16 (omega arith) }

-- the bit that the shift moves to the place of the degree
reached : (m x d : ℕ) → 2 ≤ m → d ≡ m → bit_and (x / 2 ^ (d - 1)) 1 ≡ bit m (x * 2)
unfolding bit
reached m x d h e =
    let above : suc (d - 1) ≡ m = omega arith in
    and_mask (x / 2 ^ (d - 1)) 1 ∙ sym (bit_double (d - 1) x) ∙ ap (λ (k : ℕ). x * 2 / 2 ^ k % 2) above

pub returns : goal.returns
unfolding xtime ◌⊕◌
returns c =
    let p = c.args.self.polynomial in
    let x = c.args.x in
    let poly = polynomial p c.args.self.modulus in
    ap₂ (λ (y d : ℕ). y ⊕ d * p) (mod-eq_of_lt (shifted x (degree p) c.requires poly.most)) (reached (degree p) x c.degree.result poly.least c.degree.ensures)
    ∙ xtime_rem p x (omega (arith, c.args.self.modulus.low)) c.requires
