-- `field::table::Field::product` meets its contract, in the steps of FIPS 197 (2001), section 4.2.1: what the values of a turn are say `doubled_power` and `sum_after_holds`.
-- Assumes nothing.
use mathlib.Core.Path.{◌≡◌, refl, sym, ap, ap₂, ◌∙◌, subst, subst⁻¹}
use Prim.Native.Nat.{ℕ, suc, ◌*◌, ◌/◌, ◌%◌, ◌^◌, ◌<◌}
use native.Mathlib.Nat.{div-one, div-lt_iff_lt-mul, lt_of_lt_of_le, pow-suc}
use native.Mathlib.Numerals.{add-one}
use native.Mathlib.Omega.{arith}
use lib.Pow.{pow_mono, pow_pos, shr-shr}
use lib.Bits.{bit_and, bit_xor, and_mask}
use Rattle.field.specs.Polynomial.{bit, ◌⊕◌, degree, product, Modulus}
use Rattle.field.specs.Doubling.{xtime, doubled, sum_after}
use Rattle.field.proofs.Sum.{sum_zero_l, selected}
use Rattle.field.proofs.Degrees.{polynomial}
use Rattle.field.proofs.Field.{times_lt}
use Rattle.field.proofs.Doubling.{xtime_rem, doubled_power, sum_after_holds, sum_whole}
use Rattle.field.proofs.table.Field.product.Invariants.{Turn}
use Rattle.field.proofs.table.Field.product.Goals as goal

-- the lowest of the bits left is bit k
selects : (b k bits v : ℕ) → bits ≡ b / 2 ^ k → bit_and bits 1 * v ≡ bit k b * v
unfolding bit
selects b k bits v e = ap (λ (d : ℕ). d * v) (and_mask bits 1 ∙ ap (λ (n : ℕ). n % 2) e)

first_turn : (p a b : ℕ) → Turn p a b 0 a b (bit_and b 1 * a)
unfolding doubled sum_after
first_turn p a b =
    let whole : b ≡ b / 2 ^ 0 = sym (div-one b) in
    record { value_is = refl; bits_are = whole; sum_is = selects b 0 b a whole ∙ sym (sum_zero_l (bit 0 b * a)) }

next_turn : {p a b k value bits sum : ℕ} → Turn p a b k value bits sum → (next : ℕ) → next ≡ xtime p value
    → Turn p a b (suc k) next (bits / 2) (bit_xor sum (bit_and (bits / 2) 1 * next))
unfolding doubled sum_after ◌⊕◌
next_turn {p} {a} {b} {k} {value} {bits} {sum} t next e =
    let doubles : next ≡ doubled p a (suc k) = e ∙ ap (xtime p) t.value_is in
    let halves : bits / 2 ≡ b / 2 ^ suc k = ap (λ (n : ℕ). n / 2) t.bits_are ∙ shr-shr b k 1 ∙ ap (λ (n : ℕ). b / 2 ^ n) (add-one k) in
    record {
      value_is = doubles;
      bits_are = halves;
      sum_is = ap₂ bit_xor t.sum_is (selects b (suc k) (bits / 2) next halves ∙ ap (λ (v : ℕ). bit (suc k) b * v) doubles);
    }

module _ {p a b k value bits sum : ℕ} (h : Modulus p) (l : a < 2 ^ degree p) (t : Turn p a b k value bits sum) where
  -- a product is an element
  value_lt : value < 2 ^ degree p
  value_lt =
      subst⁻¹ (λ (n : ℕ). n < 2 ^ degree p) (t.value_is ∙ doubled_power p a (omega arith) l k) (times_lt p (degree p) (polynomial p h).has a (2 ^ k))

  sum_lt : sum < 2 ^ degree p
  sum_lt =
      subst⁻¹ (λ (n : ℕ). n < 2 ^ degree p) (t.sum_is ∙ sum_after_holds p a b (omega arith) l (suc k))
      (times_lt p (degree p) (polynomial p h).has a (b % 2 ^ suc k))

  -- where no bit above bit k is left, the sum is the product
  last_turn : bits < 2 → sum ≡ product p a b
  last_turn few =
      let all = (div-lt_iff_lt-mul (pow_pos k)).0 (subst (λ (n : ℕ). n < 2) t.bits_are few) in
      t.sum_is ∙ sum_whole p a b (omega arith) l (suc k) (omega (arith, all, pow-suc 2 k))

pub overflow_mul-sum : goal.overflow_mul-sum
overflow_mul-sum c = record { fits = selected c.args.b c.args.a 16 (omega arith) }

pub loop-bits-init : goal.loop-bits-init
loop-bits-init c = (0, first_turn c.args.self.polynomial c.args.a c.args.b)

pub double-doubled-requires : goal.double-doubled-requires
double-doubled-requires c =
    value_lt c.args.self.modulus c.requires c.loop-bits.invariant.1

pub overflow_mul-sum-in-loop-bits : goal.overflow_mul-sum-in-loop-bits
overflow_mul-sum-in-loop-bits c = record { fits = selected (c.loop-bits.bits / 2) c.double-doubled.result 16 (omega arith) }

pub loop-bits-smaller : goal.loop-bits-smaller
loop-bits-smaller c = omega (arith, c.loop-bits-test.true)

pub loop-bits-preserved : goal.loop-bits-preserved
loop-bits-preserved c =
    let start = c in
    let at = c.loop-bits in
    let doubles = xtime_rem start.args.self.polynomial at.doubled (omega (arith, start.args.self.modulus.low)) (value_lt start.args.self.modulus start.requires at.invariant.1) in
    (suc at.invariant.0, next_turn at.invariant.1 c.double-doubled.result (c.double-doubled.ensures ∙ sym doubles))

pub overflow_cast-result : goal.overflow_cast-result
overflow_cast-result c =
    let start = c in
    let most = (polynomial start.args.self.polynomial start.args.self.modulus).most in
    record { fits = lt_of_lt_of_le (sum_lt start.args.self.modulus start.requires c.loop-bits.invariant.1) (pow_mono {j = 8} most) }

pub returns : goal.returns
returns c =
    last_turn c.args.self.modulus c.requires c.loop-bits.invariant.1 (omega (arith, c.loop-bits-test.false))
