-- `field::table::Field::xor_count` meets its contract: after j turns the column is a times 2^j, and the ones of the columns before it are counted.
-- Assumes nothing.
use mathlib.Core.Path.{◌≡◌, refl, sym, ap, ap₂, ◌∙◌, subst⁻¹, subst₂}
use Prim.Native.Nat.{ℕ, ◌+◌, ◌-◌, ◌*◌, ◌^◌, ◌≤◌, ◌<◌}
use native.Mathlib.Nat.{pos_of_ne-zero, pow-suc, le_refl, lt_of_le_of_lt, lt_of_lt_of_le}
use native.Mathlib.Numerals.{add-one}
use native.Mathlib.Omega.{arith}
use lib.Pow.{pow_mono}
use lib.Dec.{lit<}
use lib.Count.{ones, ones-le}
use Rattle.field.specs.Polynomial.{degree, rem, product, ones_in_columns, xor_count}
use Rattle.field.proofs.Degrees.{polynomial}
use Rattle.field.proofs.Field.{times_one_r, times_double, times_lt}
use Rattle.field.proofs.Irreducibility.{irreducible_to}
use Rattle.field.proofs.Inverses.{columns_ones, columns_most, count_positive}
use Rattle.field.proofs.table.Field.xor_count.Goals as goal
use Rattle.field.proofs.table.Field.xor_count.Goals.{After-loop-j, In-loop-j}

pub returns-then-a-eq0 : goal.returns-then-a-eq0
unfolding xor_count
returns-then-a-eq0 c = ap (xor_count c.args.self.polynomial) (sym c.if-a-eq0.true)

pub loop-j-init : goal.loop-j-init
loop-j-init c =
    let p = c.args.self.polynomial in
    let poly = polynomial p c.args.self.modulus in (
      subst⁻¹ (λ (n : ℕ). n ≤ 8) c.degree-m.ensures poly.most,
      sym (times_one_r p (degree p) poly.has c.args.a c.requires),
      unfold ones_in_columns in refl,
    )

-- the column is an element, and so has at most 8 ones
inside : (c : In-loop-j) → c.loop-j.column < 2 ^ degree c.args.self.polynomial
inside c =
    let p = c.args.self.polynomial in
    subst⁻¹ (λ (n : ℕ). n < 2 ^ degree p) c.loop-j.invariant.1
    (times_lt p (degree p) (polynomial p c.args.self.modulus).has c.args.a (2 ^ c.loop-j.j))

few : (c : In-loop-j) → ones c.loop-j.column ≤ 8
few c =
    let p = c.args.self.polynomial in
    ones-le 8 c.loop-j.column (lt_of_lt_of_le (inside c) (pow_mono {j = 8} (polynomial p c.args.self.modulus).most))

pub overflow_cast-ones : goal.overflow_cast-ones
overflow_cast-ones c = record { fits = lt_of_le_of_lt (few (goal.at.overflow_cast-ones c).In-loop-j) (lit< tt) }

pub overflow_add-ones : goal.overflow_add-ones
overflow_add-ones c =
    let p = c.args.self.polynomial in
    let poly = polynomial p c.args.self.modulus in
    let most = columns_most p (degree p) c.args.a c.loop-j.j poly.has poly.most in
    let below : c.loop-j.j ≤ 8 = omega arith in
    let same = c.loop-j.invariant.2 in
    record { fits = omega (arith, few (goal.at.overflow_add-ones c).In-loop-j) }

pub double-column-requires : goal.double-column-requires
double-column-requires c = inside (goal.at.double-column-requires c).In-loop-j

pub loop-j-preserved : goal.loop-j-preserved
loop-j-preserved c =
    let p = c.args.self.polynomial in
    let a = c.args.a in
    let poly = polynomial p c.args.self.modulus in
    let j = c.loop-j.j in
    let inv = c.loop-j.invariant in (
      inv.0,
      c.double-column.ensures
          ∙ ap (λ (n : ℕ). rem p (n * 2)) inv.1
          ∙ sym (times_double p (degree p) poly.has a (2 ^ j))
          ∙ ap (product p a) (sym (ap (λ (n : ℕ). 2 ^ n) (add-one j) ∙ pow-suc 2 j)),
      unfold ones_in_columns in
          (ap₂ (λ (x y : ℕ). x + ones y) inv.2 inv.1 ∙ ap (ones_in_columns p a) (sym (add-one j))),
    )

-- all columns are counted
all : (c : After-loop-j)
    → c.loop-j.ones ≡ ones_in_columns c.args.self.polynomial c.args.a (degree c.args.self.polynomial)
all c =
    let last : c.loop-j.j ≡ c.degree-m.result = omega arith in
    c.loop-j.invariant.2
    ∙ ap (ones_in_columns c.args.self.polynomial c.args.a) (last ∙ c.degree-m.ensures)

pub overflow_sub-result : goal.overflow_sub-result
overflow_sub-result c =
    let p = c.args.self.polynomial in
    let a = c.args.a in
    let poly = polynomial p c.args.self.modulus in
    subst₂ (λ (m n : ℕ). m ≤ n) (sym c.degree-m.ensures) (sym (all (goal.at.overflow_sub-result c).After-loop-j))
    (columns_ones p (degree p) poly.has (irreducible_to p c.args.self.modulus.irreducible) (omega (arith, poly.least)) a (degree p)
    (pos_of_ne-zero c.if-a-eq0.false) c.requires (le_refl (degree p)))

pub returns : goal.returns
returns c =
    ap₂ (λ (x y : ℕ). x - y) (all (goal.at.returns c).After-loop-j) c.degree-m.ensures
    ∙ sym (count_positive c.args.self.polynomial c.args.a (pos_of_ne-zero c.if-a-eq0.false))
