-- `lines::figure::ones_in_line` meets its contract: after k turns the column is a times 2^k, and the ones of the columns before it are
-- counted. Assumes nothing.
use mathlib.Core.Path.{◌≡◌, refl, sym, ap, ap₂, ◌∙◌}
use Prim.Native.Nat.{ℕ, ◌+◌, ◌*◌, ◌/◌, ◌%◌, ◌^◌, ◌≤◌}
use native.Mathlib.Nat.{pow-suc}
use native.Mathlib.Numerals.{add-one}
use native.Mathlib.Omega.{arith}
use lib.Bits.{bit_and, and_mask}
use Rattle.field.specs.Polynomial.{degree, product, rem}
use Rattle.field.specs.declared.table.Field.{Field}
use Rattle.field.proofs.Degrees.{HasDegree, polynomial}
use Rattle.field.proofs.Field.{times_one_r, times_double, times_lt}
use Rattle.lines.specs.Counts.{total}
use Rattle.lines.specs.Depths.{bit, ones_in_line}
use Rattle.lines.proofs.Tallies.{total_step, total_le}
use Rattle.lines.proofs.Depths.{bit_le}
use Rattle.lines.proofs.figure.ones_in_line.Goals as goal
use Rattle.lines.proofs.figure.ones_in_line.Goals.{In-loop}

-- the next column is twice the one before it
next_column : (p m : ℕ) → HasDegree p m → (a k : ℕ) → product p (product p a (2 ^ k)) 2 ≡ product p a (2 ^ (k + 1))
next_column p m d a k =
    times_double p m d (product p a (2 ^ k)) 1
    ∙ ap (λ (x : ℕ). rem p (x * 2)) (times_one_r p m d (product p a (2 ^ k)) (times_lt p m d a (2 ^ k)))
    ∙ sym (times_double p m d a (2 ^ k))
    ∙ ap (product p a) (sym (ap (λ (n : ℕ). 2 ^ n) (add-one k) ∙ pow-suc 2 k))

-- the field's polynomial has its degree
has : (f : Field) → HasDegree f.polynomial (degree f.polynomial)
has f = (polynomial f.polynomial f.modulus).has

pub loop-init : goal.loop-init
unfolding total
loop-init c =
    let f = c.args.field in
    (sym (times_one_r f.polynomial (degree f.polynomial) (has f) c.args.a c.requires.0), refl)

-- the bit that is counted
bit_is : (c : In-loop)
    → bit_and (c.loop.column / 2 ^ c.args.b) 1 ≡ bit c.args.b (product c.args.field.polynomial c.args.a (2 ^ c.loop.counter))
unfolding bit
bit_is c =
    and_mask (c.loop.column / 2 ^ c.args.b) 1 ∙ ap (λ (x : ℕ). x / 2 ^ c.args.b % 2) c.loop.invariant.0

pub overflow_add-ones : goal.overflow_add-ones
overflow_add-ones c =
    let args = c.args in
    let at = c.loop in
    let p = args.field.polynomial in
    let few : c.degree-end.result ≤ 8 = omega (arith, c.degree-end.ensures, (polynomial p args.field.modulus).most) in
    let one = bit_le args.b (product p args.a (2 ^ at.counter)) in
    let sum = total_le at.counter 1 (λ k. bit args.b (product p args.a (2 ^ k))) (λ k. bit_le args.b (product p args.a (2 ^ k))) in
    record { fits = omega (arith, bit_is (goal.at.overflow_add-ones c).In-loop, at.invariant.1, few) }

pub product-column-requires : goal.product-column-requires
product-column-requires c =
    let f = c.args.field in
    rw c.loop.invariant.0 (times_lt f.polynomial (degree f.polynomial) (has f) c.args.a (2 ^ c.loop.counter))

pub loop-preserved : goal.loop-preserved
loop-preserved c =
    let args = c.args in
    let at = c.loop in
    let f = args.field in
    let p = f.polynomial in (
      c.product-column.ensures ∙ ap (λ (x : ℕ). product p x 2) at.invariant.0 ∙ next_column p (degree p) (has f) args.a at.counter,
      ap₂ ◌+◌ at.invariant.1 (bit_is (goal.at.loop-preserved c).In-loop) ∙ sym (total_step at.counter (λ k. bit args.b (product p args.a (2 ^ k)))),
    )

pub returns : goal.returns
unfolding ones_in_line
returns c =
    let all : c.loop.counter ≡ degree c.args.field.polynomial = omega (arith, c.degree-end.ensures) in
    rw all at c.loop.invariant.1
