-- `field::table::Field::fill_products` meets its contract: after i turns the table has its first i entries. Assumes nothing.
use mathlib.Core.Path.{◌≡◌, ap, ◌∙◌}
use Rattle.std.proofs.Common.{rules}
use Prim.Native.Nat.{ℕ, ◌*◌, ◌/◌, ◌^◌, ◌<◌}
use native.Mathlib.Nat.{lt_of_lt_of_le}
use native.Mathlib.Omega.{arith}
use lib.Dec.{lit≤}
use lib.ListN.{length, replicate, length-replicate, get_or-replicate}
use Rattle.field.specs.Polynomial.{degree}
use Rattle.field.proofs.Degrees.{polynomial}
use Rattle.field.proofs.Calls.{elements_most, shifted_width}
use Rattle.field.proofs.ProductTable.{filled_none, filled_half, filled_more, filled_all}
use Rattle.field.proofs.table.Field.fill_products.Goals as goal
use Rattle.field.proofs.table.Field.fill_products.Goals.{In-loop-i}

pub overflow_shl-end : goal.overflow_shl-end
overflow_shl-end c = omega (arith, c.degree.ensures, (polynomial c.args.self.polynomial c.args.self.modulus).most)

pub loop-i-init : goal.loop-i-init
loop-i-init c =
    let p = c.args.self.polynomial in
    let h = c.args.self.modulus in
    let is = shifted_width 256 p _ h (lit≤ tt) c.degree.ensures in
    let size : length c.args.products.now ≡ 65536 = search rules in
    let zeros : c.fill.new.self ≡ replicate 65536 0 = c.fill.ensures.after (λ y e. search rules) ∙ ap (λ (n : ℕ). replicate n 0) size in
    (is, omega (arith, is, elements_most p h), filled_none p _ (rw zeros (length-replicate {A = ℕ} 65536 0)) (λ j l. rw zeros (get_or-replicate {A = ℕ} 65536 j 0 0 l)))

-- the number of the entry's element
element : (c : In-loop-i) → c.loop-i.i / 256 < 2 ^ degree c.args.self.polynomial
element c = omega (arith, c.loop-i.invariant.0, c.loop-i-test.true)

pub bounds-products-i : goal.bounds-products-i
bounds-products-i c = omega (arith, c.loop-i.invariant.1, c.loop-i-test.true)

pub overflow_cast-i : goal.overflow_cast-i
overflow_cast-i c = record { fits = lt_of_lt_of_le (element (goal.at.overflow_cast-i c).In-loop-i) (elements_most c.args.self.polynomial c.args.self.modulus) }

pub product_by_half-requires : goal.product_by_half-requires
product_by_half-requires c =
    let at = c.loop-i in
    (element (goal.at.product_by_half-requires c).In-loop-i, filled_half _ at.i at.products (omega (arith, at.invariant.1, c.loop-i-test.true)) (element (goal.at.product_by_half-requires c).In-loop-i) at.invariant.2)

pub bounds-products-i-in-loop-i : goal.bounds-products-i-in-loop-i
bounds-products-i-in-loop-i c = omega (arith, c.loop-i.invariant.1, c.loop-i-test.true)

pub loop-i-preserved : goal.loop-i-preserved
loop-i-preserved c =
    let at = c.loop-i in
    let less = c.loop-i-test.true in (
      at.invariant.0,
      at.invariant.1,
      filled_more _ at.i at.products (omega (arith, at.invariant.1, less)) (element (goal.at.loop-i-preserved c).In-loop-i) at.invariant.2 _ c.product_by_half.ensures,
    )

pub returns : goal.returns
returns c =
    let at = c.loop-i in
    let all : at.i ≡ 256 * 2 ^ degree c.args.self.polynomial = omega (arith, at.invariant.0, c.loop-i-test.false) in
    filled_all _ at.i at.products all at.invariant.2
