-- `field::table::Field::inverse` meets its contract: no element before b is an inverse, and there is one. Assumes nothing.
use mathlib.Core.Path.{◌≡◌, sym, ◌∙◌, subst, subst⁻¹}
use native.Mathlib.Numerals.{add-one}
use Prim.Native.Nat.{ℕ, ◌+◌, ◌^◌, ◌<◌}
use native.Mathlib.Omega.{arith}
use borrow.Author.Count.{below_more, below_none}
use lib.Pow.{pow_pos}
use Rattle.field.specs.Polynomial.{degree, product}
use Rattle.field.specs.declared.table.Field.{Field}
use Rattle.field.proofs.Degrees.{polynomial}
use Rattle.field.proofs.Irreducibility.{irreducible_to}
use Rattle.field.proofs.Inverses.{inverse_is, inverse_beyond}
use Rattle.field.proofs.Calls.{elements_most}
use Rattle.field.proofs.table.Field.inverse.Goals as goal
use Rattle.field.proofs.table.Field.inverse.Goals.{else-loop-b-test, then-loop-b-test+else-product-eq1+else-b-lt255}

-- where no element up to b is an inverse, another one follows
module _ (field : Field) (a b r : ℕ) (positive : 0 < a) (inside : a < 2 ^ degree field.polynomial) where
  none : ((k : ℕ) → k < b → product field.polynomial a k ≡ 1 → ⊥) → r ≡ product field.polynomial a b → (r ≡ 1 → ⊥)
      → (k : ℕ) → k < b + 1 → product field.polynomial a k ≡ 1 → ⊥
  none before is other = below_more _ _ before (λ e. other (is ∙ e))

  more : ((k : ℕ) → k < b + 1 → product field.polynomial a k ≡ 1 → ⊥) → b + 1 < 2 ^ degree field.polynomial
  more upto =
      let poly = polynomial field.polynomial field.modulus in
      subst⁻¹ (λ (n : ℕ). n < 2 ^ degree field.polynomial) (add-one b)
      (inverse_beyond field.polynomial poly.has (irreducible_to field.polynomial field.modulus.irreducible) (omega (arith, poly.least)) a positive inside b
      (subst (λ (n : ℕ). (k : ℕ) → k < n → product field.polynomial a k ≡ 1 → ⊥) (add-one b) upto))

pub loop-b-init : goal.loop-b-init
loop-b-init c = (pow_pos (degree c.args.self.polynomial), below_none (λ k. product c.args.self.polynomial c.args.a k ≡ 1 → ⊥))

pub product-requires : goal.product-requires
product-requires c = c.requires.1

pub loop-b-preserved : goal.loop-b-preserved
loop-b-preserved c =
    let upto = none c.args.self c.args.a c.loop-b.b c.product.result c.requires.0 c.requires.1 c.loop-b.invariant.1 c.product.ensures c.if-product-eq1.false in
    (more c.args.self c.args.a c.loop-b.b 0 c.requires.0 c.requires.1 upto, upto)

pub returns-then-product-eq1 : goal.returns-then-product-eq1
returns-then-product-eq1 c =
    sym (inverse_is c.args.self.polynomial c.args.a c.loop-b.b c.loop-b.invariant.0 (sym c.product.ensures ∙ c.if-product-eq1.true) c.loop-b.invariant.1)

pub unreachable-requires : goal.unreachable-requires
unreachable-requires c =
    elim c.loop-b-test.branch [
      | else-loop-b-test w ↦ omega (arith, c.loop-b.auto.b-end, w.loop-b-test.false)
      | then-loop-b-test+else-product-eq1+else-b-lt255 w ↦
          let upto = none c.args.self c.args.a c.loop-b.b w.product.result c.requires.0 c.requires.1 c.loop-b.invariant.1 w.product.ensures w.if-product-eq1.false in
          omega (arith, more c.args.self c.args.a c.loop-b.b 0 c.requires.0 c.requires.1 upto, elements_most c.args.self.polynomial c.args.self.modulus)
    ]
