-- `properties::branch::has_kernel` meets its contract: each call clears one column. Assumes nothing.
use mathlib.Core.Path.{◌≡◌, refl, sym, ◌∙◌}
use mathlib.Core.Bool.{not}
use Prim.Native.Nat.{ℕ, ◌<◌}
use native.Mathlib.Nat.{pos_of_ne-zero}
use native.Mathlib.Omega.{arith}
use lib.Dec.{eqb}
use lib.ListN.{length}
use Rattle.std.specs.declared.option.Option.TheVariants.{None, Some}
use Rattle.field.specs.Polynomial.{first_below}
use Rattle.lines.specs.Numbers.{entry}
use borrow.Author.Rules.{rules}
use Rattle.properties.proofs.Elimination.{kernel_empty, pivot_none, pivot_found, cleared_in_field, pivot_step}
use Rattle.properties.proofs.branch.+has_kernel.Goals as goal
use Rattle.properties.proofs.branch.+has_kernel.Goals.{In-Some}

pub returns-then-c-eq0 : goal.returns-then-c-eq0
returns-then-c-eq0 t c = kernel_empty c.args.table.now.polynomial c.args.table.now.modulus c.args.r c.args.block c.args.c c.if-c-eq0.true

pub returns-in-None : goal.returns-in-None
returns-in-None t c =
    let a = c.args in
    let eight : length a.block ≡ 8 = search rules in
    pivot_none a.table.now.polynomial a.table.now.modulus a.r a.block a.r (pivot_found a.r a.block (omega (arith, c.requires.0)) None (sym c.in-None.is ∙ c.pivot.ensures))
    a.c (pos_of_ne-zero c.if-c-eq0.false) c.requires.2 refl

-- line k is the pivot's
found : (t : ℕ) (c : In-Some t) → (c.in-Some.k < c.args.r) × (c.in-Some.k ≡ first_below c.args.r (λ i. not (eqb (entry c.args.block i 0) 0)))
found t c =
    let eight : length c.args.block ≡ 8 = search rules in
    pivot_found c.args.r c.args.block (omega (arith, c.requires.0)) (Some c.in-Some.k) (sym c.in-Some.is ∙ c.pivot.ensures)

pub cleared-requires : goal.cleared-requires
cleared-requires t c =
    let pre = c.requires in
    ((found t (goal.at.cleared-requires t c).In-Some).0, pre.0, pos_of_ne-zero c.if-c-eq0.false, pre.1, pre.2)

pub has_kernel-requires : goal.has_kernel-requires
has_kernel-requires t c =
    let a = c.args in
    let pre = c.requires in
    let positive = pos_of_ne-zero c.if-c-eq0.false in
    let k = found t (goal.at.has_kernel-requires t c).In-Some in (
      omega (arith, c.decreases),
      (omega arith, omega arith, cleared_in_field a.table.now.polynomial a.table.now.modulus a.r a.block c.in-Some.k k.1 c.cleared.result a.c c.cleared.ensures),
    )

pub returns-in-Some : goal.returns-in-Some
returns-in-Some t c =
    let a = c.args in
    let k = found t (goal.at.returns-in-Some t c).In-Some in
    pivot_step a.table.now.polynomial a.table.now.modulus a.r a.block c.in-Some.k k.1 c.cleared.result a.c
    c.cleared.ensures (pos_of_ne-zero c.if-c-eq0.false) c.requires.2 (λ (e : c.in-Some.k ≡ a.r). let none : ⊥ = omega (arith, k.0) in none) c.has_kernel.result c.has_kernel.ensures
