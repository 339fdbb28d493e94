-- `walk::next::next_row` meets its contract: the entries from place i on cannot be raised. Assumes nothing.
use mathlib.Core.Path.{◌≡◌, refl, sym, ap, ◌∙◌}
use mathlib.Core.List.{List}
use Prim.Native.Nat.{ℕ, ◌-◌}
use native.Mathlib.Omega.{arith}
use lib.ListN.{length, get_or}
use lib.Seq.{drop-set-lt}
use Rattle.walk.specs.Steps.Successors.{eight, row_behind}
use Rattle.walk.proofs.Filling.{raise_none, raise_some, raise_end, raised_there}
use borrow.Author.Rules.{rules}
use Rattle.walk.proofs.next.next_row.Goals as goal

pub loop-i-init : goal.loop-i-init
unfolding row_behind
loop-i-init c = refl

pub filled-requires : goal.filled-requires
filled-requires c =
    let at = c.loop-i in
    (omega arith, c.requires.0, c.requires.1, drop-set-lt c.args.n c.args.row (at.i - 1) c.in-Some.a (omega arith) ∙ c.requires.2)

pub returns-in-Some : goal.returns-in-Some
returns-in-Some c =
    let at = c.loop-i in
    let row = c.args.row in
    let letters = c.args.letters.now in
    let raised = c.in-Some.ensures in
    let fits : length row ≡ 8 = search rules in
    let there = ap (λ (r : List ℕ). get_or r (at.i - 1) 0) c.filled.ensures ∙ raised_there letters row c.args.n (at.i - 1) c.in-Some.a (omega arith) (omega (arith, c.requires.0)) in (
      c.filled.ensures ∙ ap (eight c.args.n)
          (raise_some letters row c.args.n at.i (at.i - 1) c.in-Some.a (omega arith) (omega arith) (omega (arith, c.requires.0)) raised.1 (λ e. omega (arith, raised.0))
          ∙ at.invariant),
      (at.i - 1, omega arith, omega (arith, there, raised.0)),
    )

pub loop-i-preserved : goal.loop-i-preserved
loop-i-preserved c =
    let at = c.loop-i in
    let fits : length c.args.row ≡ 8 = search rules in
    sym (raise_none c.args.letters.now c.args.row c.args.n at.i (at.i - 1) 0 (omega arith) (omega arith) (omega (arith, c.requires.0)) (sym c.in_default.ensures) refl) ∙ at.invariant

pub returns : goal.returns
returns c =
    let at = c.loop-i in
    sym (raise_end c.args.letters.now c.args.row c.args.n at.i (omega arith) ∙ at.invariant)
