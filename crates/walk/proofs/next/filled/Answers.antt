-- `walk::next::filled` meets its contract: filled up from place i on, the array is filled up from the start on. Assumes nothing.
use mathlib.Core.Path.{◌≡◌, refl, ap, ◌∙◌}
use mathlib.Core.List.{List}
use Prim.Native.Nat.{ℕ}
use native.Mathlib.Omega.{arith}
use lib.ListN.{length, take}
use lib.Seq.{drop-set-lt}
use Rattle.walk.specs.Steps.Successors.{eight}
use Rattle.walk.proofs.Ranks.{free_or_zero}
use Rattle.walk.proofs.Filling.{fill_turn, fill_end}
use borrow.Author.Rules.{rules}
use Rattle.walk.proofs.next.filled.Goals as goal

pub loop-i-init : goal.loop-i-init
loop-i-init c = (refl, c.requires.3)

pub loop-i-preserved : goal.loop-i-preserved
loop-i-preserved c =
    let at = c.loop-i in
    let args = c.args in
    let eight : length at.r ≡ 8 = search rules in
    let value = c.unwrap_or.ensures ∙ free_or_zero args.letters.now (take at.i at.r) 0 c.free_above.result c.free_above.ensures in (
      fill_turn args.letters.now at.r args.n at.i c.unwrap_or.result c.loop-i-test.true (omega arith) value ∙ at.invariant.0,
      drop-set-lt args.n at.r at.i c.unwrap_or.result c.loop-i-test.true ∙ at.invariant.1,
    )

pub returns : goal.returns
returns c =
    let at = c.loop-i in
    let args = c.args in
    fill_end args.letters.now at.r args.n at.i (omega arith) at.invariant.1 ∙ ap (λ (q : List ℕ). eight args.n q) at.invariant.0
