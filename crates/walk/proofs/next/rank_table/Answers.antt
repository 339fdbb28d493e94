-- `walk::next::rank_table` meets its contract: after a turns the first a entries are stored. Assumes nothing.
use mathlib.Core.Path.{◌≡◌, refl, sym, ap, ◌∙◌}
use mathlib.Core.List.{append-nil}
use Prim.Native.Nat.{suc}
use native.Mathlib.Omega.{arith}
use native.Mathlib.Numerals.{add-one}
use Rattle.algebra.specs.Matrix.{tabulate}
use Rattle.lines.specs.Steps.Blocks.{filled_to}
use Rattle.lines.proofs.Filled.{filled_to_more}
use Rattle.walk.specs.Steps.Successors.{count_below, rank_table}
use Rattle.walk.proofs.Ranks.{below_most, below_none}
use Rattle.walk.proofs.next.rank_table.Goals as goal

pub loop-a-init : goal.loop-a-init
unfolding tabulate
loop-a-init c = (sym (below_none c.args.letters.now), refl)

pub overflow_cast-r : goal.overflow_cast-r
overflow_cast-r c =
    let z = below_most (suc c.loop-a.a) c.args.letters.now in
    omega (arith, c.below_next-i.ensures, c.requires.1)

pub loop-a-preserved : goal.loop-a-preserved
loop-a-preserved c =
    let letters = c.args.letters.now in
    let at = c.loop-a in (
      c.below_next-i.ensures ∙ ap (count_below letters) (sym (add-one at.a)),
      filled_to_more 256 0 (λ a. count_below letters (suc a)) at.a at.r c.below_next-i.result c.loop-a-test.true at.invariant.1 c.below_next-i.ensures,
    )

pub returns : goal.returns
unfolding rank_table
returns c =
    let letters = c.args.letters.now in
    let all : c.loop-a.a ≡ 256 = omega arith in
    (c.loop-a.invariant.1 ∙ ap (filled_to 256 0 (λ a. count_below letters (suc a))) all ∙ append-nil (tabulate 256 (λ a. count_below letters (suc a))))
