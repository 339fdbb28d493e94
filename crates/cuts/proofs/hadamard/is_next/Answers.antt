-- `cuts::hadamard::is_next` meets its contract. Assumes nothing.
use mathlib.Core.Path.{◌≡◌, ap, ◌∙◌}
use mathlib.Core.Bool.{not}
use native.Mathlib.Nat.{pos_of_ne-zero}
use native.Mathlib.Omega.{arith}
use lib.ListN.{length, take}
use Rattle.cuts.specs.Steps.Hadamard.{place_before}
use Rattle.cuts.proofs.HadamardCuts.{place_inside, member_any, next_first, next_low, next_large}
use borrow.Author.Rules.{rules}
use Rattle.cuts.proofs.hadamard.is_next.Goals as goal

pub returns-then-level-eq0 : goal.returns-then-level-eq0
returns-then-level-eq0 c = next_first c.args.row c.args.level c.args.a c.if-level-eq0.true

pub bounds-row-low : goal.bounds-row-low
unfolding place_before
bounds-row-low c = omega (arith, c.from-low.ensures, place_inside c.args.level c.if-level-eq0.false c.requires)

pub returns-then-a-row : goal.returns-then-a-row
unfolding place_before
returns-then-a-row c =
    let args = c.args in
    let eight : length args.row ≡ 8 = search rules in
    next_low args.row args.level args.a (omega arith) c.requires (pos_of_ne-zero c.if-level-eq0.false) (rw c.from-low.ensures at c.if-a-row.true)

pub returns : goal.returns
unfolding place_before
returns c =
    let args = c.args in
    let eight : length args.row ≡ 8 = search rules in
    ap not (c.contains.ensures.value ∙ member_any args.a (take args.level args.row))
    ∙ next_large args.row args.level args.a (omega arith) c.requires (pos_of_ne-zero c.if-level-eq0.false) (rw c.from-low.ensures at c.if-a-row.false)
