-- `cuts::circulant::pair_passes` meets its contract. Assumes nothing.
use mathlib.Core.Path.{ap, ap₂, ◌∙◌}
use mathlib.Core.Bool.{not}
use Prim.Native.Nat.{ℕ}
use native.Mathlib.Omega.{arith}
use lib.Dec.{eqb}
use lib.ListN.{get_or}
use Rattle.field.specs.Polynomial.{product}
use Rattle.lines.specs.Numbers.{WordsInField}
use Rattle.rows.specs.Steps.Around.{fourth_around}
use Rattle.cuts.proofs.CirculantCuts.{pair_later, pair_decides}
use Rattle.cuts.proofs.circulant.pair_passes.Goals as goal

pub around-z-requires : goal.around-z-requires
around-z-requires c =
    (c.requires.3, omega (arith, c.requires.0, c.requires.1, c.requires.2))

pub returns-then-d-z : goal.returns-then-d-z
unfolding fourth_around
returns-then-d-z c = pair_later _ _ _ _ _ _ (omega (arith, c.around-z.ensures, c.if-d-z.true))

pub times-requires : goal.times-requires
unfolding WordsInField
times-requires c = (c.requires.4 c.args.x (omega (arith, c.requires.0)), c.requires.5)

pub times-requires-2 : goal.times-requires-2
unfolding WordsInField
times-requires-2 c = (c.requires.4 c.args.y (omega (arith, c.requires.1)), c.requires.5)

pub returns : goal.returns
unfolding fourth_around
returns c =
    let z = c.around-z in
    ap₂ (λ (a b : ℕ). not (eqb a b)) c.times.ensures
    (c.times-2.ensures ∙ ap (λ (k : ℕ). product c.args.p (get_or c.args.row c.args.y 0) (get_or c.args.row k 0)) z.ensures)
    ∙ pair_decides c.args.p c.args.n c.args.row c.args.d c.args.x c.args.y (omega (arith, z.ensures, c.if-d-z.false))
