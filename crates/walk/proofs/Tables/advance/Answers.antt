-- `walk::Tables::advance` meets its contract: it stands after the rows of the budget that are tried. Assumes nothing.
use mathlib.Core.Path.{◌≡◌, ap, ◌∙◌}
use Prim.Native.Nat.{suc, ◌+◌}
use native.Mathlib.Omega.{arith}
use Rattle.walk.specs.Steps.Positions.{position_at, StandsAt}
use Rattle.walk.proofs.Positions.{position_stands, position_left, position_end}
use Rattle.walk.proofs.Tables.advance.Goals as goal

pub loop-init : goal.loop-init
unfolding StandsAt
loop-init c =
    let none : c.args.at.tried ≡ c.args.at.tried + 0 = omega arith in
    c.requires.1.1 ∙ ap (position_at c.args.self.now.table.now.polynomial c.args.self.now.order c.args.self.now.letters.now) none

pub returns-in_default : goal.returns-in_default
returns-in_default c =
    let at = c.loop in
    position_end c.requires.0.lettered at.here (c.args.at.tried + at.counter) at.invariant (c.args.at.tried + c.args.budget) (omega arith) c.in_default.is

pub step-requires : goal.step-requires
step-requires c =
    let at = c.loop in
    (c.requires.0, position_stands c.requires.0.lettered at.here (c.args.at.tried + at.counter) at.invariant, c.in-Some.is)

pub loop-preserved : goal.loop-preserved
loop-preserved c =
    let at = c.loop in
    let is = position_left c.requires.0.lettered at.here (c.args.at.tried + at.counter) at.invariant c.in-Some.row c.in-Some.is in
    let more : suc at.here.tried ≡ c.args.at.tried + (at.counter + 1) = omega arith in
    c.step.ensures ∙ ap (position_at c.args.self.now.table.now.polynomial c.args.self.now.order c.args.self.now.letters.now) more

pub returns : goal.returns
returns c =
    let at = c.loop in
    let all : c.args.at.tried + at.counter ≡ c.args.at.tried + c.args.budget = omega arith in
    at.invariant ∙ ap (position_at c.args.self.now.table.now.polynomial c.args.self.now.order c.args.self.now.letters.now) all
