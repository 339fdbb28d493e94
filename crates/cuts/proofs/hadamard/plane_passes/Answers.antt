-- `cuts::hadamard::plane_passes` meets its contract. Assumes nothing.
use mathlib.Core.Path.{sym, ◌∙◌}
use native.Mathlib.Omega.{arith}
use Rattle.field.specs.Polynomial.{◌⊕◌}
use Rattle.lines.specs.Numbers.{WordsInField}
use Rattle.cuts.proofs.PlaneCuts.{SingularPlane, plane_later, plane_singular, plane_small, plane_sums}
use Rattle.cuts.proofs.hadamard.plane_passes.Goals as goal
use Rattle.cuts.proofs.hadamard.plane_passes.Goals.{Else-times, Start}

pub returns-then-d-c : goal.returns-then-d-c
returns-then-d-c c = plane_later _ _ _ _ _ _ c.if-d-c.true

pub times-requires : goal.times-requires
unfolding WordsInField
times-requires c = c.requires.3 c.args.a (omega (arith, c.requires.0, c.requires.1))

pub times-requires-2 : goal.times-requires-2
unfolding WordsInField
times-requires-2 c = c.requires.3 _ (omega (arith, c.if-d-c.false))

pub returns-then-times : goal.returns-then-times
returns-then-times c = plane_singular _ _ _ _ _ _ c.if-d-c.false (sym c.times.ensures ∙ c.if-times.true ∙ c.times-2.ensures)

-- the products are not the same
abbrev Singular : Start → Type 0
Singular s = SingularPlane s.args.table.now.polynomial s.args.row s.args.d s.args.b s.args.a

regular : (c : Else-times) → Singular c.before.before.before.before → ⊥
regular c e = c.if-times.false (c.times.ensures ∙ e ∙ sym c.times-2.ensures)

pub returns-then-n-ne8 : goal.returns-then-n-ne8
returns-then-n-ne8 c = plane_small _ _ _ _ _ _ c.if-d-c.false (regular (goal.at.returns-then-n-ne8 c).Else-times) c.if-n-ne8.true

pub returns : goal.returns
unfolding ◌⊕◌
returns c = plane_sums _ _ _ _ _ _ c.if-d-c.false (regular (goal.at.returns c).Else-times) c.if-n-ne8.false
