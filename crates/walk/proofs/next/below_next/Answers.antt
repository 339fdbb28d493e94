-- `walk::next::below_next` meets its contract. Assumes nothing.
use mathlib.Core.Path.{sym, ◌∙◌}
use native.Mathlib.Omega.{arith}
use Rattle.walk.proofs.Ranks.{ascend_sorted, next_letter, next_other}
use Rattle.walk.proofs.next.below_next.Goals as goal
use Rattle.walk.proofs.next.below_next.Goals.{else-i-letters-via-then-i-letters+else-from-a, else-i-letters-via-else-i-letters}

pub returns-then-from-a : goal.returns-then-from-a
returns-then-from-a c =
    next_letter (ascend_sorted c.args.letters.now c.requires.0) c.args.a c.args.i c.requires.1 c.if-i-letters.true (sym c.from.ensures ∙ c.if-from-a.true)

pub returns : goal.returns
returns c =
    next_other (ascend_sorted c.args.letters.now c.requires.0) c.args.a c.args.i c.requires.1
    (λ h e. elim c.else-i-letters.branch [
      | else-i-letters-via-then-i-letters+else-from-a w ↦ w.if-from-a.false (w.from.ensures ∙ e)
      | else-i-letters-via-else-i-letters w ↦ absurd (omega (arith, w.if-i-letters.false))
    ])
