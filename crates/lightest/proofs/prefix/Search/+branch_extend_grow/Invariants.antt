-- The cycle of calls {branch, grow, extend}: with d = n - level the measures are 3·d + 1, 3·d and 3·d + 2. After i letters the row kept is
-- that of all rows which begin with the prefix and one of them. Assumes nothing.
use mathlib.Core.Path.{◌≡◌}
use Prim.Native.Nat.{ℕ, ◌+◌, ◌-◌}
use Rattle.lightest.specs.Steps.Search.{kept_upto}
use Rattle.lightest.proofs.prefix.Search.+branch_extend_grow.Given as goal

abbrev pub thrice : ℕ → ℕ
thrice d = d + d + d

abbrev pub decreases-branch : goal.decreases-branch
decreases-branch l = thrice (l.self.now.order - l.at.level) + 1

abbrev pub decreases-extend : goal.decreases-extend
decreases-extend l = thrice (l.self.now.order - l.at.level) + 2

abbrev pub decreases-grow : goal.decreases-grow
decreases-grow l = thrice (l.self.now.order - l.at.level)

abbrev pub invariant-extend-loop-a : goal.invariant-extend-loop-a
invariant-extend-loop-a l = l.best ≡ kept_upto l.self l.at l.initial.best l.a-index
