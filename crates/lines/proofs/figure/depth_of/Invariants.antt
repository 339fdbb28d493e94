-- `lines::figure::depth_of` meets its contract: no power before that of d was t or more. Assumes nothing.
use Prim.Native.Nat.{ℕ, ◌-◌, ◌^◌, ◌≤◌, ◌<◌}
use Rattle.lines.proofs.figure.depth_of.Given as goal

abbrev pub invariant-loop-d : goal.invariant-loop-d
invariant-loop-d l = (l.d ≤ 16) × ((e : ℕ) → e < l.d → 2 ^ e < l.t)

abbrev pub decreases-loop-d : goal.decreases-loop-d
decreases-loop-d l = 16 - l.d
