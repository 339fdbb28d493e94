-- `walk::next::filled` meets its contract: filled up from place i on, the array is filled up from the start on. Assumes nothing.
use mathlib.Core.Path.{◌≡◌}
use Prim.Native.Nat.{◌-◌}
use lib.ListN.{take, drop, replicate}
use Rattle.walk.specs.Steps.Successors.{filled_up}
use Rattle.walk.proofs.next.filled.Given as goal

abbrev pub invariant-loop-i : goal.invariant-loop-i
invariant-loop-i l =
    (filled_up l.letters (take l.i l.r) (l.n - l.i) ≡ filled_up l.letters (take l.level l.initial.r) (l.n - l.level))
    × (drop l.n l.r ≡ replicate (8 - l.n) 0)
