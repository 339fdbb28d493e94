-- `answer_row::widened` meets its contract. The loop's invariant: the entries before place i are stored, and are bytes. Assumes nothing.
use mathlib.Core.Path.{◌≡◌}
use Prim.Native.Nat.{ℕ, ◌≤◌, ◌<◌}
use lib.ListN.{length, get_or}
use Rattle.answer_row.proofs.widened.Given as goal

abbrev pub invariant-loop-i : goal.invariant-loop-i
invariant-loop-i l = (length l.entries ≡ 8) × ((k : ℕ) → k < l.i → (get_or l.entries k 0 ≡ get_or l.row k 0) × (get_or l.entries k 0 ≤ 255))
