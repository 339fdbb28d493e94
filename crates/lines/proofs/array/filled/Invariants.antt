-- `lines::array::filled` meets its contract: after i turns the first i values are stored. Assumes nothing.
use Rattle.std.proofs.Common.{◌≡◌, ℕ, ◌<◌, ◌≤◌, get_or}
use Rattle.lines.proofs.array.filled.Given as goal

abbrev pub invariant-loop-i : goal.invariant-loop-i
invariant-loop-i g l =
    ((k : ℕ) → k < l.i → goal.F-post g l.f k (get_or l.r k l.fn.empty))
    × ((k : ℕ) → l.i ≤ k → get_or l.r k l.fn.empty ≡ l.fn.empty)
