use Rattle.std.proofs.Common.{◌≡◌, ◌+◌, ◌<◌, ℕ, ◌≤◌, get_or, length}
use Rattle.calls.proofs.widened.Given as goal

abbrev pub invariant-loop-i : goal.invariant-loop-i
invariant-loop-i l = (length l.values ≡ 256) × ((k : ℕ) → k < l.i → get_or l.values k 0 ≡ get_or l.bytes (16 + k) 0) × ((k : ℕ) → l.i ≤ k → get_or l.values k 0 ≡ 0)
