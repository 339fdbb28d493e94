use Rattle.std.proofs.Common.{◌≡◌, ◌∷◌, ◌+◌, ◌<◌, ℕ, take, get_or, length}
use Rattle.calls.proofs.reply_with.Given as goal

abbrev pub invariant-loop-i : goal.invariant-loop-i
invariant-loop-i l =
    (length l.reply ≡ 13) × (take 5 l.reply ≡ l.number ∷ l.fn.values) × ((k : ℕ) → k < l.i → get_or l.reply (5 + k) 0 ≡ get_or l.words k 0)
