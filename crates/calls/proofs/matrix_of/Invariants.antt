use Rattle.std.proofs.Common.{◌≡◌, ◌+◌, ◌*◌, ◌<◌, ℕ, [], get_or, length}
use Rattle.calls.specs.Records.{words_at}
use Rattle.calls.proofs.matrix_of.Given as goal

abbrev pub invariant-loop-i : goal.invariant-loop-i
invariant-loop-i l = (length l.m ≡ 8) × ((k : ℕ) → k < l.i → get_or l.m k [] ≡ words_at l.bytes (16 + 8 * k))
