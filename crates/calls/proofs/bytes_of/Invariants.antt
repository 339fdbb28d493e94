use Rattle.std.proofs.Common.{◌≡◌, ◌*◌, length, take}
use Rattle.calls.specs.Records.{as_bytes}
use Rattle.calls.proofs.bytes_of.Given as goal

abbrev pub invariant-loop-i : goal.invariant-loop-i
invariant-loop-i l = (length l.bytes ≡ 52) × (take (4 * l.i) l.bytes ≡ as_bytes (take l.i l.reply))
