-- `text::number_at` meets its contract. The loop's invariant: the number in the columns passed.
-- Assumes nothing.
use mathlib.Core.Path.{◌≡◌}
use Rattle.text.proofs.Numbers.{number_to}
use Rattle.text.proofs.number_at.Given as goal

abbrev pub invariant-loop-i : goal.invariant-loop-i
invariant-loop-i l = l.number ≡ number_to l.text l.at l.i
