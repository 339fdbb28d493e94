-- `answer_matrix::some_too_large` meets its contract. The loop's invariant: no value before number i is too large. Assumes nothing.
use mathlib.Core.Path.{◌≡◌}
use mathlib.Core.Bool.{false}
use Prim.Native.Nat.{ℕ, ◌<◌}
use Rattle.field.specs.Faults.{is_too_large}
use Rattle.text.specs.Reading.{value_at}
use Rattle.answer_matrix.proofs.some_too_large.Given as goal

abbrev pub invariant-loop-i : goal.invariant-loop-i
invariant-loop-i l = (k : ℕ) → k < l.i → is_too_large l.field.polynomial (value_at l.part k) ≡ false
