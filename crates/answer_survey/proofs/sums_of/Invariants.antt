-- `answer_survey::sums_of` meets its contract. The loop's invariant: the sums are those of the elements passed. Assumes nothing.
use mathlib.Core.Path.{◌≡◌}
use Prim.Native.Nat.{◌-◌}
use Rattle.field.specs.Polynomial.{xor_count}
use Rattle.answer_survey.proofs.Surveys.{sum_to, square}
use Rattle.answer_survey.proofs.sums_of.Given as goal

abbrev pub invariant-loop-a : goal.invariant-loop-a
invariant-loop-a l =
    (l.counts ≡ sum_to (xor_count l.field.polynomial) (l.a - 1)) × (l.squares ≡ sum_to (square l.field.polynomial) (l.a - 1))
