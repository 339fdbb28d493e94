-- What the calls know of their arguments, step by step. Assumes nothing.
use Rattle.std.specs.Prelude.{◌≡◌, Bool, false, List, ℕ, ◌≤◌, Result, MatchResult}
use Rattle.refusal.specs.declared.Refusal.{Refusal}
use Rattle.refusal.specs.Refusals.{number_of, first_number}
use Rattle.field.specs.Faults.{call_faults}
use Rattle.field.specs.declared.table.Field.{Field}
use Rattle.lines.specs.Numbers.{entry, InField}
use Rattle.checks.specs.Answers.{matrix_faults}

-- the field over p, where the order is not wrong; else the reason of the first fault of a call, whatever its values are
abbrev pub OrderPasses : ℕ → Bool → Result Field Refusal → Type 0
OrderPasses p wrong result =
    MatchResult result (λ field. (field.polynomial ≡ p) × (wrong ≡ false))
    (λ reason. (large : Bool) → number_of reason ≡ first_number (call_faults p wrong false large false))

-- the field over p, where none of the faults of a matrix is there; else the reason of the first that is
abbrev pub MatrixPasses : ℕ → ℕ → List (List ℕ) → Result Field Refusal → Type 0
MatrixPasses p n m result =
    MatchResult result (λ field. (field.polynomial ≡ p) × (1 ≤ n) × (n ≤ 8) × InField field.polynomial n n m × (first_number (matrix_faults p n (entry m)) ≡ 0))
    (λ reason. number_of reason ≡ first_number (matrix_faults p n (entry m)))
