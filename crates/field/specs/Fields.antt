-- The field over a polynomial. Assumes nothing.
use Rattle.std.specs.Prelude.{◌≡◌, ℕ, Result, MatchResult}
use Rattle.refusal.specs.declared.Refusal.{Refusal}
use Rattle.refusal.specs.Refusals.{number_of, first_number}
use Rattle.field.specs.declared.table.Field.{Field}
use Rattle.field.specs.Faults.{polynomial_faults}

-- the field over p, or the reason that p is refused for, 3 or 4
abbrev pub GivesField : ℕ → Result Field Refusal → Type 0
GivesField p result = MatchResult result (λ field. field.polynomial ≡ p) (λ reason. number_of reason ≡ first_number (polynomial_faults p))
