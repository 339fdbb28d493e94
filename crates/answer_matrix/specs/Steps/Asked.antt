-- The two kinds that ask about a matrix, as the code tells them apart: what is found of it, or its gates; and the matrix of a request. `asked_kind` of
-- proofs/Requests.antt ties the kinds to the table. Assumes nothing.
use Rattle.std.specs.Prelude.{◌≡◌, List, ℕ, ◌<◌, Result, MatchResult}
use Rattle.refusal.specs.declared.Refusal.{Refusal}
use Rattle.refusal.specs.Refusals.{number_of, first_number}
use Rattle.lines.specs.Numbers.{entry}
use Rattle.reply.specs.Due.{Kind, check_faults, entries_of, check_lines, gate_lines}
use Rattle.answer_matrix.specs.declared.Asked.{Asked}
use Rattle.answer_matrix.specs.declared.Asked.TheVariants.{Check, Gates}
use Rattle.answer_matrix.specs.declared.square.Matrix.{Matrix}

abbrev pub matrix_lines : Asked → ℕ → ℕ → (ℕ → ℕ → ℕ) → List (List ℕ)
matrix_lines Check p n f = check_lines p n f
matrix_lines Gates p n f = gate_lines p n f

abbrev pub matrix_number : Asked → ℕ
matrix_number Check = 2
matrix_number Gates = 4

unfoldable pub matrix_kind : Asked → Kind
matrix_kind asked =
    record {
      number = matrix_number asked;
      faults = λ r. check_faults r.polynomial r.order r.values;
      lines = λ r. matrix_lines asked r.polynomial r.order (entries_of r.order r.values);
    }

-- the matrix of order n over p whose entries are the values of a request, or the reason that the request is refused for
abbrev pub GivesMatrix : ℕ → ℕ → List ℕ → Result Matrix Refusal → Type 0
GivesMatrix p n values result =
    MatchResult result
    (λ m.
    (m.field.polynomial ≡ p)
    × (m.order ≡ n)
    × (first_number (check_faults p n values) ≡ 0)
    × ((i j : ℕ) → i < n → j < n → entry m.entries i j ≡ entries_of n values i j))
    (λ reason. number_of reason ≡ first_number (check_faults p n values))
