-- The fourth number of a search's line one is the count of the row's matrix, entry by entry: of its Hadamard matrix, or of its circulant matrix.
-- Assumes nothing.
use mathlib.Core.Path.{◌≡◌, sym, ap, subst, ◌∙◌}
use mathlib.Core.List.{List, [], ◌∷◌}
use Prim.Native.Nat.{ℕ, ◌*◌}
use lib.ListN.{get_or}
use Rattle.algebra.specs.Matrix.{hadamard, circulant}
use Rattle.algebra.proofs.Circulant.{rotation}
use Rattle.lines.specs.Numbers.{numbers}
use Rattle.lines.specs.Counts.{row_count, matrix_count}
use Rattle.lines.proofs.Tallies.{hadamard_count, equal_lines, row_count_permuted}
use Rattle.rows.specs.declared.Family.{Family}
use Rattle.rows.specs.declared.Family.TheVariants.{Hadamard, Circulant}
use Rattle.rows.specs.Keys.{sum_of}
use Rattle.rows.specs.Demands.{count_of_row, Demanded}
use Rattle.cuts.specs.Steps.Families.{OrderOf}
use Rattle.rows.proofs.HadamardRows.{power}
use Rattle.text.specs.Reading.{kind_of, polynomial_of, order_of, values_of}
use Rattle.reply.specs.Due.{search_number, row_lines, due}
use Rattle.answer.proofs.WellFormed.{passed}
use Rattle.answer.proofs.DemandThree.{accepted_search, accepted_row}

-- the count of the row's matrix
abbrev pub count_of_matrix : Family → ℕ → ℕ → List ℕ → ℕ
count_of_matrix Hadamard p n row = matrix_count p n (hadamard (numbers p) row)
count_of_matrix Circulant p n row = matrix_count p n (circulant (numbers p) n row)

-- line one with the count of the matrix, and the row
abbrev pub matrix_lines : Family → ℕ → ℕ → List ℕ → List (List ℕ)
matrix_lines family p n row = (0 ∷ sum_of p n row ∷ count_of_row p n row ∷ count_of_matrix family p n row ∷ []) ∷ row ∷ []

-- every line of a circulant matrix has the row's count
pub circulant_count : (p n : ℕ) (row : List ℕ) → matrix_count p n (circulant (numbers p) n row) ≡ n * count_of_row p n row
unfolding circulant
circulant_count p n row = equal_lines p n (count_of_row p n row) _ (λ i l. row_count_permuted p n _ _ (rotation n i l) (λ j. get_or row j 0))

-- n times the row's count is the matrix's count
pub printed_count : (family : Family) (p n : ℕ) → OrderOf family n → (row : List ℕ) → n * count_of_row p n row ≡ count_of_matrix family p n row
printed_count Hadamard p n o row =
    subst (λ (m : ℕ). m * row_count p m (λ j. get_or row j 0) ≡ matrix_count p m (hadamard (numbers p) row)) (sym (power n o).is)
    (sym (hadamard_count p (power n o).k row))
printed_count Circulant p n o row = sym (circulant_count p n row)

-- so the lines of a row show it
pub row_lines_count : (family : Family) (p n : ℕ) → OrderOf family n → (row : List ℕ) → row_lines p n row ≡ matrix_lines family p n row
unfolding row_lines
row_lines_count family p n o row =
    ap (λ (c : ℕ). (0 ∷ sum_of p n row ∷ count_of_row p n row ∷ c ∷ []) ∷ row ∷ []) (printed_count family p n o row)

-- and every search that is answered with lines does
pub accepted_count : (family : Family) (text : List ℕ) → kind_of text ≡ search_number family → (due text).number ≡ 0
    → (r : List ℕ) × Demanded family (polynomial_of text) (order_of text) (values_of text) r
    × ((due text).value ≡ matrix_lines family (polynomial_of text) (order_of text) r)
accepted_count family text kind e =
    let (r, h, lines) = accepted_row family text kind e in
    (r, h, lines ∙ row_lines_count family _ _ (passed family text (accepted_search family text kind e)).order r)
