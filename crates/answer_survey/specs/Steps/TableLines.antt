-- The survey's lines as the table has them. `survey_text` of proofs/Surveys.antt ties them to what is due. Assumes nothing.
use Rattle.std.specs.Prelude.{List, map, ℕ, ◌-◌, take, drop}
use Rattle.field.specs.Table.{table}
use Rattle.text.specs.Text.{answer_text}
use Rattle.reply.specs.Due.{survey_line}

-- the polynomials at the places from `first` to `last` of the table, the last one not among them, and their lines of a survey
unfoldable pub table_from : ℕ → ℕ → List ℕ
table_from first last = take (last - first) (drop first table)

unfoldable pub lines_from : ℕ → ℕ → List ℕ
lines_from first last = answer_text (map survey_line (table_from first last))
