-- The form before request Seven, when line one had four numbers in every kind: in a kind without further numbers the same texts are in form
-- (`form_as_before`), and the same values are read (`values_as_before`). Assumes nothing.
use mathlib.Core.Path.{◌≡◌}
use mathlib.Core.Bool.{Bool, ◌&&◌}
use mathlib.Core.List.{List, [], ◌∷◌, ◌++◌}
use Prim.Native.Nat.{ℕ}
use lib.Dec.{leb}
use lib.ListN.{length, drop}
use Rattle.text.specs.Text.{line_text, value_text, further_numbers, request_text}
use Rattle.text.specs.Reading.{values_from, numbers_from, kind_of, polynomial_of, order_of, count_of, further_of, line_one_length, values_of, rewritten, same_bytes, in_form}

unfoldable pub values_before : List ℕ → List ℕ
values_before s = values_from (drop 25 s) 0 (count_of s)

unfoldable pub form_before : List ℕ → Bool
form_before s =
    leb (length s) 4096
    && same_bytes s (line_text (kind_of s ∷ polynomial_of s ∷ order_of s ∷ length (values_before s) ∷ []) ++ value_text 0 (values_before s))

module _ (text : List ℕ) (none : further_numbers (kind_of text) ≡ 0) where
  pub values_as_before : values_of text ≡ values_before text
  unfolding values_of values_before line_one_length
  values_as_before = rw none

  pub form_as_before : in_form text ≡ form_before text
  unfolding in_form form_before rewritten request_text further_of numbers_from
  form_as_before = rw (values_as_before, none)
