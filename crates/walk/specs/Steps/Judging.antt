-- One row of a walk, as the code judges it. Nobody need believe these.
use Rattle.std.specs.Prelude.{◌≡◌, List, ℕ, ◌-◌, drop, replicate}
use Rattle.field.specs.Polynomial.{Modulus}
use Rattle.lines.specs.Numbers.{WordsInField}
use Rattle.rows.specs.Steps.Orders.{SearchOrder}

-- an array that holds a row of order n over the field, with zeros behind it
pub record Judging (p n : ℕ) (row : List ℕ) : Type 0 where
  pub modulus : Modulus p
  pub order : SearchOrder n
  pub in_field : WordsInField p n row
  pub rest : drop n row ≡ replicate (8 - n) 0
