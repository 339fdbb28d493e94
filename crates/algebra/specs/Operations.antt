-- What a field is made of.
-- Assumes nothing.
use Rattle.std.specs.Prelude.{Bool}

-- the elements, with 0, 1, sum, product, and the test for 0
pub record Operations : Type 1 where
  pub Element : Type 0
  pub null : Element
  pub one : Element
  pub plus : Element → Element → Element
  pub times : Element → Element → Element
  pub is_null : Element → Bool
