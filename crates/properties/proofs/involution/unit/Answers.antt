-- `properties::involution::unit` meets its contract. Assumes nothing.
use mathlib.Core.Path.{◌≡◌, refl, ◌∙◌}
use mathlib.Core.Bool.{Bool, true, false, cond}
use mir.Val.{bool_byte}
use Rattle.properties.specs.Steps.Identity.{unit}
use Rattle.properties.proofs.involution.unit.Goals as goal

byte : (b : Bool) → bool_byte b ≡ cond b 1 0
byte true = refl
byte false = refl

pub returns : goal.returns
unfolding unit
returns c = c.from.ensures ∙ byte _
