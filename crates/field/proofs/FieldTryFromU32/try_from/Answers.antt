-- The field over a polynomial, or what it is refused for. Assumes nothing.
use mathlib.Core.Path.{sym, ◌∙◌}
use mathlib.Core.Logic.{⊎_elim}
use Rattle.field.proofs.Calls.{below_range, above_range, outside_number, reducible_number}
use Rattle.field.proofs.FieldTryFromU32.try_from.Goals as goal

pub returns-then-p-lt4 : goal.returns-then-p-lt4
returns-then-p-lt4 c =
    sym (⊎_elim (λ h. outside_number _ (below_range _ h)) (λ h. outside_number _ (above_range _ h.1)) c.then-p-lt4.either)

pub returns-else-irreducible : goal.returns-else-irreducible
returns-else-irreducible c =
    sym (reducible_number _ c.if-p-lt4.false c.if-p-gt511.false (sym c.irreducible.ensures ∙ c.if-irreducible.false))
