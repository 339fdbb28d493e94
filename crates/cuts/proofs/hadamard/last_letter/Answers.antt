-- `cuts::hadamard::last_letter` meets its contract. Assumes nothing.
use mathlib.Core.Path.{ap}
use Rattle.field.specs.Polynomial.{◌⊕◌}
use Rattle.cuts.specs.Steps.Hadamard.{last_letter}
use Rattle.cuts.proofs.hadamard.last_letter.Goals as goal

pub returns : goal.returns
unfolding last_letter ◌⊕◌
returns c = ap (λ x. x ⊕ 1) c.xor_of.ensures
