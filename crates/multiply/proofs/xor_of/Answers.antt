-- `multiply::xor_of` meets its contract. Assumes nothing.
use Rattle.std.proofs.Common.{rules}
use Rattle.field.specs.Polynomial.{◌⊕◌}
use Rattle.multiply.proofs.xor_of.Goals as goal

pub returns : goal.returns
unfolding ◌⊕◌
returns c = search rules
