-- `matrix::block::two_by_two` meets its contract. Assumes nothing.
use mathlib.Core.Path.{ap₂}
use lib.Bits.{bit_xor}
use Rattle.field.specs.Polynomial.{◌⊕◌}
use Rattle.matrix.proofs.block.two_by_two.Goals as goal

pub returns : goal.returns
unfolding ◌⊕◌
returns c = ap₂ bit_xor c.times.ensures c.times-2.ensures
