-- `matrix::block::next_choice` meets its contract: a test computed for all masks. Assumes nothing.
use Prim.Native.Nat.{◌+◌, ◌-◌}
use native.Mathlib.Omega.{arith}
use lib.Bits.{and_le_l}
use Rattle.matrix.proofs.Masks.{lowest, lowest_positive, following, following_next}
use Rattle.matrix.proofs.block.next_choice.Goals as goal

pub overflow_add-next : goal.overflow_add-next
overflow_add-next c = omega (arith, and_le_l c.args.mask (65535 - c.args.mask + 1))

pub nonzero_div-result : goal.nonzero_div-result
unfolding lowest
nonzero_div-result c = lowest_positive c.args.mask c.requires.0 c.requires.1

pub returns : goal.returns
unfolding following lowest
returns c = following_next c.args.mask c.requires.0 c.requires.1
