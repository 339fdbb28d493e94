-- `gates::has_bit` meets its contract: the bit is shifted to the lowest place and masked. Assumes nothing.
use mathlib.Core.Path.{ap, ◌∙◌}
use Prim.Native.Nat.{ℕ, ◌/◌, ◌%◌, ◌^◌}
use native.Mathlib.Nat.{one-mul}
use native.Mathlib.Omega.{arith}
use lib.Bits.{and_mask}
use lib.Dec.{eqb}
use lib.Pow.{shl_exact}
use Rattle.field.specs.Polynomial.{product}
use Rattle.lines.specs.Depths.{bit}
use Rattle.gates.proofs.has_bit.Goals as goal

pub returns : goal.returns
unfolding bit
returns c =
    let a = c.args in
    ap (λ (x : ℕ). eqb x 1)
    (and_mask (c.product.result / 2 ^ a.b) 1 ∙ ap (λ (x : ℕ). x / 2 ^ a.b % 2) (c.product.ensures ∙ ap (product a.field.polynomial a.a) (shl_exact 1 a.j 8 (omega arith) (omega arith) ∙ one-mul (2 ^ a.j))))
