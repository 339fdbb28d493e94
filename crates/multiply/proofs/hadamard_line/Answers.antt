-- `multiply::hadamard_line` meets its contract. Assumes nothing.
use Rattle.std.proofs.Common.{rules, ℕ, ◌<◌}
use lib.Bits.{bit_xor}
use native.Mathlib.Nat.{lt_of_lt_of_le}
use Rattle.lines.proofs.Filled.{filled_of}
use Rattle.multiply.proofs.Halving.{exponent, xor_below}
use Rattle.multiply.proofs.hadamard_line.Goals as goal

pub filled-requires : goal.filled-requires
filled-requires c =
    let most = (exponent c.args.n c.requires.0).2 in
    let below : (j : ℕ) → j < c.args.n → bit_xor c.args.i j < 8 =
    λ j l. lt_of_lt_of_le (xor_below c.args.n c.args.i j c.requires.0 c.requires.1 l) most in
    search rules

pub returns : goal.returns
returns c =
    let most = (exponent c.args.n c.requires.0).2 in
    filled_of 0 _ c.args.n c.filled.result 0 most (search rules) (λ i l. let h = c.filled.ensures.first i l in search rules) (λ i l h. c.filled.ensures.behind i l)
