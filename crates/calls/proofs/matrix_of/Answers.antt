use Rattle.std.proofs.Common.{◌+◌, ◌*◌, [], arith}
use Rattle.calls.specs.Records.{words_at, matrix_in}
use Rattle.calls.proofs.Stored.{eight_elements}
use Rattle.calls.proofs.matrix_of.Goals as goal

pub returns : goal.returns
unfolding matrix_in
returns c =
    eight_elements [] c.loop-i.m c.loop-i.invariant.0 (λ k. words_at c.args.bytes.now (16 + 8 * k)) (λ k l. c.loop-i.invariant.1 k (omega arith))
