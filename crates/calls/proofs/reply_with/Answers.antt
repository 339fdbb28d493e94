use Rattle.std.proofs.Common.{rules, ◌∷◌, arith}
use Rattle.calls.proofs.Stored.{thirteen}
use Rattle.calls.proofs.reply_with.Goals as goal

pub returns : goal.returns
returns c =
    let a = c.args in
    thirteen c.loop-i.reply (a.number ∷ a.values) a.words c.loop-i.invariant.0 (search rules) c.loop-i.invariant.1 (λ k l. c.loop-i.invariant.2 k (omega arith))
