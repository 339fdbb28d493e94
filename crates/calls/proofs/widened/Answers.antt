use Rattle.std.proofs.Common.{refl, ◌≡◌, arith}
use Rattle.calls.proofs.Stored.{zeros, stored_of}
use Rattle.calls.proofs.widened.Goals as goal

pub loop-i-init : goal.loop-i-init
loop-i-init c = (refl, λ k l. absurd (let z : ⊥ = omega arith in z), λ k l. zeros 256 k)

pub returns : goal.returns
returns c =
    let all : c.loop-i.i ≡ 64 = omega arith in
    stored_of c.args.bytes.now c.loop-i.values c.requires c.loop-i.invariant.0 (λ k l. c.loop-i.invariant.1 k (omega arith)) (λ k l. c.loop-i.invariant.2 k (omega arith))
