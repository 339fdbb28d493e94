use Rattle.std.proofs.Common.{rules, ◌≡◌, arith, refl, sym, ap, ◌∙◌}
use Rattle.std.proofs.lemmas.Slice.{overwrites}
use lib.Seq.{take_all}
use Rattle.calls.specs.Records.{as_bytes}
use Rattle.calls.proofs.Stored.{bytes_more}
use Rattle.calls.proofs.bytes_of.Goals as goal

pub loop-i-init : goal.loop-i-init
unfolding as_bytes
loop-i-init c = (refl, refl)

pub loop-i-preserved : goal.loop-i-preserved
loop-i-preserved c =
    (search (rules, overwrites), bytes_more c.args.reply c.loop-i.bytes _ c.loop-i.i _ (search rules) c.loop-i.invariant.1 (search rules) (search rules))

pub returns : goal.returns
returns c =
    let all : c.loop-i.i ≡ 13 = omega arith in
    sym (take_all 52 c.loop-i.bytes (omega (arith, c.loop-i.invariant.0))) ∙ rw all at c.loop-i.invariant.1 ∙ ap as_bytes (take_all 13 c.args.reply (search rules))
