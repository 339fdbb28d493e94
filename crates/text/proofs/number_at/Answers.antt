-- `text::number_at` meets its contract. The loop's invariant: the number in the columns passed.
-- Assumes nothing.
use mathlib.Core.Path.{◌≡◌, refl, sym, ap₂, ◌∙◌}
use Prim.Native.Nat.{ℕ, ◌+◌, ◌*◌}
use native.Mathlib.Omega.{arith}
use Rattle.text.proofs.Numbers.{number_to, number_step, number_to_six, number_to_most}
use Rattle.text.proofs.number_at.Goals as goal

pub loop-i-init : goal.loop-i-init
unfolding number_to
loop-i-init c = refl

pub overflow_mul-number : goal.overflow_mul-number
overflow_mul-number c = omega (arith, number_to_most c.args.text.now c.args.at c.loop-i.i (omega arith), c.loop-i.invariant)

pub overflow_add-number : goal.overflow_add-number
overflow_add-number c = omega (arith, number_to_most c.args.text.now c.args.at c.loop-i.i (omega arith), c.loop-i.invariant, c.digit_at.ensures)

pub loop-i-preserved : goal.loop-i-preserved
loop-i-preserved c =
    ap₂ (λ (x y : ℕ). x * 10 + y) c.loop-i.invariant c.digit_at.ensures ∙ sym (number_step c.args.text.now c.args.at c.loop-i.i)

pub returns : goal.returns
returns c = let end : c.loop-i.i ≡ 6 = omega arith in c.loop-i.invariant ∙ rw end (number_to_six c.args.text.now c.args.at)
