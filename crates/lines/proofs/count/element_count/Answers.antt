-- `lines::count::element_count` meets its contract: after i turns the counts of the first i elements are added. Assumes nothing.
use mathlib.Core.Path.{◌≡◌, refl, sym, ap, ap₂, ◌∙◌}
use Prim.Native.Nat.{◌+◌}
use native.Mathlib.Omega.{arith}
use lib.ListN.{get_or}
use Rattle.std.proofs.Common.{rules}
use Rattle.field.specs.Polynomial.{xor_count}
use Rattle.lines.specs.Numbers.{WordsInField}
use Rattle.lines.specs.Counts.{element_count, total}
use Rattle.lines.proofs.Filled.{front_at, front_length}
use Rattle.lines.proofs.Tallies.{element_count_le, element_count_step}
use Rattle.lines.proofs.count.element_count.Goals as goal
use Rattle.lines.proofs.count.element_count.Goals.{After-from-sum}

pub loop-a-init : goal.loop-a-init
unfolding element_count total
loop-a-init c = refl

pub xor_count-requires : goal.xor_count-requires
unfolding WordsInField
xor_count-requires c =
    let at = front_at c.args.n c.loop-a.a-index c.args.line 0 c.loop-a-test.true in
    rw at.1 (c.requires.1 c.loop-a.a-index at.0)

-- one element more
more : (c : After-from-sum)
    → c.loop-a.sum + c.from-sum.result ≡ element_count c.args.field.polynomial (c.loop-a.a-index + 1) (λ j. get_or c.args.line j 0)
more c =
    let at = front_at c.args.n c.loop-a.a-index c.args.line 0 c.loop-a-test.true in
    let p = c.args.field.polynomial in
    ap₂ ◌+◌ c.loop-a.invariant (c.from-sum.ensures ∙ c.xor_count.ensures ∙ ap (xor_count p) at.1)
    ∙ sym (element_count_step p c.loop-a.a-index (λ j. get_or c.args.line j 0))

pub overflow_add-sum : goal.overflow_add-sum
overflow_add-sum c =
    let field = c.args.field in
    let at = front_at c.args.n c.loop-a.a-index c.args.line 0 c.loop-a-test.true in
    let few = element_count_le field.polynomial (c.loop-a.a-index + 1) (λ j. get_or c.args.line j 0) field.modulus in
    record { fits = omega (arith, more (goal.at.overflow_add-sum c).After-from-sum, few, at.0, c.requires.0) }

pub loop-a-preserved : goal.loop-a-preserved
loop-a-preserved c = more (goal.at.loop-a-preserved c).After-from-sum

pub returns : goal.returns
returns c =
    let all : c.loop-a.a-index ≡ c.args.n = omega (arith, front_length c.args.n c.args.line c.requires.0 (search rules)) in
    rw all at c.loop-a.invariant
