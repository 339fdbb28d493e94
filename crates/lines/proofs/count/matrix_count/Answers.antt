-- `lines::count::matrix_count` meets its contract: after i turns the counts of the first i rows are added. Assumes nothing.
use mathlib.Core.List.{List, []}
use mathlib.Core.Path.{◌≡◌, refl, sym, ap, ap₂, ◌∙◌}
use Prim.Native.Nat.{ℕ, ◌+◌}
use native.Mathlib.Omega.{arith}
use lib.ListN.{get_or}
use Rattle.std.proofs.Common.{rules}
use Rattle.lines.specs.Numbers.{entry, InField, WordsInField}
use Rattle.lines.specs.Counts.{total, row_count, matrix_count}
use Rattle.lines.proofs.Filled.{front_at, front_length}
use Rattle.lines.proofs.Tallies.{row_count_le, total_le, total_step}
use Rattle.lines.proofs.count.matrix_count.Goals as goal
use Rattle.lines.proofs.count.matrix_count.Goals.{After-row_count-sum}

pub loop-line-init : goal.loop-line-init
unfolding total
loop-line-init c = refl

pub row_count-sum-requires : goal.row_count-sum-requires
unfolding InField WordsInField
row_count-sum-requires c =
    let pre = c.requires in
    let at = front_at c.args.n c.loop-line.line-index c.args.m [] c.loop-line-test.true in
    (pre.0, pre.1, λ j l. rw at.1 (pre.2 c.loop-line.line-index j at.0 l))

-- one row more
more : (c : After-row_count-sum)
    → c.loop-line.sum + c.row_count-sum.result
    ≡ total (c.loop-line.line-index + 1) (λ k. row_count c.args.field.polynomial c.args.n (entry c.args.m k))
more c =
    let args = c.args in
    let count : List ℕ → ℕ = λ line. row_count args.field.polynomial args.n (λ j. get_or line j 0) in
    let at = front_at args.n c.loop-line.line-index args.m [] c.loop-line-test.true in
    ap₂ ◌+◌ c.loop-line.invariant (c.row_count-sum.ensures ∙ ap count at.1)
    ∙ sym (total_step c.loop-line.line-index (λ k. row_count args.field.polynomial args.n (entry args.m k)))

pub overflow_add-sum : goal.overflow_add-sum
overflow_add-sum c =
    let args = c.args in
    let at = front_at args.n c.loop-line.line-index args.m [] c.loop-line-test.true in
    let few = total_le (c.loop-line.line-index + 1) 504 _ (λ i. row_count_le args.field.polynomial args.n (entry args.m i) args.field.modulus c.requires.1) in
    record { fits = omega (arith, more (goal.at.overflow_add-sum c).After-row_count-sum, few, at.0, c.requires.1) }

pub loop-line-preserved : goal.loop-line-preserved
loop-line-preserved c = more (goal.at.loop-line-preserved c).After-row_count-sum

pub returns : goal.returns
unfolding matrix_count
returns c =
    let all : c.loop-line.line-index ≡ c.args.n = omega (arith, front_length c.args.n c.args.m c.requires.1 (search rules)) in
    rw all at c.loop-line.invariant
