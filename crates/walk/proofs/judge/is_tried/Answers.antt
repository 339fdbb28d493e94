-- `walk::judge::is_tried` meets its contract. Assumes nothing.
use mathlib.Core.Bool.{true≢false}
use mathlib.Core.Path.{◌≡◌, sym, ◌∙◌}
use native.Mathlib.Omega.{arith}
use lib.ListN.{length}
use borrow.Author.Tests.{eqb-true, eq-eqb}
use Rattle.cuts.specs.Steps.Cuts.{Whole}
use Rattle.cuts.specs.Steps.Families.{hadamard_cuts}
use Rattle.cuts.proofs.HadamardCuts.{order_least, order_most}
use Rattle.walk.proofs.Judged.{not_next, not_last, not_planes, all_whole, whole_one, whole_tried}
use borrow.Author.Rules.{rules}
use Rattle.walk.proofs.judge.is_tried.Goals as goal
use Rattle.walk.proofs.judge.is_tried.Goals.{Then-planes_hold, Start, then-all_next, else-all_next, then-last_letter-row, else-last_letter-row}

pub all_next-requires : goal.all_next-requires
all_next-requires c = order_most c.args.n c.requires.order

-- the array has eight entries
eight : (s : Start) → length s.args.row ≡ 8
eight s = search rules

pub overflow_sub-n : goal.overflow_sub-n
overflow_sub-n c = order_least c.args.n c.requires.order

pub last_letter-requires : goal.last_letter-requires
last_letter-requires c = omega (arith, order_most c.args.n c.requires.order)

pub bounds-row-n : goal.bounds-row-n
bounds-row-n c = omega (arith, order_least c.args.n c.requires.order, order_most c.args.n c.requires.order)

pub planes_hold-requires : goal.planes_hold-requires
planes_hold-requires c = (order_most c.args.n c.requires.order, c.requires.in_field)

whole : (c : Then-planes_hold) → Whole (hadamard_cuts c.args.table.now.polynomial c.args.n) c.args.table.now.polynomial c.args.n c.args.row
whole c =
    elim c.if-last_letter-row.branch [
      | then-last_letter-row w ↦ elim c.if-all_next.branch [
        | then-all_next v ↦
            all_whole c.requires (eight (goal.at.is_good-requires c).Start) (sym c.all_next.ensures ∙ v.if-all_next.true)
            (sym w.planes_hold.ensures ∙ sym w.value-is ∙ c.if-planes_hold.true) v.last_letter.result v.last_letter.ensures
            (eqb-true _ _ (sym v.value-is ∙ w.if-last_letter-row.true))
        | else-all_next v ↦ absurd (true≢false (sym w.if-last_letter-row.true ∙ v.value-is ∙ v.if-all_next.false))
      ]
      | else-last_letter-row w ↦ absurd (true≢false (sym c.if-planes_hold.true ∙ w.value-is ∙ w.if-last_letter-row.false))
    ]

pub is_good-requires : goal.is_good-requires
is_good-requires c =
    let w = whole c in
    (w.order, w.in_field, whole_one c.requires (eight (goal.at.is_good-requires c).Start) w, w.stands)

pub returns-then-planes_hold : goal.returns-then-planes_hold
returns-then-planes_hold c = c.is_good.ensures ∙ sym (whole_tried c.requires (whole (goal.at.returns-then-planes_hold c).Then-planes_hold))

pub returns-else-planes_hold : goal.returns-else-planes_hold
returns-else-planes_hold c =
    c.if-planes_hold.false
    ∙ elim c.if-last_letter-row.branch [
      | then-last_letter-row w ↦ elim c.if-all_next.branch [
        | then-all_next v ↦ not_planes c.requires (eight (goal.at.returns-else-planes_hold c).Start) (sym w.planes_hold.ensures ∙ sym w.value-is ∙ c.if-planes_hold.false)
        | else-all_next v ↦ absurd (true≢false (sym w.if-last_letter-row.true ∙ v.value-is ∙ v.if-all_next.false))
      ]
      | else-last_letter-row w ↦ elim c.if-all_next.branch [
        | then-all_next v ↦ not_last c.requires v.last_letter.result v.last_letter.ensures (λ e. true≢false (sym (eq-eqb _ _ e) ∙ sym v.value-is ∙ w.if-last_letter-row.false))
        | else-all_next v ↦ not_next c.requires (eight (goal.at.returns-else-planes_hold c).Start) (sym c.all_next.ensures ∙ v.if-all_next.false)
      ]
    ]
