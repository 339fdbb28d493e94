-- `walk::Tables::step` meets its contract. Assumes nothing.
use native.Mathlib.Omega.{arith}
use Rattle.cuts.proofs.HadamardCuts.{order_most}
use Rattle.walk.proofs.Positions.{letters_ranked, rows_fit, row_rest, row_counts, left, stands_row, step_judging, step_holds, step_ends}
use Rattle.walk.proofs.Tables.step.Goals as goal

pub judged-requires : goal.judged-requires
judged-requires c =
    let (tables, stands, is) = c.requires in
    let at = c.args.at.now in
    let row = c.args.row in
    (step_judging tables at stands row is, row_counts tables.lettered at.tried (left tables at stands row is) row (stands_row tables at stands row is), tables.same_field, step_holds tables at stands row is)

pub next_row-behind-requires : goal.next_row-behind-requires
next_row-behind-requires c =
    let (tables, stands, is) = c.requires in
    let at = c.args.at.now in
    let row = c.args.row in
    (order_most _ tables.lettered.order, letters_ranked tables.lettered _ tables.ranked, row_rest tables.lettered at.tried (left tables at stands row is) row (stands_row tables at stands row is))

pub overflow_add-at : goal.overflow_add-at
overflow_add-at c =
    let (tables, stands, is) = c.requires in
    record { fits = omega (arith, left tables c.args.at.now stands c.args.row is, rows_fit tables.lettered) }

pub returns : goal.returns
returns c =
    let (tables, stands, is) = c.requires in
    step_ends tables c.args.at.now stands c.args.row is c.next_row-behind.result c.next_row-behind.ensures _ c.judged.ensures
