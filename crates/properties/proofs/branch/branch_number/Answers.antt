-- `properties::branch::branch_number` meets its contract: the choices of columns before `columns` are tried. Assumes nothing.
use mathlib.Core.Path.{◌≡◌, sym, ap, ◌∙◌}
use Prim.Native.Nat.{ℕ, suc, ◌^◌, ◌≤◌, ◌<◌}
use native.Mathlib.Nat.{le_trans}
use native.Mathlib.Numerals.{add-one}
use native.Mathlib.Omega.{arith}
use lib.Count.{ones, ones-le}
use lib.ListN.{length}
use lib.Pow.{pow_pos}
use Rattle.algebra.specs.Matrix.{chosen}
use Rattle.lines.specs.Numbers.{numbers, elements, entry, InField}
use Rattle.properties.specs.Steps.Pairs.{over_pairs}
use Rattle.matrix.proofs.Selections.{chosen_ones, mask_fits, shifted, column_chosen}
use Rattle.properties.proofs.Trials.{columns_in_field, pairs_more, pairs_one}
use Rattle.properties.proofs.Least.{pairs_branch}
use Rattle.properties.proofs.branch.branch_number.Goals as goal
use Rattle.properties.proofs.branch.branch_number.Goals.{In-loop-columns}

pub loop-columns-init : goal.loop-columns-init
loop-columns-init c =
    let args = c.args in
    add-one args.n ∙ sym (pairs_one (numbers args.table.now.polynomial) (elements args.table.now.polynomial) args.n (entry args.m) (suc args.n))

-- the mask is one of the order's
inside : (c : In-loop-columns) → c.loop-columns.columns < 2 ^ c.args.n
inside c = rw (shifted c.args.n c.requires.1) at c.loop-columns-test.true

few : (c : In-loop-columns) → ones c.loop-columns.columns ≤ 8
few c = le_trans (ones-le c.args.n c.loop-columns.columns (inside c)) c.requires.1

-- as many columns as it has ones
sized : (c : In-loop-columns) → ones c.loop-columns.columns ≡ length (chosen c.args.n c.loop-columns.columns)
sized c = sym (chosen_ones c.args.n c.loop-columns.columns (inside c))

pub overflow_cast-c : goal.overflow_cast-c
overflow_cast-c c = record { fits = omega (arith, few (goal.at.overflow_cast-c c).In-loop-columns) }

pub chosen_columns-narrow-requires : goal.chosen_columns-narrow-requires
chosen_columns-narrow-requires c =
    (c.requires.1, mask_fits c.args.n c.loop-columns.columns c.requires.1 (inside (goal.at.chosen_columns-narrow-requires c).In-loop-columns))

pub over_lines-best-requires : goal.over_lines-best-requires
over_lines-best-requires c =
    let args = c.args in (
      c.requires.1,
      few (goal.at.over_lines-best-requires c).In-loop-columns,
      columns_in_field args.table.now.polynomial args.n c.loop-columns.columns args.m c.chosen_columns-narrow.result c.requires.1 (inside (goal.at.over_lines-best-requires c).In-loop-columns)
          c.chosen_columns-narrow.ensures c.requires.2,
    )

pub loop-columns-preserved : goal.loop-columns-preserved
loop-columns-preserved c =
    let args = c.args in
    let loop = c.loop-columns in
    let n = args.n in
    let chosen_is = column_chosen n loop.columns args.m c.chosen_columns-narrow.result c.requires.1 (inside (goal.at.loop-columns-preserved c).In-loop-columns) n in
    pairs_more (numbers args.table.now.polynomial) (elements args.table.now.polynomial) args.n (entry args.m) (entry c.chosen_columns-narrow.result) loop.columns
    (ones loop.columns) (suc args.n) loop.best c.over_lines-best.result
    (sized (goal.at.loop-columns-preserved c).In-loop-columns) (chosen_is c.chosen_columns-narrow.ensures) loop.invariant c.over_lines-best.ensures

pub returns : goal.returns
unfolding InField
returns c =
    let args = c.args in
    let loop = c.loop-columns in
    let last : loop.columns ≡ 2 ^ args.n = omega (arith, shifted args.n c.requires.1, pow_pos args.n) in
    loop.invariant
    ∙ ap (λ (k : ℕ). over_pairs (numbers args.table.now.polynomial) (elements args.table.now.polynomial) args.n (entry args.m) k (suc args.n)) last
    ∙ pairs_branch args.table.now.polynomial args.table.now.modulus args.n (entry args.m) c.requires.2 c.requires.0
