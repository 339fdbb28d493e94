-- `properties::branch::tried` meets its contract. Assumes nothing.
use mathlib.Core.Path.{◌≡◌, sym, ap, ◌∙◌}
use Prim.Native.Nat.{ℕ, ◌+◌, ◌-◌, ◌≤◌}
use native.Mathlib.Nat.{le_of_lt}
use native.Mathlib.Omega.{arith}
use lib.Count.{ones, ones-le}
use lib.ListN.{length}
use Rattle.algebra.specs.Matrix.{chosen}
use Rattle.lines.specs.Numbers.{numbers, elements, entry}
use Rattle.properties.specs.Steps.Pairs.{lines_kernel}
use Rattle.matrix.proofs.Selections.{chosen_ones, mask_fits}
use Rattle.properties.proofs.Trials.{lowered_skip, lowered_true, lowered_false, lines_kernel_holds, lines_in_field}
use Rattle.properties.proofs.branch.tried.Goals as goal
use Rattle.properties.proofs.branch.tried.Goals.{After-has_kernel, Start}

-- as many lines as the mask has ones
sized : (c : Start) → ones c.args.lines ≡ length (chosen c.args.n c.args.lines)
sized c = sym (chosen_ones c.args.n c.args.lines c.requires.3)

few : (c : Start) → ones c.args.lines ≤ c.args.n
few c = ones-le c.args.n c.args.lines c.requires.3

pub overflow_cast-r : goal.overflow_cast-r
overflow_cast-r c = record { fits = omega (arith, few (goal.at.overflow_cast-r c).Start) }

pub overflow_sub-size : goal.overflow_sub-size
overflow_sub-size c = few (goal.at.overflow_sub-size c).Start

pub overflow_add-size : goal.overflow_add-size
overflow_add-size c = record { fits = omega arith }

pub returns-then-best-size : goal.returns-then-best-size
returns-then-best-size c =
    let args = c.args in
    lowered_skip (lines_kernel (numbers args.table.now.polynomial) (elements args.table.now.polynomial) args.n args.c (entry args.narrow) args.lines)
    (args.c + (args.n - length (chosen args.n args.lines))) args.best (rw (sized (goal.at.returns-then-best-size c).Start) at c.if-best-size.true)

pub chosen_lines-block-requires : goal.chosen_lines-block-requires
chosen_lines-block-requires c = mask_fits c.args.n c.args.lines c.requires.0 c.requires.3

pub has_kernel-requires : goal.has_kernel-requires
has_kernel-requires c =
    let args = c.args in (
      omega (arith, few (goal.at.has_kernel-requires c).Start),
      c.requires.1,
      lines_in_field args.table.now.polynomial args.n args.c args.lines args.narrow c.chosen_lines-block.result c.requires.0 c.requires.3 c.chosen_lines-block.ensures c.requires.2,
    )

-- what the elimination decides
decided : (c : After-has_kernel)
    → c.has_kernel.result
    ≡ lines_kernel (numbers c.args.table.now.polynomial) (elements c.args.table.now.polynomial) c.args.n c.args.c
    (entry c.args.narrow) c.args.lines
decided c =
    let args = c.args in
    let pre = c.requires in
    c.has_kernel.ensures
    ∙ lines_kernel_holds args.table.now.polynomial args.n args.c args.lines args.narrow c.chosen_lines-block.result pre.0 pre.3 c.chosen_lines-block.ensures

pub returns-then-has_kernel : goal.returns-then-has_kernel
returns-then-has_kernel c =
    let args = c.args in
    ap (λ (r : ℕ). args.c + (args.n - r)) (sized (goal.at.returns-then-has_kernel c).Start)
    ∙ lowered_true (lines_kernel (numbers args.table.now.polynomial) (elements args.table.now.polynomial) args.n args.c (entry args.narrow) args.lines)
    (args.c + (args.n - length (chosen args.n args.lines))) args.best
    (sym (decided (goal.at.returns-then-has_kernel c).After-has_kernel) ∙ c.if-has_kernel.true)
    (rw (sized (goal.at.returns-then-has_kernel c).Start) at (le_of_lt c.if-best-size.false))

pub returns-else-has_kernel : goal.returns-else-has_kernel
returns-else-has_kernel c =
    let args = c.args in
    lowered_false (lines_kernel (numbers args.table.now.polynomial) (elements args.table.now.polynomial) args.n args.c (entry args.narrow) args.lines)
    (args.c + (args.n - length (chosen args.n args.lines))) args.best (sym (decided (goal.at.returns-else-has_kernel c).After-has_kernel) ∙ c.if-has_kernel.false)
