-- `walk::judge::judged` meets its contract. Assumes nothing.
use mathlib.Core.Path.{◌≡◌, sym, ap, ◌∙◌}
use mathlib.Core.Bool.{Bool, true}
use mathlib.Core.List.{List}
use Prim.Native.Nat.{ℕ}
use lib.ListN.{get_or, take}
use Rattle.std.specs.Prelude.{Some}
use Rattle.lines.specs.Steps.Figures.{line_figure}
use Rattle.rows.specs.Lightest.{found}
use Rattle.cuts.specs.Steps.Cuts.{tried}
use Rattle.cuts.specs.Steps.Families.{hadamard_cuts}
use Rattle.cuts.proofs.HadamardCuts.{order_most}
use Rattle.lightest.specs.declared.Best.{Best as Kept}
use Rattle.lightest.specs.Steps.Prefix.{kept}
use Rattle.lightest.proofs.Prefixes.{kept_row}
use Rattle.walk.proofs.Judged.{tried_whole, keeps_bad, keeps_heavy, keeps_light}
use Rattle.walk.proofs.judge.judged.Goals as goal
use Rattle.walk.proofs.judge.judged.Goals.{After-depth-depth, Start}

-- the test of rows, and the row
abbrev good : Start → List ℕ → Bool
good s = tried (hadamard_cuts s.args.table.now.polynomial s.args.n) s.args.table.now.polynomial s.args.n

abbrev row : Start → List ℕ
row s = take s.args.n s.args.row

pub returns-then-not-is_tried : goal.returns-then-not-is_tried
returns-then-not-is_tried c =
    let test = c.is_tried in
    keeps_bad (good (goal.at.returns-then-not-is_tried c).Start) c.args.table.now.polynomial c.args.n c.args.best.now c.requires.3 (row (goal.at.returns-then-not-is_tried c).Start)
    (sym test.ensures ∙ c.if-not-is_tried.true)

pub line_figure-found-requires : goal.line_figure-found-requires
line_figure-found-requires c =
    (order_most c.args.n c.requires.0.order, rw c.requires.2 c.requires.0.in_field, rw c.requires.2 c.requires.1)

is_tried_holds : (c : After-depth-depth)
    → let p = c.args.table.now.polynomial in tried (hadamard_cuts p c.args.n) p c.args.n (take c.args.n c.args.row) ≡ true
is_tried_holds c = sym c.is_tried.ensures ∙ c.if-not-is_tried.false

-- with its sum and its depth
abbrev new : After-depth-depth → Kept
new c = record { row = c.args.row; count = c.line_figure-found.result.count; depth = c.depth-depth.result }

is_new : (c : After-depth-depth) → Some (new c) ≡ kept c.args.table.now.polynomial c.args.n (found (take c.args.n c.args.row))
is_new c =
    let figure = c.line_figure-found in
    kept_row (tried_whole c.requires.0 (is_tried_holds c)) figure.result
    (figure.ensures ∙ ap (λ (p : ℕ). line_figure p c.args.n (λ j. get_or c.args.row j 0)) c.requires.2) c.depth-depth.result c.depth-depth.ensures

pub returns-else-not-is_heavy : goal.returns-else-not-is_heavy
returns-else-not-is_heavy c =
    keeps_heavy (good (goal.at.returns-else-not-is_heavy c).Start) c.args.table.now.polynomial c.args.n c.args.best.now c.requires.3 (row (goal.at.returns-else-not-is_heavy c).Start) (is_tried_holds (goal.at.returns-else-not-is_heavy c).After-depth-depth)
    (new (goal.at.returns-else-not-is_heavy c).After-depth-depth) (is_new (goal.at.returns-else-not-is_heavy c).After-depth-depth) (sym c.is_heavy.ensures ∙ c.if-not-is_heavy.false)

pub returns-then-not-is_heavy : goal.returns-then-not-is_heavy
returns-then-not-is_heavy c =
    keeps_light (good (goal.at.returns-then-not-is_heavy c).Start) c.args.table.now.polynomial c.args.n c.args.best.now c.requires.3 (row (goal.at.returns-then-not-is_heavy c).Start) (is_tried_holds (goal.at.returns-then-not-is_heavy c).After-depth-depth)
    (new (goal.at.returns-then-not-is_heavy c).After-depth-depth) (is_new (goal.at.returns-then-not-is_heavy c).After-depth-depth) (sym c.is_heavy.ensures ∙ c.if-not-is_heavy.true)
