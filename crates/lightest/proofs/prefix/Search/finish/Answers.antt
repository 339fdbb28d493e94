-- `lightest::prefix::Search::finish` meets its contract. Assumes nothing.
use mathlib.Core.Path.{sym, ap, ◌∙◌}
use mathlib.Core.Bool.{cond}
use Prim.Native.Nat.{ℕ}
use lib.ListN.{take, get_or}
use Rattle.lines.specs.Steps.Figures.{line_figure}
use Rattle.rows.specs.Lightest.{found}
use Rattle.lightest.specs.Steps.Prefix.{kept, best_as}
use Rattle.lightest.proofs.Prefixes.{kept_row}
use Rattle.lightest.proofs.prefix.Search.finish.Goals as goal

pub returns-then-is_good : goal.returns-then-is_good
returns-then-is_good c =
    let figure = c.line_figure-figure in
    let s = c.args.self.now in
    let n = s.order in
    let told = figure.ensures ∙ ap (λ (p : ℕ). line_figure p n (λ j. get_or c.args.row j 0)) s.same_field in
    kept_row c.requires.0 figure.result told c.depth.result c.depth.ensures
    ∙ ap (λ t. kept s.table.polynomial n (cond t (found (take n c.args.row)) (best_as n c.args.best.now))) (sym (sym c.is_good.ensures ∙ c.if-is_good.true))
