-- `lightest::prefix::Search::is_heavy` meets its contract. Assumes nothing.
use mathlib.Core.Path.{sym, ap, ◌∙◌}
use Prim.Native.Nat.{ℕ}
use lib.Dec.{leb}
use lib.ListN.{get_or}
use Rattle.lines.specs.Steps.Figures.{least_depth}
use Rattle.lightest.proofs.Prefixes.{heavy_none, heavy_counts, heavy_depths}
use Rattle.lightest.proofs.prefix.Search.is_heavy.Goals as goal

pub returns-in_default : goal.returns-in_default
returns-in_default c = sym (heavy_none c.args.best _ _ c.in_default.is)

pub returns-then-kept-bound : goal.returns-then-kept-bound
returns-then-kept-bound c = sym (heavy_counts c.args.best _ _ c.in-Some.kept c.in-Some.is c.if-kept-bound.true)

pub returns : goal.returns
returns c =
    let s = c.args.self.now in
    let told = c.least_depth-depth.ensures ∙ ap (λ (p : ℕ). least_depth p s.order (λ j. get_or c.args.at.row j 0) c.args.at.level c.args.bound) s.same_field in
    ap (leb c.in-Some.kept.depth) told ∙ sym (heavy_depths c.args.best _ _ c.in-Some.kept c.in-Some.is c.if-kept-bound.false)
