-- `lines::figure::Ones::line_figure` meets its contract: after i turns the figures of the first i entries are added up. Assumes nothing.
use mathlib.Core.Path.{◌≡◌, ap, ap₂, subst₂, sym, ◌∙◌}
use Prim.Native.Nat.{ℕ}
use native.Mathlib.Omega.{arith}
use lib.ListN.{get_or}
use Rattle.std.proofs.Common.{rules}
use Rattle.field.specs.Polynomial.{xor_count}
use Rattle.lines.specs.Numbers.{WordsInField}
use Rattle.lines.specs.Steps.Figures.{CountsOf, figure_of, figure_sum, Addable}
use Rattle.lines.proofs.Filled.{front_at, front_length}
use Rattle.lines.proofs.Figures.{figure_none, figure_more, figure_addable}
use Rattle.lines.proofs.figure.Ones.line_figure.Goals as goal

pub loop-a-init : goal.loop-a-init
loop-a-init c = figure_none c.args.self.now.polynomial _

pub figure-requires : goal.figure-requires
unfolding WordsInField CountsOf
figure-requires c =
    let i = c.loop-a.a-index in
    let at = front_at c.args.n i c.args.line 0 c.loop-a-test.true in (
      rw at.1 (c.requires.1 i at.0),
      c.from-count.ensures
          ∙ ap (λ (a : ℕ). get_or c.args.counts.now a 0) (c.from.ensures ∙ at.1)
          ∙ c.requires.2 i at.0
          ∙ ap (xor_count c.args.self.now.polynomial) (sym at.1),
    )

pub plus-figure-requires : goal.plus-figure-requires
plus-figure-requires c =
    let self = c.args.self.now in
    let at = front_at c.args.n c.loop-a.a-index c.args.line 0 c.loop-a-test.true in
    subst₂ Addable (sym c.loop-a.invariant) (sym c.figure.ensures)
    (figure_addable self.polynomial c.loop-a.a-index _ _ self.modulus (omega (arith, at.0, c.requires.0)))

pub loop-a-preserved : goal.loop-a-preserved
loop-a-preserved c =
    let p = c.args.self.now.polynomial in
    let at = front_at c.args.n c.loop-a.a-index c.args.line 0 c.loop-a-test.true in
    c.plus-figure.ensures
    ∙ ap₂ figure_sum c.loop-a.invariant (c.figure.ensures ∙ ap (figure_of p) at.1)
    ∙ figure_more p c.loop-a.a-index _

pub returns : goal.returns
returns c =
    let all : c.loop-a.a-index ≡ c.args.n = omega (arith, front_length c.args.n c.args.line c.requires.0 (search rules)) in
    rw all at c.loop-a.invariant
