-- `matrix::block::regular_of_size` meets its contract: every choice of columns before `columns`, and with `columns` every choice of lines
-- before `lines`, gave a regular block. Assumes nothing.
use mathlib.Core.Path.{◌≡◌, ap, ◌∙◌}
use Prim.Native.Nat.{ℕ, ◌-◌, ◌*◌, ◌%◌, ◌^◌, ◌≤◌, ◌<◌}
use native.Mathlib.Omega.{arith}
use borrow.Author.Tests.{le-leb, lt-leb}
use lib.Pow.{pow_mono}
use Rattle.algebra.specs.Matrix.{det, chosen, block}
use Rattle.lines.specs.Numbers.{numbers, entry}
use Rattle.matrix.specs.Steps.Choice.{line_of}
use Rattle.matrix.proofs.Masks.{next_later}
use Rattle.matrix.proofs.Regularity.{passed_none, passed_more, Both, both, other_lines, other_columns, columns_passed}
use Rattle.matrix.proofs.Regularity.{all_passed, block_regular, one_singular, square_in_field, square_det}
use Rattle.matrix.proofs.Selections.{shifted}
use Rattle.matrix.proofs.block.regular_of_size.Goals as goal
use Rattle.matrix.proofs.block.regular_of_size.Goals.{else-choices-test, then-choices-test+then-loop-lines-test+then-determinant-eq0, After-chosen_columns-narrow, After-determinant, In-loop-lines, Start, Then-determinant-eq0}

-- the masks end at 2^n, at most 256; the first choice of n is 2^n - 1
module _ (n : ℕ) (h : n ≤ 8) where
  most : 2 ^ n ≤ 256
  most = pow_mono {j = 8} h

  below : (x : ℕ) → x < 1 * 2 ^ n % 65536 → x < 2 ^ n
  below x l = omega (arith, shifted n h)

  first : 1 * 2 ^ n % 65536 - 1 ≡ 2 ^ n - 1
  first = ap (λ (x : ℕ). x - 1) (shifted n h)

  past : (x : ℕ) → 1 * 2 ^ n % 65536 ≤ x → 2 ^ n ≤ x
  past x l = omega (arith, shifted n h)

pub choices-init : goal.choices-init
choices-init c =
    let a = c.args in
    let look = line_of a.look in
    let few : a.k ≤ 8 = omega arith in
    passed_none look (2 ^ a.n) a.k _ (other_columns a.table.now.polynomial a.n a.k (entry a.m) look) _ c.requires.4 c.requires.1 few (first a.k few)

pub loop-lines-init : goal.loop-lines-init
loop-lines-init c =
    let a = c.args in
    let few : a.k ≤ 8 = omega arith in
    passed_none 0 (2 ^ a.n) a.k _ (other_lines a.table.now.polynomial a.n a.k (entry a.m) c.choices.columns) _ (omega arith) c.requires.1 few (first a.k few)

-- a turn of the inner loop: the arguments, and the two masks
abbrev given : (c : In-loop-lines) → Start
given c = c.before.before.before.before.before

abbrev columns_of : (c : In-loop-lines) → ℕ
columns_of c = c.choices.columns

abbrev lines_of : (c : In-loop-lines) → ℕ
lines_of c = c.loop-lines.lines

-- both masks are choices
turn : (c : In-loop-lines) → Both (line_of (given c).args.look) (given c).args.n (given c).args.k (lines_of c) (columns_of c)
turn c =
    let a = (given c).args in
    let size = (given c).requires.0 in
    let hl = below a.n size (lines_of c) c.loop-lines-test.true in
    let hc = below a.n size (columns_of c) c.choices-test.true in
    both (line_of a.look) a.n a.k (lines_of c) (columns_of c) (most a.n size) hl hc (c.loop-lines.invariant.found hl) (c.choices.invariant.found hc)

pub determinant-requires : goal.determinant-requires
determinant-requires c =
    let t = (goal.at.determinant-requires c).In-loop-lines in
    let a = (given t).args in
    let pre = (given t).requires in (
      omega (arith, pre.0, pre.2),
      square_in_field (line_of a.look) a.table.now.polynomial a.n a.k (lines_of t) (columns_of t) a.m c.chosen_columns-narrow.result c.chosen_lines.result
          pre.0 (turn t) c.chosen_columns-narrow.ensures c.chosen_lines.ensures pre.3,
    )

-- the determinant of the block of both
abbrev det_of : (c : In-loop-lines) → ℕ
det_of c =
    let a = (given c).args in
    det (numbers a.table.now.polynomial) a.k (block (entry a.m) (chosen a.n (lines_of c)) (chosen a.n (columns_of c)))

-- it is what the call returns
chosen_det : (c : After-determinant) → c.determinant.result ≡ det_of c.before.before
chosen_det c =
    let t = c.before.before in
    let a = (given t).args in
    square_det (line_of a.look) a.table.now.polynomial a.n a.k (lines_of t) (columns_of t) a.m t.chosen_columns-narrow.result c.chosen_lines.result
    (given t).requires.0 (turn t) t.chosen_columns-narrow.ensures c.chosen_lines.ensures c.determinant.result c.determinant.ensures

pub loop-lines-smaller : goal.loop-lines-smaller
loop-lines-smaller c = grind (arith, next_later)

pub loop-lines-preserved : goal.loop-lines-preserved
loop-lines-preserved c =
    let t = (goal.at.loop-lines-preserved c).In-loop-lines in
    let a = (given t).args in
    let p = a.table.now.polynomial in
    passed_more 0 (2 ^ a.n) a.k _ (other_lines p a.n a.k (entry a.m) (columns_of t)) (lines_of t) c.next_choice-lines.result
    (most a.n (given t).requires.0) (turn t).lines_below c.loop-lines.invariant
    (block_regular p a.n a.k (entry a.m) (line_of a.look) (columns_of t) (lines_of t) c.determinant.result
    (chosen_det (goal.at.loop-lines-preserved c).After-determinant) c.if-determinant-eq0.false)
    c.next_choice-lines.ensures

pub choices-smaller : goal.choices-smaller
choices-smaller c = grind (arith, next_later)

pub choices-preserved : goal.choices-preserved
choices-preserved c =
    let a = c.args in
    let p = a.table.now.polynomial in
    let look = line_of a.look in
    let size = c.requires.0 in
    let lines = c.loop-lines in
    let columns = c.choices in
    passed_more look (2 ^ a.n) a.k _ (other_columns p a.n a.k (entry a.m) look) columns.columns c.next_columns-columns.result
    (most a.n size) (below a.n size columns.columns c.choices-test.true) columns.invariant
    (columns_passed p a.n a.k (entry a.m) look columns.columns lines.lines lines.invariant (past a.n size lines.lines c.loop-lines-test.false))
    c.next_columns-columns.ensures

pub returns : goal.returns
returns c =
    let a = c.args in
    let p = a.table.now.polynomial in
    let look = line_of a.look in
    let size = c.requires.0 in
    let columns = c.choices in
    elim c.choices-test.branch [
      | else-choices-test w ↦
          le-leb (1 * 2 ^ a.n % 65536) columns.columns w.choices-test.false
          ∙ all_passed p a.n a.k (entry a.m) look columns.columns columns.invariant (past a.n size columns.columns w.choices-test.false)
      | then-choices-test+then-loop-lines-test+then-determinant-eq0 w ↦
          let lines = w.loop-lines.lines in
          let hl = below a.n size lines w.loop-lines-test.true in
          let hc = below a.n size columns.columns w.choices-test.true in
          let two = both look a.n a.k lines columns.columns (most a.n size) hl hc (w.loop-lines.invariant.found hl) (columns.invariant.found hc) in
          let is = square_det look p a.n a.k lines columns.columns a.m w.chosen_columns-narrow.result w.chosen_lines.result size two
          w.chosen_columns-narrow.ensures w.chosen_lines.ensures w.determinant.result w.determinant.ensures in
          lt-leb (1 * 2 ^ a.n % 65536) columns.columns w.choices-test.true
          ∙ one_singular p a.n a.k (entry a.m) look columns.columns lines w.determinant.result is two w.if-determinant-eq0.true
    ]
