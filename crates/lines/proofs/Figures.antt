-- The figures of elements and of lines: a line's figure is the sum of its elements' (`figure_more`), it fits the struct (`figure_addable`), and its
-- ones tell the line's depth (`figure_depth`). Assumes nothing.
use mathlib.Core.Path.{◌≡◌, refl, sym, ap, ap₂, ◌∙◌}
use mathlib.Core.List.{List}
use Prim.Native.Nat.{ℕ, ◌+◌, ◌*◌, ◌/◌, ◌%◌, ◌^◌, ◌≤◌, ◌<◌}
use native.Mathlib.Nat.{le_trans, mul-le-mul}
use native.Mathlib.Omega.{arith}
use lib.ListN.{get_or, replicate}
use Rattle.algebra.specs.Matrix.{tabulate}
use Rattle.algebra.proofs.Words.{get_d_tabulate, tabulate_cong}
use Rattle.field.specs.Polynomial.{Modulus, degree}
use Rattle.field.proofs.Degrees.{polynomial}
use Rattle.lines.specs.declared.figure.Figure.{Figure}
use Rattle.lines.specs.Counts.{total, element_count}
use Rattle.lines.specs.Depths.{ones_in_line, output_ones, depth_of, greatest, line_depth}
use Rattle.lines.specs.Steps.Figures.{ones_table, figure_of, line_figure, figure_sum, Addable, depth_of_ones}
use Rattle.lines.proofs.Filled.{get_d_filled_to}
use Rattle.lines.proofs.Tallies.{xor_count_le, element_count_le, element_count_cong, element_count_step, total_step}
use Rattle.lines.proofs.Depths.{line_most, output_most, output_cong, greatest_cong, depth_of_eight}

-- a count and the ones
abbrev pub as_figure : ℕ → List ℕ → Figure
as_figure count ones = record { count = count; ones = ones }

-- the ones that the figures hold for output bit b
pub element_at : (p a b : ℕ) → b < 8 → get_or (figure_of p a).ones b 0 ≡ ones_in_line p a b
unfolding figure_of
element_at p a b l = get_d_tabulate 8 (ones_in_line p a) b 0 l

pub line_at : (p n b : ℕ) (line : ℕ → ℕ) → b < 8 → get_or (line_figure p n line).ones b 0 ≡ output_ones p n line b
unfolding line_figure
line_at p n b line l = get_d_tabulate 8 (output_ones p n line) b 0 l

-- what the table has for an element
pub table_ones : (p a b : ℕ) (table : List ℕ) → table ≡ ones_table p → a < 2 ^ degree p → b < 8 → get_or table (a * 8 + b) 0 ≡ ones_in_line p a b
unfolding ones_table
table_ones p a b table e l k =
    let high : (a * 8 + b) / 8 ≡ a = omega arith in
    let low : (a * 8 + b) % 8 ≡ b = omega arith in
    ap (λ (t : List ℕ). get_or t (a * 8 + b) 0) e
    ∙ get_d_filled_to 2048 0 (λ i. ones_in_line p (i / 8) (i % 8)) (8 * 2 ^ degree p) (a * 8 + b) (omega arith) 0
    ∙ ap₂ (ones_in_line p) high low

-- a line without entries
pub figure_none : (p : ℕ) (line : ℕ → ℕ) → as_figure 0 (replicate 8 0) ≡ line_figure p 0 line
unfolding line_figure element_count output_ones total tabulate
figure_none p line = refl

-- figures of lines that agree below n
pub figure_cong : (p n : ℕ) (row row' : ℕ → ℕ) → ((j : ℕ) → j < n → row j ≡ row' j) → line_figure p n row ≡ line_figure p n row'
unfolding line_figure
figure_cong p n row row' e = ap₂ as_figure (element_count_cong p n row row' e) (tabulate_cong 8 _ _ (λ b l. output_cong p n b row row' e))

output_step : (p n b : ℕ) (row : ℕ → ℕ) → output_ones p n row b + ones_in_line p (row n) b ≡ output_ones p (n + 1) row b
unfolding output_ones
output_step p n b row = sym (total_step n (λ j. ones_in_line p (row j) b))

-- one element more
pub figure_more : (p n : ℕ) (row : ℕ → ℕ) → figure_sum (line_figure p n row) (figure_of p (row n)) ≡ line_figure p (n + 1) row
unfolding figure_sum line_figure figure_of
figure_more p n row =
    ap₂ as_figure (sym (element_count_step p n row))
    (tabulate_cong 8 _ _ λ b l.
    ap₂ ◌+◌ (get_d_tabulate 8 (output_ones p n row) b 0 l) (get_d_tabulate 8 (ones_in_line p (row n)) b 0 l) ∙ output_step p n b row)

-- the sum with one element more fits the struct, up to order 8
pub figure_addable : (p n a : ℕ) (row : ℕ → ℕ) → Modulus p → n ≤ 8 → Addable (line_figure p n row) (figure_of p a)
unfolding line_figure figure_of
figure_addable p n a row h l =
    record {
      counts = omega (arith, element_count_le p n row h, xor_count_le p a h);
      ones = λ b k.
          omega (
            arith,
            line_at p n b row k,
            element_at p a b k,
            le_trans (output_most p n b row) (mul-le-mul {n₂ = 8} {m₂ = 8} (polynomial p h).most l),
            le_trans (line_most p a b) (polynomial p h).most,
          );
    }

-- the greatest number of ones, and the depth
pub figure_greatest : (p n : ℕ) (line : ℕ → ℕ) → greatest 8 (λ b. get_or (line_figure p n line).ones b 0) ≡ greatest 8 (output_ones p n line)
figure_greatest p n line = greatest_cong 8 _ _ (λ b l. line_at p n b line l)

pub figure_depth : (p n : ℕ) (line : ℕ → ℕ) → Modulus p → depth_of_ones (line_figure p n line).ones ≡ line_depth p n line
unfolding depth_of_ones
figure_depth p n line h = ap depth_of (figure_greatest p n line) ∙ depth_of_eight p n line h
