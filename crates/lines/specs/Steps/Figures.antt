-- The figures of elements and of lines, as the structs that hold them, and what the first entries of a line tell of its depth. Nobody need believe these:
-- `figure_depth` of proofs/Figures.antt and `least_depth_le` of proofs/LineOnes.antt tie them to the definitions. Assumes nothing.
use Rattle.std.specs.Prelude.{◌≡◌, List, ℕ, ◌+◌, ◌-◌, ◌*◌, ◌/◌, ◌%◌, ◌^◌, ◌≤◌, ◌<◌, max, get_or}
use Rattle.algebra.specs.Matrix.{tabulate}
use Rattle.field.specs.Polynomial.{degree, xor_count}
use Rattle.lines.specs.declared.figure.Figure.{Figure}
use Rattle.lines.specs.Counts.{element_count}
use Rattle.lines.specs.Steps.Blocks.{filled_to}
use Rattle.lines.specs.Depths.{ones_in_line, output_ones, depth_of, greatest}

-- the table of the ones of every element: those of a for output bit b at place a · 8 + b; 0 behind them
unfoldable pub ones_table : ℕ → List ℕ
ones_table p = filled_to 2048 0 (λ i. ones_in_line p (i / 8) (i % 8)) (8 * 2 ^ degree p)

-- a table has the counts of the first n entries of a line
unfoldable pub CountsOf : ℕ → ℕ → List ℕ → List ℕ → Type 0
CountsOf p n counts line = (j : ℕ) → j < n → get_or counts (get_or line j 0) 0 ≡ xor_count p (get_or line j 0)

-- the figure of an element: its XOR count, and its ones for each output bit
unfoldable pub figure_of : ℕ → ℕ → Figure
figure_of p a = record { count = xor_count p a; ones = tabulate 8 (ones_in_line p a) }

-- the figure of a line of n entries: the sum of its elements' figures
unfoldable pub line_figure : ℕ → ℕ → (ℕ → ℕ) → Figure
line_figure p n line = record { count = element_count p n line; ones = tabulate 8 (output_ones p n line) }

-- the sum of two figures
unfoldable pub figure_sum : Figure → Figure → Figure
figure_sum x y = record { count = x.count + y.count; ones = tabulate 8 (λ b. get_or x.ones b 0 + get_or y.ones b 0) }

-- figures whose sum fits the struct
pub record Addable (x y : Figure) : Type 0 where
  pub counts : x.count + y.count ≤ 65535
  pub ones : (b : ℕ) → b < 8 → get_or x.ones b 0 + get_or y.ones b 0 ≤ 255

-- the depth that the greatest of eight numbers of ones makes
unfoldable pub depth_of_ones : List ℕ → ℕ
depth_of_ones ones = depth_of (greatest 8 (λ b. get_or ones b 0))

-- the ones that some output bit of n nonzero entries with this count has at least: no fewer than the average
unfoldable pub average_ones : ℕ → ℕ → ℕ → ℕ
average_ones p n count = n + (count + degree p - 1) / degree p

-- the depth of n nonzero entries with this count is at least this, whatever stands behind the first k: each entry adds a one to every output bit
unfoldable pub least_depth : ℕ → ℕ → (ℕ → ℕ) → ℕ → ℕ → ℕ
least_depth p n line k count = max (depth_of (greatest 8 (output_ones p k line) + (n - k))) (depth_of (average_ones p n count))
