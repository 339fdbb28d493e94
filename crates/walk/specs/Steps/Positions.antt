-- Where the walk of the code stands: the struct of a brief after some number of rows. Nobody need believe these: `brief_told` of proofs/Telling.antt
-- ties them to the definition of a walk.
use Rattle.std.specs.Prelude.{◌≡◌, ℕ, ◌^◌, ◌<◌, ◌≤◌, min, length, take, Option, slice_get}
use Rattle.std.specs.Option.{option_map}
use mathlib.Core.List.{List, Memᴰ}
use Rattle.algebra.specs.Matrix.{words}
use Rattle.field.specs.Polynomial.{Modulus, degree}
use Rattle.rows.specs.Lightest.{lightest}
use Rattle.rows.specs.Shape.{is_good, hadamard_shape}
use Rattle.rows.specs.Keys.{key_of}
use Rattle.rows.specs.Walks.{differing, Walked, walk_over}
use Rattle.rows.specs.Steps.Orders.{SearchOrder}
use Rattle.lightest.specs.Steps.Letters.{count_table, known}
use Rattle.lightest.specs.Steps.Prefix.{kept}
use Rattle.walk.specs.declared.Position.{Position}
use Rattle.walk.specs.declared.Walk.{Walk}
use Rattle.walk.specs.declared.Tables.{Tables}
use Rattle.walk.specs.Steps.Successors.{rank_table, eight}

-- the rows of n different letters, in dictionary order
unfoldable pub rows_of : List ℕ → ℕ → List (List ℕ)
rows_of letters n = differing (words letters n)

-- the array of the row behind the first t; none where none is left
abbrev pub next_after : ℕ → List (List ℕ) → ℕ → Option (List ℕ)
next_after n rows t = option_map (eight n) (slice_get rows t)

-- after t rows: the next row; how many rows are tried; and the best of them
unfoldable pub position_at : ℕ → ℕ → List ℕ → ℕ → Position
position_at p n letters t =
    record {
      row = next_after n (rows_of letters n) t;
      tried = min t (length (rows_of letters n));
      best = kept p n (lightest (is_good hadamard_shape p n) (key_of p n) (take t (rows_of letters n)));
    }

-- the letters of a brief, which are nonzero elements: those that the table of their counts knows, ascending
pub record Lettered (p n : ℕ) (letters counts : List ℕ) : Type 0 where
  pub modulus : Modulus p
  pub order : SearchOrder n
  pub table : counts ≡ count_table p letters
  pub listed : letters ≡ known counts (2 ^ degree p)
  pub positive : (a : ℕ) → Memᴰ a letters → 0 < a

-- what does not change while rows are tried: the letters, the tables made of them, and one field for the products and the ones
pub record Tabled (p ones n : ℕ) (letters counts ranks : List ℕ) : Type 0 where
  pub lettered : Lettered p n letters counts
  pub ranked : ranks ≡ rank_table letters
  pub same_field : ones ≡ p

abbrev pub TablesOf : Tables → Type 0
TablesOf t = Tabled t.table.now.polynomial t.ones.now.polynomial t.order t.letters.now t.counts.now t.ranks.now

-- a position of the walk: that after the rows which it has tried
unfoldable pub StandsAt : ℕ → ℕ → List ℕ → Position → Type 0
StandsAt p n letters at = (at.tried ≤ length (rows_of letters n)) × (at ≡ position_at p n letters at.tried)

-- the letters of a walk
abbrev pub letters_of : Walk → List ℕ
letters_of walk = known walk.counts (2 ^ degree walk.polynomial)

-- where a walk stands, by the definition of a walk
abbrev pub walked_of : Walk → Walked
walked_of walk =
    walk_over (is_good hadamard_shape walk.polynomial walk.order) (key_of walk.polynomial walk.order) (rows_of (letters_of walk) walk.order) walk.position.tried

-- a struct that is a walk: its brief, and where it stands
pub record IsWalk (walk : Walk) : Type 0 where
  pub lettered : Lettered walk.polynomial walk.order (letters_of walk) walk.counts
  pub standing : StandsAt walk.polynomial walk.order (letters_of walk) walk.position

-- the walk of a brief after t rows
unfoldable pub walk_at : ℕ → ℕ → List ℕ → ℕ → Walk
walk_at p n counts t = record { polynomial = p; order = n; counts = counts; position = position_at p n (known counts (2 ^ degree p)) t }
