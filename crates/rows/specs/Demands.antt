-- Demand 3, what request Six asks of circulant rows, and request Seven of the rows tried, in the customer's words. Assumes nothing.
use Rattle.std.specs.Prelude.{◌≡◌, ◌≢◌, true, ℕ, suc, ◌<◌, length, get_or, take}
use mathlib.Core.List.{List, Memᴰ}
use Rattle.algebra.specs.Matrix.{hadamard, circulant, branch_number, is_involution}
use Rattle.lines.specs.Numbers.{numbers, elements}
use Rattle.lines.specs.Counts.{row_count}
use Rattle.rows.specs.declared.Family.{Family}
use Rattle.rows.specs.declared.Family.TheVariants.{Hadamard, Circulant}
use Rattle.rows.specs.Lightest.{Earlier}
use Rattle.rows.specs.Keys.{depth_of_row}
use Rattle.rows.specs.Walks.{arrangements}

-- the XOR count of a row
abbrev pub count_of_row : ℕ → ℕ → List ℕ → ℕ
count_of_row p n row = row_count p n (λ j. get_or row j 0)

-- r is before s: s has a larger XOR count; or the same count and a greater depth; or both the same and a later place in dictionary order
pub data Before (p n : ℕ) (r s : List ℕ) : Type 0 where
  by_count : count_of_row p n r < count_of_row p n s → Before p n r s
  by_depth : count_of_row p n r ≡ count_of_row p n s → depth_of_row p n r < depth_of_row p n s → Before p n r s
  by_place : count_of_row p n r ≡ count_of_row p n s → depth_of_row p n r ≡ depth_of_row p n s → Earlier r s → Before p n r s

-- of the rows that have something: one that is before every other
pub record FirstOf (Has : List ℕ → Type 0) (p n : ℕ) (row : List ℕ) : Type 0 where
  pub has : Has row
  pub first : (s : List ℕ) → Has s → s ≢ row → Before p n row s

-- a row over the brief's elements with both properties: n entries, each of them a candidate; its Hadamard matrix is an involution
-- with branch number order plus one
pub record Both (p n : ℕ) (candidates row : List ℕ) : Type 0 where
  pub entries : length row ≡ n
  pub over : (a : ℕ) → Memᴰ a row → Memᴰ a candidates
  pub involution : is_involution (numbers p) (elements p) n (hadamard (numbers p) row) ≡ true
  pub branch : branch_number (numbers p) (elements p) n (hadamard (numbers p) row) ≡ suc n

-- a row with both properties among the rows of different candidates that a walk of the budget tries
pub record TriedBoth (p n : ℕ) (candidates : List ℕ) (budget : ℕ) (row : List ℕ) : Type 0 where
  pub is_tried : Memᴰ row (take budget (arrangements p n candidates))
  pub both : Both p n candidates row

-- a row over the brief's elements whose circulant matrix is MDS: n entries, each of them a candidate, which may stand several times; its
-- circulant matrix has branch number order plus one
pub record CirculantMds (p n : ℕ) (candidates row : List ℕ) : Type 0 where
  pub entries : length row ≡ n
  pub over : (a : ℕ) → Memᴰ a row → Memᴰ a candidates
  pub branch : branch_number (numbers p) (elements p) n (circulant (numbers p) n row) ≡ suc n

-- what a search asks of a row, by the family of its matrices
abbrev pub Asks : Family → ℕ → ℕ → List ℕ → List ℕ → Type 0
Asks Hadamard p n candidates row = Both p n candidates row
Asks Circulant p n candidates row = CirculantMds p n candidates row

-- the row demanded: a row with what is asked that is before every other row with it
abbrev pub Demanded : Family → ℕ → ℕ → List ℕ → List ℕ → Type 0
Demanded family p n candidates row = FirstOf (Asks family p n candidates) p n row
