-- The search, in the words of document 01: of all rows over the candidates, the one with the least key, the first in
-- dictionary order among equals. When a row is good and how heavy it is (its key) are parameters.
-- Assumes nothing.
use Rattle.std.specs.Prelude.{◌≡◌, Bool, true, false, cond, ◌&&◌, ◌||◌, List, [], ◌∷◌, ℕ, ◌<◌, ltb, eqb}
use Rattle.algebra.specs.Matrix.{up_to, words}
use Rattle.field.specs.Table.{keep_if}

-- ---- the rows

-- whether x is among the numbers
unfoldable pub member : ℕ → List ℕ → Bool
member x [] = false
member x (y ∷ ys) = eqb x y || member x ys

-- those of the numbers that are among the candidates
unfoldable pub among : List ℕ → List ℕ → List ℕ
among candidates [] = []
among candidates (x ∷ xs) = keep_if (member x candidates) x (among candidates xs)

-- the candidates below the bound, ascending, each of them one time
unfoldable pub ascending : ℕ → List ℕ → List ℕ
ascending bound candidates = among candidates (up_to bound)

-- all rows over the candidates, of n entries each, in dictionary order
unfoldable pub rows_over : ℕ → List ℕ → ℕ → List (List ℕ)
rows_over bound candidates n = words (ascending bound candidates) n

-- dictionary order: the first differing entry as a number, the smaller one earlier
pub data Earlier : List ℕ → List ℕ → Type 0 where
  differs : {a b : ℕ} {r s : List ℕ} → a < b → Earlier (a ∷ r) (b ∷ s)
  agrees : {a b : ℕ} {r s : List ℕ} → a ≡ b → Earlier r s → Earlier (a ∷ r) (b ∷ s)

-- ---- the lightest row

-- the best row yet
pub data Best : Type 0 where
  nothing : Best
  found : List ℕ → Best

-- whether r is strictly lighter than the row kept; any row is where none is kept
unfoldable pub lighter : (List ℕ → ℕ) → Best → List ℕ → Bool
lighter key nothing r = true
lighter key (found b) r = ltb (key r) (key b)

-- the row kept after r: r where it is good and strictly lighter than the row kept before
unfoldable pub keep : (List ℕ → Bool) → (List ℕ → ℕ) → Best → List ℕ → Best
keep good key best r = cond (good r && lighter key best r) (found r) best

-- the row kept after all the rows, one after the other
unfoldable pub keep_all : (List ℕ → Bool) → (List ℕ → ℕ) → Best → List (List ℕ) → Best
keep_all good key best [] = best
keep_all good key best (r ∷ rs) = keep_all good key (keep good key best r) rs

-- the lightest of the good rows, the first of them where several are equally light
unfoldable pub lightest : (List ℕ → Bool) → (List ℕ → ℕ) → List (List ℕ) → Best
lightest good key rows = keep_all good key nothing rows
