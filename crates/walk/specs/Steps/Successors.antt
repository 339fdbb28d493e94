-- The rows of different letters one after the other, as the code finds them: the row behind a row. Nobody need believe these: `row_behind_holds` of
-- proofs/Behind.antt ties them to the list of all such rows.
use Rattle.std.specs.Prelude.{◌≡◌, not, cond, ◌&&◌, List, [], ◌∷◌, ◌++◌, ℕ, zero, suc, ◌-◌, ◌≤◌, ◌<◌, eqb, ltb, length, get_or, take, replicate, Option, MatchOption}
use Rattle.algebra.specs.Matrix.{tabulate}
use Rattle.rows.specs.Lightest.{member}

-- the least letter above a that is not used; 0 where there is none
unfoldable pub free_above : List ℕ → List ℕ → ℕ → ℕ
free_above [] used a = 0
free_above (x ∷ letters) used a = cond (ltb a x && not (member x used)) x (free_above letters used a)

-- how many of the first letters are below a: of ascending letters, all that are
unfoldable pub count_below : List ℕ → ℕ → ℕ
count_below [] a = 0
count_below (x ∷ letters) a = cond (ltb x a) (suc (count_below letters a)) 0

-- for each number below 256 how many letters are not above it
unfoldable pub rank_table : List ℕ → List ℕ
rank_table letters = tabulate 256 (λ a. count_below letters (suc a))

-- the letters ascend
unfoldable pub Ascend : List ℕ → Type 0
Ascend letters = (i j : ℕ) → i < j → j < length letters → get_or letters i 0 < get_or letters j 0

-- letters that ascend, and the table of their ranks
pub record Ranked (letters ranks : List ℕ) : Type 0 where
  pub ascend : Ascend letters
  pub table : ranks ≡ rank_table letters

-- a row of n entries as an array of eight, with zeros behind it
abbrev pub eight : ℕ → List ℕ → List ℕ
eight n row = row ++ replicate (8 - n) 0

-- the prefix with k letters behind it, each of them the least that is free
unfoldable pub filled_up : List ℕ → List ℕ → ℕ → List ℕ
filled_up letters prefix zero = prefix
filled_up letters prefix (suc k) = filled_up letters (prefix ++ free_above letters prefix 0 ∷ []) k

-- the letter v behind the prefix, filled up with k letters; where v is 0, the other row
unfoldable pub raised_or : List ℕ → List ℕ → ℕ → ℕ → List ℕ → List ℕ
raised_or letters prefix k v other = cond (eqb v 0) other (filled_up letters (prefix ++ v ∷ []) k)

-- the row behind a row of n entries, where one of the first i is raised: the last that can be; all zeros where none can be
unfoldable pub raised_below : List ℕ → ℕ → List ℕ → ℕ → List ℕ
raised_below letters n row zero = replicate n 0
raised_below letters n row (suc i) =
    raised_or letters (take i row) (n - suc i) (free_above letters (take i row) (get_or row i 0)) (raised_below letters n row i)

-- the row behind a row of n entries; all zeros behind the last
unfoldable pub row_behind : List ℕ → ℕ → List ℕ → List ℕ
row_behind letters n row = raised_below letters n row n

-- the array of the row behind a row, of which some entry is not 0; nothing behind the last
abbrev pub BehindIs : List ℕ → ℕ → List ℕ → Option (List ℕ) → Type 0
BehindIs letters n row found =
    MatchOption found (row_behind letters n row ≡ replicate n 0) (λ r. (r ≡ eight n (row_behind letters n row)) × ((i : ℕ) × (i < n) × (0 < get_or r i 0)))

-- the first row of n entries; all zeros where there are fewer letters
unfoldable pub first_row : List ℕ → ℕ → List ℕ
first_row letters n = cond (ltb (length letters) n) (replicate n 0) (filled_up letters [] n)

-- the array of the first row; nothing where there are fewer letters
abbrev pub FirstIs : List ℕ → ℕ → Option (List ℕ) → Type 0
FirstIs letters n found = MatchOption found (length letters < n) (λ r. (n ≤ length letters) × (r ≡ eight n (first_row letters n)))
