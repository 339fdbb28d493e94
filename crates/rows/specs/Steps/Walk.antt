-- The fold over the rows behind a prefix.
use Rattle.std.specs.Prelude.{Bool, List, [], ◌∷◌, ◌++◌, map, ℕ}
use Rattle.algebra.specs.Matrix.{words}
use Rattle.rows.specs.Lightest.{Best, keep_all}

-- all rows that begin with the prefix and have k letters behind it, in dictionary order
unfoldable pub completions : List ℕ → List ℕ → ℕ → List (List ℕ)
completions letters prefix k = map (λ w. prefix ++ w) (words letters k)

-- the row kept after all completions whose next letter is one of the firsts, a first after the other
unfoldable pub branches : (List ℕ → Bool) → (List ℕ → ℕ) → List ℕ → List ℕ → ℕ → Best → List ℕ → Best
branches good key letters prefix k best [] = best
branches good key letters prefix k best (a ∷ firsts) =
    branches good key letters prefix k (keep_all good key best (completions letters (prefix ++ a ∷ []) k)) firsts
