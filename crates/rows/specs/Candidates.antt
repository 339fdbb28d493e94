-- What is refused of a brief's values (document 01). To be believed. Assumes nothing.
use Rattle.std.specs.Prelude.{Bool, false, ◌||◌, List, [], ◌∷◌, ℕ}
use Rattle.field.specs.Faults.{is_too_large}
use Rattle.rows.specs.Lightest.{member}

-- 7: some value is 2^m or more
unfoldable pub some_too_large : ℕ → List ℕ → Bool
some_too_large p [] = false
some_too_large p (a ∷ rest) = is_too_large p a || some_too_large p rest

-- 8: some value stands more than one time
unfoldable pub some_repeated : List ℕ → Bool
some_repeated [] = false
some_repeated (a ∷ rest) = member a rest || some_repeated rest

-- 8: a candidate that is 0 or repeated
unfoldable pub some_bad : List ℕ → Bool
some_bad candidates = member 0 candidates || some_repeated candidates
