-- Steps of the code that contracts need. Nobody need believe these: theorems tie them to the definitions.
-- Assumes nothing.
use Rattle.std.specs.Prelude.{Bool, true, ◌&&◌, [], ◌∷◌, ℕ, zero, suc, get_or}

-- every number below n passes the test
unfoldable pub every_below : ℕ → (ℕ → Bool) → Bool
every_below zero test = true
every_below (suc n) test = every_below n test && test n

-- where the polynomials of degree m begin in the table
unfoldable pub start_of : ℕ → ℕ
start_of m = get_or (0 ∷ 0 ∷ 0 ∷ 1 ∷ 3 ∷ 6 ∷ 12 ∷ 21 ∷ 39 ∷ 69 ∷ []) m 69
