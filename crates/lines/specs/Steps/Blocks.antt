-- Arrays of which the first places count: those of lists, lines and blocks, and zeros elsewhere. Assumes nothing.
use Rattle.std.specs.Prelude.{List, ◌++◌, ℕ, ◌-◌, replicate}
use Rattle.algebra.specs.Matrix.{tabulate}

-- f 0, f 1, .. f (n - 1), and z up to so many places
abbrev pub filled_to : {A : Type 0} → ℕ → A → (ℕ → A) → ℕ → List A
filled_to size z f n = tabulate n f ++ replicate (size - n) z

-- up to eight places
abbrev pub filled : {A : Type 0} → A → (ℕ → A) → ℕ → List A
filled z f n = filled_to 8 z f n

-- the entries of a block of r lines and c columns, zeros elsewhere
unfoldable pub framed : ℕ → ℕ → (ℕ → ℕ → ℕ) → List (List ℕ)
framed r c f = filled (replicate 8 0) (λ i. filled 0 (f i) c) r
