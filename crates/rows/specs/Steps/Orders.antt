-- The orders of the searches. Nobody need believe these: `order_of_holds` and `circulant_order_of` of crates/search/proofs/Refusals.antt
-- tie them to the refusals of a search.
use Rattle.std.specs.Prelude.{◌≡◌, ◌⊎◌, ℕ, ◌≤◌}

-- the orders of a search for a Hadamard matrix
abbrev pub SearchOrder : ℕ → Type 0
SearchOrder n = (n ≡ 4) ⊎ (n ≡ 8)

-- the orders of a search for a circulant matrix
abbrev pub CirculantOrder : ℕ → Type 0
CirculantOrder n = (2 ≤ n) × (n ≤ 8)
