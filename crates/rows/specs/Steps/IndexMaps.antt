-- The index maps of Hadamard rows of order 4 and 8, and the canonical rows: every other good row is moved by one of the maps to an
-- earlier row that is as good and as light.
use Rattle.std.specs.Prelude.{Bool, true, cond, ◌&&◌, List, [], ◌∷◌, ℕ, ltb, eqb, get_or}
use Rattle.std.specs.Int.Bits.{bit_xor}
use Rattle.algebra.specs.Matrix.{tabulate}
use Rattle.field.specs.Steps.{every_below}

-- an inequality between the entries at two places, and an index map that moves a row which violates it to an earlier one
pub record Move : Type 0 where
  pub low : ℕ
  pub high : ℕ
  pub places : List ℕ

-- the place whose entry comes to place k
unfoldable pub from : Move → ℕ → ℕ
from m k = get_or m.places k 0

-- order 4: translation by 1, swap of index bits 0 and 1, and the linear map with 2 → 3
unfoldable pub maps_of_four : List Move
maps_of_four =
    record { low = 0; high = 1; places = 1 ∷ 0 ∷ 3 ∷ 2 ∷ [] }
    ∷ record { low = 1; high = 2; places = 0 ∷ 2 ∷ 1 ∷ 3 ∷ [] }
    ∷ record { low = 2; high = 3; places = 0 ∷ 1 ∷ 3 ∷ 2 ∷ [] }
    ∷ []

-- order 8: translation by 1, swap of index bits 0 and 1, 2 → 3, swap of bits 1 and 2, 4 → 5, 4 → 6 and 4 → 7
unfoldable pub maps_of_eight : List Move
maps_of_eight =
    record { low = 0; high = 1; places = 1 ∷ 0 ∷ 3 ∷ 2 ∷ 5 ∷ 4 ∷ 7 ∷ 6 ∷ [] }
    ∷ record { low = 1; high = 2; places = 0 ∷ 2 ∷ 1 ∷ 3 ∷ 4 ∷ 6 ∷ 5 ∷ 7 ∷ [] }
    ∷ record { low = 2; high = 3; places = 0 ∷ 1 ∷ 3 ∷ 2 ∷ 4 ∷ 5 ∷ 7 ∷ 6 ∷ [] }
    ∷ record { low = 2; high = 4; places = 0 ∷ 1 ∷ 4 ∷ 5 ∷ 2 ∷ 3 ∷ 6 ∷ 7 ∷ [] }
    ∷ record { low = 4; high = 5; places = 0 ∷ 1 ∷ 2 ∷ 3 ∷ 5 ∷ 4 ∷ 7 ∷ 6 ∷ [] }
    ∷ record { low = 4; high = 6; places = 0 ∷ 1 ∷ 2 ∷ 3 ∷ 6 ∷ 7 ∷ 4 ∷ 5 ∷ [] }
    ∷ record { low = 4; high = 7; places = 0 ∷ 1 ∷ 2 ∷ 3 ∷ 7 ∷ 6 ∷ 5 ∷ 4 ∷ [] }
    ∷ []

-- the moves of an order: no other order has any
unfoldable pub moves : ℕ → List Move
moves n = cond (eqb n 4) maps_of_four (cond (eqb n 8) maps_of_eight [])

-- the row after a move
unfoldable pub moved : ℕ → Move → List ℕ → List ℕ
moved n m row = tabulate n (λ k. get_or row (from m k) 0)

-- the entry at the lower place is the smaller
unfoldable pub in_order : List ℕ → Move → Bool
in_order row m = ltb (get_or row m.low 0) (get_or row m.high 0)

-- the test passes at each of the moves
unfoldable pub every_move : (Move → Bool) → List Move → Bool
every_move test [] = true
every_move test (m ∷ ms) = test m && every_move test ms

-- the canonical rows: order 4 h0 < h1 < h2 < h3; order 8 h0 < h1 < h2 < h3, h2 < h4, h4 < h5, h4 < h6 and h4 < h7
unfoldable pub canonical : ℕ → List ℕ → Bool
canonical n row = every_move (in_order row) (moves n)

-- ---- the computed test of the table

-- the lower place is below the higher one, that below n; places below the lower one stay, and the higher one's entry comes
-- to the lower place
unfoldable pub lowers : ℕ → Move → Bool
lowers n m =
    ltb m.low m.high
    && ltb m.high n
    && eqb (from m m.low) m.high
    && every_below m.low (λ i. eqb (from m i) i)

-- the images are below n, and the map is its own inverse
unfoldable pub turns_back : ℕ → Move → Bool
turns_back n m = every_below n (λ i. ltb (from m i) n && eqb (from m (from m i)) i)

-- the map is linear but for a translation
unfoldable pub affine : ℕ → Move → Bool
affine n m = every_below n (λ i. every_below n (λ j. eqb (from m (bit_xor i j)) (bit_xor (bit_xor (from m i) (from m j)) (from m 0))))

-- the whole test
unfoldable pub sound : ℕ → Move → Bool
sound n m = lowers n m && turns_back n m && affine n m
