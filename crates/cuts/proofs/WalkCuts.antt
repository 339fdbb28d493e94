-- The walk over rows of different candidates with the cuts of Hadamard rows: it is enough to keep the rows that pass them. Assumes nothing.
use mathlib.Core.Path.{◌≡◌, ◌∙◌}
use mathlib.Core.List.{List}
use Prim.Native.Nat.{ℕ}
use lib.ListN.{take}
use Rattle.field.specs.Polynomial.{Modulus}
use Rattle.rows.specs.Lightest.{lightest}
use Rattle.rows.specs.Shape.{is_good, hadamard_shape}
use Rattle.rows.specs.Keys.{key_of}
use Rattle.rows.specs.Walks.{arrangements}
use Rattle.rows.specs.Steps.Orders.{SearchOrder}
use Rattle.rows.proofs.Walks.{tried_word, canonical_walked}
use Rattle.cuts.specs.Steps.Cuts.{tried}
use Rattle.cuts.specs.Steps.Families.{hadamard_cuts}
use Rattle.cuts.proofs.HadamardCuts.{tried_among}

-- the best of the first rows is the best of those of them that pass the cuts
pub tried_walked : (p n : ℕ) → Modulus p → SearchOrder n → (cs : List ℕ) (t : ℕ)
    → lightest (is_good hadamard_shape p n) (key_of p n) (take t (arrangements p n cs))
    ≡ lightest (tried (hadamard_cuts p n) p n) (key_of p n) (take t (arrangements p n cs))
tried_walked p n h o cs t = canonical_walked p n cs h o t ∙ tried_among p n h o cs (take t (arrangements p n cs)) (tried_word p n cs t)
