-- What document 01 says of the numbers 3 to 9 with which a search is refused; of a search for a circulant matrix document 02, Six.
-- Assumes nothing.
use Rattle.std.specs.Prelude.{◌≡◌, ◌≢◌, ◌⊎◌, ℕ, ◌<◌, length, get_or}
use mathlib.Core.List.{List, Memᴰ}
use Rattle.field.specs.Stated.{Stated}
use Rattle.rows.specs.declared.Family.{Family}
use Rattle.rows.specs.declared.Family.TheVariants.{Hadamard, Circulant}
use Rattle.rows.specs.Lightest.{Best, nothing}

-- a count that is not allowed (1 to 255 candidates for order 4, 1 to 16 for order 8): none, whatever the order; too many for order 4 or 8
pub data WrongSearchCount (n count : ℕ) : Type 0 where
  no_candidate : count < 1 → WrongSearchCount n count
  many_for_four : n ≡ 4 → 255 < count → WrongSearchCount n count
  many_for_eight : n ≡ 8 → 16 < count → WrongSearchCount n count

-- a value that is repeated: two places with the same value
abbrev pub Repeated : List ℕ → Type 0
Repeated values = (i : ℕ) × (j : ℕ) × (i < j) × (j < length values) × (get_or values i 0 ≡ get_or values j 0)

-- 3 to 8 of a search for a Hadamard matrix: order 4 or 8; the values are the candidates; a candidate that is 0 or repeated is not allowed
abbrev pub SearchStated : ℕ → ℕ → List ℕ → ℕ → Type 0
SearchStated p n candidates =
    Stated p ((n ≢ 4) × (n ≢ 8)) (WrongSearchCount n (length candidates)) (λ a. Memᴰ a candidates) (Memᴰ 0 candidates ⊎ Repeated candidates)

-- 3 to 8 of a search for a circulant matrix: order 2 to 8, 1 to 8 candidates; the values as above
abbrev pub CirculantStated : ℕ → ℕ → List ℕ → ℕ → Type 0
CirculantStated p n candidates =
    Stated p ((n < 2) ⊎ (8 < n)) ((length candidates < 1) ⊎ (8 < length candidates)) (λ a. Memᴰ a candidates) (Memᴰ 0 candidates ⊎ Repeated candidates)

-- by the family of its matrices
abbrev pub StatedFor : Family → ℕ → ℕ → List ℕ → ℕ → Type 0
StatedFor Hadamard p n candidates k = SearchStated p n candidates k
StatedFor Circulant p n candidates k = CirculantStated p n candidates k

-- 3 to 9 of a search for which 3 to 8 are stated so and whose lightest row this is: 9 where there is none
abbrev pub OrNone : (ℕ → Type 0) → Best → ℕ → Type 0
OrNone Says best k = Says k ⊎ ((k ≡ 9) × (best ≡ nothing))
