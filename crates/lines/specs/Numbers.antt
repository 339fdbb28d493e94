-- The numbers below 2^m as a field, and arrays of arrays as matrices over it. Assumes nothing.
use Rattle.std.specs.Prelude.{◌≡◌, ◌⊎◌, List, [], ℕ, ◌^◌, ◌<◌, eqb, get_or}
use Rattle.algebra.specs.Operations.{Operations}
use Rattle.algebra.specs.Matrix.{up_to}
use Rattle.field.specs.Polynomial.{◌⊕◌, degree, product}

-- the operations of the field of a polynomial p, on numbers
abbrev pub numbers : ℕ → Operations
numbers p = record { Element = ℕ; null = 0; one = 1; plus = ◌⊕◌; times = product p; is_null = λ a. eqb a 0 }

-- its elements: 0 to 2^m - 1
unfoldable pub elements : ℕ → List ℕ
elements p = up_to (2 ^ degree p)

-- the entry at line i, column j of an array of arrays
abbrev pub entry : List (List ℕ) → ℕ → ℕ → ℕ
entry m i j = get_or (get_or m i []) j 0

-- the entries of the first r lines and c columns are elements
unfoldable pub InField : ℕ → ℕ → ℕ → List (List ℕ) → Type 0
InField p r c m = (i j : ℕ) → i < r → j < c → entry m i j < 2 ^ degree p

-- the first n words are elements
unfoldable pub WordsInField : ℕ → ℕ → List ℕ → Type 0
WordsInField p n x = (j : ℕ) → j < n → get_or x j 0 < 2 ^ degree p

-- the orders of the Hadamard matrices that are multiplied by halves, down to order 1
abbrev pub HalvingOrder : ℕ → Type 0
HalvingOrder n = (n ≡ 1) ⊎ ((n ≡ 2) ⊎ ((n ≡ 4) ⊎ (n ≡ 8)))
