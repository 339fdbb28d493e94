-- What document 01 says of the numbers with which the calls on matrices are refused. No call here has a count. Assumes nothing.
use Rattle.std.specs.Prelude.{◌≡◌, ◌≢◌, ◌⊎◌, List, ℕ, ◌<◌, get_or}
use Rattle.field.specs.Stated.{Stated}

-- the values: one of the first n words of a row, one of the entries of a matrix of order n
abbrev pub WordOf : ℕ → List ℕ → ℕ → Type 0
WordOf n row a = (j : ℕ) × (j < n) × (get_or row j 0 ≡ a)

abbrev pub EntryOf : ℕ → (ℕ → ℕ → ℕ) → ℕ → Type 0
EntryOf n f a = (i : ℕ) × (j : ℕ) × (i < n) × (j < n) × (f i j ≡ a)

-- the determinant of a block of size n, which is from 0 to 8
abbrev pub DeterminantStated : ℕ → ℕ → (ℕ → ℕ → ℕ) → ℕ → Type 0
DeterminantStated p n f = Stated p (8 < n) ⊥ (EntryOf n f) ⊥

-- the calls on a matrix of order n, which is from 1 to 8
abbrev pub MatrixStated : ℕ → ℕ → (ℕ → ℕ → ℕ) → ℕ → Type 0
MatrixStated p n f = Stated p ((n < 1) ⊎ (8 < n)) ⊥ (EntryOf n f) ⊥

-- the XOR count of a row of n elements
abbrev pub RowStated : ℕ → ℕ → List ℕ → ℕ → Type 0
RowStated p n row = Stated p ((n < 1) ⊎ (8 < n)) ⊥ (WordOf n row) ⊥

-- the plain product of a matrix and an input x
abbrev pub PlainStated : ℕ → ℕ → (ℕ → ℕ → ℕ) → List ℕ → ℕ → Type 0
PlainStated p n f x = Stated p ((n < 1) ⊎ (8 < n)) ⊥ (λ a. EntryOf n f a ⊎ WordOf n x a) ⊥

-- the halved product of a row's Hadamard matrix and an input x: order 2, 4 or 8
abbrev pub HalvedStated : ℕ → ℕ → List ℕ → List ℕ → ℕ → Type 0
HalvedStated p n row x = Stated p ((n ≢ 2) × (n ≢ 4) × (n ≢ 8)) ⊥ (λ a. WordOf n row a ⊎ WordOf n x a) ⊥
