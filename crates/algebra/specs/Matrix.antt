-- Matrices over a field, in the words of document 01. A matrix is the function that gives its entry at line i, column j;
-- an input is the list of its words. `K` holds the field's operations, and `elements` lists the field's elements.
-- Assumes nothing.
use Rattle.std.specs.Prelude.{Bool, true, false, cond, ◌&&◌, ◌||◌, List, [], ◌∷◌, ◌++◌, map, ℕ, zero, suc, ◌+◌, ◌-◌, ◌/◌, ◌%◌, min, eqb, ltb, get_or}
use Rattle.std.specs.Int.Bits.{bit_xor}
use Rattle.algebra.specs.Operations.{Operations}

-- ---- lists

-- f 0, f 1, .. f (n - 1)
unfoldable pub tabulate : {A : Type 0} → ℕ → (ℕ → A) → List A
tabulate zero f = []
tabulate (suc n) f = f 0 ∷ tabulate n (λ i. f (suc i))

-- 0, 1, .. n - 1
unfoldable pub up_to : ℕ → List ℕ
up_to n = tabulate n (λ i. i)

-- each of the letters before each of the words, the first letter's words first
unfoldable pub before : {A : Type 0} → List A → List (List A) → List (List A)
before [] ws = []
before (a ∷ rest) ws = map (λ w. a ∷ w) ws ++ before rest ws

-- all words of n letters; in dictionary order where the letters ascend
unfoldable pub words : {A : Type 0} → List A → ℕ → List (List A)
words letters zero = [] ∷ []
words letters (suc n) = before letters (words letters n)

-- ---- the matrix product

-- the sum of f 0, f 1, .. f (n - 1)
unfoldable pub sum : (K : Operations) → ℕ → (ℕ → K.Element) → K.Element
sum K zero f = K.null
sum K (suc n) f = K.plus (sum K n f) (f n)

-- the product of r lines of c entries with the input x: word i is the sum over j of entry (i, j) times word j of x
abbrev pub apply_to : (K : Operations) → ℕ → ℕ → (ℕ → ℕ → K.Element) → List K.Element → List K.Element
apply_to K r c f x = tabulate r (λ i. sum K c (λ j. K.times (f i j) (get_or x j K.null)))

-- the plain product of the matrix f of order n with the input x
unfoldable pub apply : (K : Operations) → ℕ → (ℕ → ℕ → K.Element) → List K.Element → List K.Element
apply K n f x = apply_to K n n f x

-- the Hadamard matrix of a row: the row's element at (i exclusive or j) at line i, column j
unfoldable pub hadamard : (K : Operations) → List K.Element → ℕ → ℕ → K.Element
hadamard K row i j = get_or row (bit_xor i j) K.null

-- the circulant matrix of order n of a row: the row's element at (j − i) modulo n at line i, column j
unfoldable pub circulant : (K : Operations) → ℕ → List K.Element → ℕ → ℕ → K.Element
circulant K n row i j = get_or row ((j + (n - i)) % n) K.null

-- ---- the determinant

-- the k-th of the columns that are left without column j
unfoldable pub skip : ℕ → ℕ → ℕ
skip zero k = suc k
skip (suc j) zero = zero
skip (suc j) (suc k) = suc (skip j k)

-- the block that is left without line 0 and column j
unfoldable pub without : {A : Type 0} → (ℕ → ℕ → A) → ℕ → ℕ → ℕ → A
without f j i k = f (suc i) (skip j k)

-- the determinant, expanded along the first line; that of the empty block is 1
unfoldable pub det : (K : Operations) → ℕ → (ℕ → ℕ → K.Element) → K.Element
det K zero f = K.one
det K (suc n) f = sum K (suc n) (λ j. K.times (f 0 j) (det K n (without f j)))

-- a place, where its digit is 1, before the rest
abbrev pub at_digit : ℕ → ℕ → List ℕ → List ℕ
at_digit zero i rest = rest
at_digit (suc d) i rest = i ∷ rest

-- the places of the ones among the n lowest digits of a mask, ascending, counted from i
unfoldable pub places_from : ℕ → ℕ → ℕ → List ℕ
places_from i zero mask = []
places_from i (suc n) mask = at_digit (mask % 2) i (places_from (suc i) n (mask / 2))

-- a choice of lines, or of columns, of a matrix of order n: the places of the ones of a mask
unfoldable pub chosen : ℕ → ℕ → List ℕ
chosen n mask = places_from 0 n mask

-- the block of the chosen lines and columns
unfoldable pub block : {A : Type 0} → (ℕ → ℕ → A) → List ℕ → List ℕ → ℕ → ℕ → A
block f lines columns i j = f (get_or lines i 0) (get_or columns j 0)

-- ---- the branch number

-- how many words are not zero
unfoldable pub weight : (K : Operations) → List K.Element → ℕ
weight K [] = 0
weight K (x ∷ xs) = cond (K.is_null x) 0 1 + weight K xs

-- nonzero words of the input plus nonzero words of the output
unfoldable pub activity : (K : Operations) → ℕ → (ℕ → ℕ → K.Element) → List K.Element → ℕ
activity K n f x = weight K x + weight K (apply K n f x)

-- the smaller of a and least, or least alone at an input of weight 0
abbrev pub unless_zero : ℕ → ℕ → ℕ → ℕ
unless_zero zero a least = least
unless_zero (suc w) a least = min a least

-- the least activity of the nonzero among the inputs; 2n, the most there can be, where none is
unfoldable pub least_activity : (K : Operations) → ℕ → (ℕ → ℕ → K.Element) → List (List K.Element) → ℕ
least_activity K n f [] = n + n
least_activity K n f (x ∷ xs) = unless_zero (weight K x) (activity K n f x) (least_activity K n f xs)

-- the branch number: the least, over all nonzero inputs, of nonzero words in plus nonzero words out
unfoldable pub branch_number : (K : Operations) → List K.Element → ℕ → (ℕ → ℕ → K.Element) → ℕ
branch_number K elements n f = least_activity K n f (words elements n)

-- MDS: the branch number is the order plus one
unfoldable pub is_mds : (K : Operations) → List K.Element → ℕ → (ℕ → ℕ → K.Element) → Bool
is_mds K elements n f = eqb (branch_number K elements n f) (suc n)

-- ---- the kernel

-- some of the inputs is not zero and goes to zero in all r lines
unfoldable pub some_to_zero : (K : Operations) → ℕ → ℕ → (ℕ → ℕ → K.Element) → List (List K.Element) → Bool
some_to_zero K c r f [] = false
some_to_zero K c r f (x ∷ xs) = (ltb 0 (weight K x) && eqb (weight K (apply_to K r c f x)) 0) || some_to_zero K c r f xs

-- a kernel: some nonzero input of c words goes to zero in all r lines
unfoldable pub has_kernel : (K : Operations) → List K.Element → ℕ → ℕ → (ℕ → ℕ → K.Element) → Bool
has_kernel K elements c r f = some_to_zero K c r f (words elements c)

-- ---- the involution

-- the same words: the sum of each two is 0
unfoldable pub same_words : (K : Operations) → List K.Element → List K.Element → Bool
same_words K [] [] = true
same_words K [] (y ∷ ys) = false
same_words K (x ∷ xs) [] = false
same_words K (x ∷ xs) (y ∷ ys) = K.is_null (K.plus x y) && same_words K xs ys

-- used twice, the matrix gives each of the inputs back
unfoldable pub gives_back : (K : Operations) → ℕ → (ℕ → ℕ → K.Element) → List (List K.Element) → Bool
gives_back K n f [] = true
gives_back K n f (x ∷ xs) = same_words K (apply K n f (apply K n f x)) x && gives_back K n f xs

-- an involution: used twice, it gives every input back
unfoldable pub is_involution : (K : Operations) → List K.Element → ℕ → (ℕ → ℕ → K.Element) → Bool
is_involution K elements n f = gives_back K n f (words elements n)
