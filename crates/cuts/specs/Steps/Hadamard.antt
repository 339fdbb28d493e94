-- The cuts of the walk over Hadamard rows: the inequalities of the canonical rows, no entry twice, the planes of four indices, and a
-- last entry that makes the exclusive or 1.
use Rattle.std.specs.Prelude.{Bool, not, ◌&&◌, ◌||◌, ℕ, eqb, leb, ltb, length, get_or}
use mathlib.Core.List.{List, [], ◌∷◌, foldl}
use Rattle.std.specs.Int.Bits.{bit_xor}
use Rattle.field.specs.Polynomial.{◌⊕◌, product}
use Rattle.field.specs.Steps.{every_below}
use Rattle.rows.specs.Lightest.{member}

-- the place whose entry is to be smaller than that at place d, from 1 on; the same for both orders
unfoldable pub place_before : ℕ → ℕ
place_before d = get_or (0 ∷ 0 ∷ 1 ∷ 2 ∷ 2 ∷ 4 ∷ 4 ∷ 4 ∷ []) d 0

-- whether a comes next by the order: it is larger than the entry that is to be smaller, 0 at the first place, and none of the entries
unfoldable pub is_next : List ℕ → ℕ → Bool
is_next prefix a = ltb (get_or prefix (place_before (length prefix)) 0) a && not (member a prefix)

-- whether the plane of the indices a, b and d passes, where its fourth index c is below d: the entries of a and b do not have the
-- product of those of c and d (a singular block of size 2), and at order 8 the four entries add up to 2 or more
unfoldable pub plane_passes : ℕ → ℕ → List ℕ → ℕ → ℕ → ℕ → Bool
plane_passes p n row d b a =
    let c = bit_xor (bit_xor a b) d in
    leb d c
    || (not (eqb (product p (get_or row a 0) (get_or row b 0)) (product p (get_or row c 0) (get_or row d 0)))
    && (not (eqb n 8) || leb 2 (get_or row a 0 ⊕ get_or row b 0 ⊕ get_or row c 0 ⊕ get_or row d 0)))

-- all planes pass that the entry at place d completes
unfoldable pub planes_pass : ℕ → ℕ → List ℕ → ℕ → Bool
planes_pass p n row d = every_below d (λ b. every_below b (plane_passes p n row d b))

-- the letter that makes the exclusive or of the row 1
unfoldable pub last_letter : List ℕ → ℕ
last_letter prefix = foldl ◌⊕◌ 0 prefix ⊕ 1
