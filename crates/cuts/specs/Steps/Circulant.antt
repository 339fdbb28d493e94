-- The cuts of the walk over circulant rows: the first entry is least, the second is least of those at places prime to the order, and no two
-- pairs of places with the same sum modulo the order have the same product. Nobody need believe them: `tried_circulants` of
-- proofs/CirculantCuts.antt shows that they leave out no row that is demanded.
use Rattle.std.specs.Prelude.{Bool, not, ◌&&◌, ◌||◌, List, ℕ, suc, eqb, leb, ltb, length, get_or}
use Rattle.field.specs.Polynomial.{product}
use Rattle.field.specs.Steps.{every_below}
use Rattle.rows.specs.Steps.Around.{place_below, fourth_around}

-- whether a comes next by the order: it is not 0, and not smaller than the entry at the place `place_below`; the first entry is not compared
unfoldable pub is_next_around : ℕ → List ℕ → ℕ → Bool
is_next_around n prefix a = ltb 0 a && leb (get_or prefix (place_below n (length prefix)) 0) a

-- whether the entries at x and d and those at y and z do not have the same product (a singular block of size 2), where z is below d
unfoldable pub pair_passes : ℕ → ℕ → List ℕ → ℕ → ℕ → ℕ → Bool
pair_passes p n row d x y =
    let z = fourth_around n d x y in
    leb d z || not (eqb (product p (get_or row x 0) (get_or row d 0)) (product p (get_or row y 0) (get_or row z 0)))

-- all pairs pass that the entry at place d completes
unfoldable pub pairs_pass : ℕ → ℕ → List ℕ → ℕ → Bool
pairs_pass p n row d = every_below (suc d) (λ x. every_below d (pair_passes p n row d x))
