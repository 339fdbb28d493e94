-- The place that a letter of a circulant row is compared with, and the test of a letter. Assumes nothing.
use mathlib.Core.Path.{◌≡◌, refl, sym}
use mathlib.Core.Bool.{true, false}
use mathlib.Core.List.{List}
use Prim.Native.Nat.{ℕ, zero, suc, ◌≤◌, ◌<◌}
use native.Mathlib.Nat.{pos_of_ne-zero}
use native.Mathlib.Omega.{arith}
use lib.Dec.{eqb, leb, ltb}
use lib.ListN.{length, get_or, take}
use lib.Seq.{length-take-le, get_or-take}
use borrow.Author.Tests.{ltb-true, lt-ltb, le-leb, eqb-true}
use Rattle.algebra.proofs.Involution.{and_left}
use Rattle.field.specs.Steps.{every_below}
use Rattle.matrix.proofs.Squares.{every_each}
use Rattle.rows.specs.Steps.Around.{prime_places, place_below}
use Rattle.cuts.specs.Steps.Circulant.{is_next_around}

-- ---- the place that is compared

-- it stands before the place, from 1 on
below_test : every_below 9 (λ n. every_below 7 (λ d. ltb (place_below n (suc d)) (suc d))) ≡ true
unfolding every_below place_below prime_places
below_test = refl

pub below_lt : (n d : ℕ) → n ≤ 8 → 0 < d → d < 8 → place_below n d < d
below_lt n zero m h l = absurd (omega arith)
below_lt n (suc d) m h l =
    ltb-true _ _ (every_each 7 (λ d. ltb (place_below n (suc d)) (suc d)) (every_each 9 (λ n. every_below 7 (λ d. ltb (place_below n (suc d)) (suc d))) below_test n (omega arith)) d (omega arith))

-- at the first place it is that place
first_test : every_below 9 (λ n. eqb (place_below n 0) 0) ≡ true
unfolding every_below place_below prime_places
first_test = refl

pub below_first : (n : ℕ) → n ≤ 8 → place_below n 0 ≡ 0
below_first n m = eqb-true _ _ (every_each 9 (λ n. eqb (place_below n 0) 0) first_test n (omega arith))

-- ---- the test of a letter

-- 0 does not come next
pub around_zero : (n : ℕ) (q : List ℕ) (a : ℕ) → a ≡ 0 → false ≡ is_next_around n q a
unfolding is_next_around
around_zero n q a e = rw e refl

-- any other letter may be the first
pub around_first : (n : ℕ) (row : List ℕ) (d a : ℕ) → (a ≡ 0 → ⊥) → d ≡ 0 → true ≡ is_next_around n (take d row) a
unfolding is_next_around
around_first n row d a some e = rw (e, lt-ltb 0 a (pos_of_ne-zero some)) (sym (le-leb 0 a (omega arith)))

-- later it is compared
pub around_later : (n : ℕ) (row : List ℕ) (d a : ℕ) → n ≤ 8 → d ≤ length row → 0 < d → d < 8 → 0 < a
    → leb (get_or row (place_below n d) 0) a ≡ is_next_around n (take d row) a
unfolding is_next_around
around_later n row d a most fits some l positive =
    rw (length-take-le d row fits, get_or-take d row (place_below n d) 0 (below_lt n d most some l), lt-ltb 0 a positive) refl

-- a letter that comes next is not 0
pub around_positive : (n : ℕ) (q : List ℕ) (a : ℕ) → is_next_around n q a ≡ true → 0 < a
unfolding is_next_around
around_positive n q a t = ltb-true 0 a (and_left (ltb 0 a) _ t)
