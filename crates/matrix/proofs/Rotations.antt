-- Circulant matrices by square blocks, over any field: those suffice whose columns no rotation makes smaller, since a rotation leaves the
-- matrix as it is. Assumes nothing.
use mathlib.Core.Path.{◌≡◌, refl}
use mathlib.Core.Bool.{true}
use mathlib.Core.List.{List, Memᴰ}
use Prim.Native.Nat.{ℕ, zero, suc, ◌+◌, ◌-◌, ◌%◌, ◌^◌, ◌≤◌, ◌<◌}
use native.Mathlib.Omega.{arith}
use Rattle.algebra.specs.Operations.{Operations}
use Rattle.algebra.proofs.FieldLaws.{Field}
use Rattle.algebra.specs.Matrix.{tabulate, circulant, is_mds, places_from, chosen}
use Rattle.algebra.proofs.Sums.{turned}
use Rattle.algebra.proofs.Circulant.{rotation, circulant_rotated}
use Rattle.field.specs.Polynomial.{first_below}
use Rattle.field.specs.Steps.{every_below}
use Rattle.matrix.specs.Steps.Choice.{rotated, is_least_around, is_looked_at}
use Rattle.matrix.specs.Steps.Regular.{regular_between}
use Rattle.matrix.proofs.Squares.{every_each, looked_decides}
use Rattle.matrix.proofs.Invariance.{placed, to_looked, has_looked, moved_looked}

-- ---- the computed test

-- place i, moved by t modulo n
abbrev around : ℕ → ℕ → ℕ → ℕ
around n t i = (i + t) % n

-- at the orders 2 to 8 every choice has a rotation that no rotation makes smaller
least_of_each : every_below 7 (λ k. every_below (2 ^ suc (suc k)) (has_looked (suc (suc k)) (suc (suc k)) (around (suc (suc k))))) ≡ true
unfolding has_looked to_looked placed first_below every_below is_looked_at is_least_around rotated tabulate chosen places_from
least_of_each = refl

-- the same for one of them
has_least : (n : ℕ) → 2 ≤ n → n ≤ 8 → (mask : ℕ) → mask < 2 ^ n → has_looked n n (around n) mask ≡ true
has_least zero low high mask l = absurd (omega arith)
has_least (suc zero) low high mask l = absurd (omega arith)
has_least (suc (suc k)) low high mask l = every_each (2 ^ suc (suc k)) _ (every_each 7 _ least_of_each k (omega arith)) mask l

-- ---- circulant matrices

-- of the square blocks of a circulant matrix those decide whose columns no rotation makes smaller
pub rotations_decide : (K : Operations) (L : Field K) (elements : List K.Element) (complete : (a : K.Element) → Memᴰ a elements)
    (n : ℕ) → 2 ≤ n → n ≤ 8 → (row : List K.Element)
    → is_mds K elements n (circulant K n row) ≡ regular_between K n (circulant K n row) n 0 n
rotations_decide K L elements complete n low high row =
    looked_decides K L elements complete n (circulant K n row) (omega arith) n
    (moved_looked K L elements complete n (circulant K n row) (around n) (λ t i. (i + (n - t)) % n) (λ t l. turned (rotation n t l))
    (λ t l i j a b. circulant_rotated K L n row t i j a b) n (has_least n low high))
