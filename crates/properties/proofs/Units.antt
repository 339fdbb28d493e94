-- A matrix is an involution exactly if it times itself is the identity, tested entry by entry. Assumes nothing.
use mathlib.Core.Path.{◌≡◌}
use Prim.Native.Nat.{ℕ, ◌^◌, ◌<◌}
use borrow.Author.Tests.{eq-eqb, eqb-true}
use Rattle.algebra.specs.Matrix.{is_involution}
use Rattle.algebra.proofs.Symmetry.{same_bool}
use Rattle.field.specs.Polynomial.{Modulus, degree}
use Rattle.field.specs.Steps.{every_below}
use Rattle.lines.specs.Numbers.{numbers, elements}
use Rattle.properties.specs.Steps.Identity.{unit, square_entry, is_unit_line}
use Rattle.matrix.proofs.Squares.{every_each, each_every}
use Rattle.matrix.proofs.Theorems.{involution_is_identity, identity_is_involution}

-- every line is that of the identity
pub units_involution : (p : ℕ) → Modulus p → (n : ℕ) (f : ℕ → ℕ → ℕ) → ((i j : ℕ) → i < n → j < n → f i j < 2 ^ degree p)
    → every_below n (is_unit_line p n f) ≡ is_involution (numbers p) (elements p) n f
unfolding is_unit_line square_entry unit
units_involution p h n f below =
    same_bool (every_below n (is_unit_line p n f)) (is_involution (numbers p) (elements p) n f)
    (λ q.
    identity_is_involution p h n f below
    (λ i j l m. eqb-true (square_entry p n f i j) (unit i j) (every_each n _ (every_each n (is_unit_line p n f) q i l) j m)))
    (λ q.
    each_every n (is_unit_line p n f) (λ i l.
    each_every n _ (λ j m. eq-eqb (square_entry p n f i j) (unit i j) (involution_is_identity p h n f below q i j l m))))
