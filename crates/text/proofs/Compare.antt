-- Laws of `same_bytes`: it is true exactly of equal lists, and what `==` says of two slices.
-- Assumes nothing.
use mathlib.Core.Path.{◌≡◌, refl, ap, ap₂}
use Rattle.std.specs.Str.{bytes_eq}
use mathlib.Core.Bool.{Bool, true, false, ◌&&◌}
use mathlib.Core.List.{List, [], ◌∷◌}
use Prim.Native.Nat.{ℕ}
use borrow.Author.Tests.{eqb-true, eq-eqb}
use lib.Dec.{eqb}
use Rattle.text.specs.Reading.{same_bytes}

pub both_true : (a b : Bool) → (a && b) ≡ true → (a ≡ true) × (b ≡ true)
both_true true b e = (refl, e)
both_true false b e = (e, (cc))

-- a Bool that cannot be true is false
pub is_false : (b : Bool) → (b ≡ true → ⊥) → b ≡ false
is_false true h = absurd (h refl)
is_false false h = refl

pub same_true : (s t : List ℕ) → same_bytes s t ≡ true → s ≡ t
unfolding same_bytes
same_true [] [] e = refl
same_true [] (b ∷ t) e = cc
same_true (a ∷ s) [] e = cc
same_true (a ∷ s) (b ∷ t) e =
    let p = both_true (eqb a b) (same_bytes s t) e in
    ap₂ (λ (x : ℕ) (l : List ℕ). x ∷ l) (eqb-true a b p.0) (same_true s t p.1)

pub same_self : (s : List ℕ) → same_bytes s s ≡ true
unfolding same_bytes
same_self [] = refl
same_self (a ∷ s) = rw (eq-eqb a a refl) (same_self s)

pub same_other : (s t : List ℕ) → (s ≡ t → ⊥) → same_bytes s t ≡ false
same_other s t h = is_false (same_bytes s t) (λ e. h (same_true s t e))

-- what `==` says of two slices
pub same_equal : (s t : List ℕ) → bytes_eq s t ≡ same_bytes s t
unfolding same_bytes
same_equal [] [] = refl
same_equal [] (b ∷ t) = refl
same_equal (a ∷ s) [] = refl
same_equal (a ∷ s) (b ∷ t) = ap (λ r. eqb a b && r) (same_equal s t)
