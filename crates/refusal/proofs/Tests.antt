-- What a test decides, from what its parts decide. Assumes nothing.
use mathlib.Core.Path.{◌≡◌, refl, sym}
use mathlib.Core.Logic.{◌↔◌, ◌⊎◌, inl, inr}
use mathlib.Core.Bool.{Bool, true, false, not, ◌&&◌, ◌||◌, false≢true}
use Prim.Native.Nat.{ℕ, ◌≤◌, ◌<◌}
use native.Mathlib.Omega.{arith}
use borrow.Author.Tests.{ltb-true, leb-true, eqb-true, lt-ltb, le-leb, eq-eqb}
use lib.Dec.{eqb, leb, ltb}

-- a test that a call does not have
pub never_passes : (false ≡ true) ↔ ⊥
never_passes = (false≢true, λ e. absurd e)

pub below_exactly : (a b : ℕ) → (ltb a b ≡ true) ↔ (a < b)
below_exactly a b = (ltb-true a b, lt-ltb a b)

pub most_exactly : (a b : ℕ) → (leb a b ≡ true) ↔ (a ≤ b)
most_exactly a b = (leb-true a b, le-leb a b)

pub same_exactly : (a b : ℕ) → (eqb a b ≡ true) ↔ (a ≡ b)
same_exactly a b = (eqb-true a b, eq-eqb a b)

pub zero_exactly : (a : ℕ) → (eqb a 0 ≡ true) ↔ (a < 1)
zero_exactly a = (λ e. let z : a ≡ 0 = eqb-true a 0 e in omega arith, λ l. eq-eqb a 0 (omega arith))

pub not_exactly : {P : Type 0} (a : Bool) → (a ≡ true) ↔ P → (not a ≡ true) ↔ (P → ⊥)
not_exactly true h = (λ e. absurd (false≢true e), λ f. absurd (f (h.0 refl)))
not_exactly false h = (λ e q. false≢true (h.1 q), λ f. refl)

-- neither of two tests passes
pub or_none : (a b : Bool) → (a || b) ≡ false → (a ≡ false) × (b ≡ false)
or_none false b e = (refl, e)
or_none true b e = absurd (false≢true (sym e))

module _ {P Q : Type 0} where
  pub or_exactly : (a b : Bool) → (a ≡ true) ↔ P → (b ≡ true) ↔ Q → ((a || b) ≡ true) ↔ (P ⊎ Q)
  or_exactly a b h k = (to a h, from a h)
    where
      to : (a : Bool) → (a ≡ true) ↔ P → (a || b) ≡ true → P ⊎ Q
      to true h e = inl (h.0 refl)
      to false h e = inr (k.0 e)

      from : (a : Bool) → (a ≡ true) ↔ P → P ⊎ Q → (a || b) ≡ true
      from true h s = refl
      from false h (inl q) = absurd (false≢true (h.1 q))
      from false h (inr q) = k.1 q

  pub and_exactly : (a b : Bool) → (a ≡ true) ↔ P → (b ≡ true) ↔ Q → ((a && b) ≡ true) ↔ (P × Q)
  and_exactly true b h k = (λ e. (h.0 refl, k.0 e), λ q. k.1 q.1)
  and_exactly false b h k = (λ e. absurd (false≢true e), λ q. h.1 q.0)

  -- neither of two
  pub neither_exactly : ((P ⊎ Q) → ⊥) ↔ ((P → ⊥) × (Q → ⊥))
  neither_exactly = (λ h. (λ q. h (inl q), λ q. h (inr q)), both)
    where
      both : (P → ⊥) × (Q → ⊥) → P ⊎ Q → ⊥
      both h (inl q) = h.0 q
      both h (inr q) = h.1 q
