-- The laws of a field of characteristic 2: two sets for `simp`, and what follows from an inverse.
-- The operations are opened fields of `K`: under names of another kind `simp` would sort sums in another order.
use mathlib.Core.Path.{◌≡◌, refl, sym, ap, ◌∙◌}
use mathlib.Core.Bool.{Bool, true, false, false≢true}
use Rattle.algebra.specs.Operations.{Operations}
use Rattle.algebra.proofs.FieldLaws.{Field}

module _ (K : Operations) (L : Field K) where
  infixl 70 ◌⊕◌
  infixl 75 ◌⊗◌
  open K use {Element as E, null, one, plus as ◌⊕◌, times as ◌⊗◌}

  pub plus_assoc : (a b c : E) → (a ⊕ b) ⊕ c ≡ a ⊕ (b ⊕ c)
  plus_assoc = L.plus_assoc

  pub plus_comm : (a b : E) → a ⊕ b ≡ b ⊕ a
  plus_comm = L.plus_comm

  pub plus_left_comm : (a b c : E) → a ⊕ (b ⊕ c) ≡ b ⊕ (a ⊕ c)
  plus_left_comm a b c = rw (← plus_assoc a b c, ← plus_assoc b a c, plus_comm a b)

  pub plus_null : (a : E) → a ⊕ null ≡ a
  plus_null = L.plus_null

  pub null_plus : (a : E) → null ⊕ a ≡ a
  null_plus a = rw plus_comm (plus_null a)

  pub plus_self : (a : E) → a ⊕ a ≡ null
  plus_self = L.plus_self

  pub plus_self_left : (a b : E) → a ⊕ (a ⊕ b) ≡ b
  plus_self_left a b = rw (← plus_assoc a a b, plus_self a) (null_plus b)

  pub times_assoc : (a b c : E) → (a ⊗ b) ⊗ c ≡ a ⊗ (b ⊗ c)
  times_assoc = L.times_assoc

  pub times_comm : (a b : E) → a ⊗ b ≡ b ⊗ a
  times_comm = L.times_comm

  pub times_left_comm : (a b c : E) → a ⊗ (b ⊗ c) ≡ b ⊗ (a ⊗ c)
  times_left_comm a b c = rw (← times_assoc a b c, ← times_assoc b a c, times_comm a b)

  pub times_plus : (a b c : E) → a ⊗ (b ⊕ c) ≡ a ⊗ b ⊕ a ⊗ c
  times_plus = L.times_plus

  pub plus_times : (a b c : E) → (a ⊕ b) ⊗ c ≡ a ⊗ c ⊕ b ⊗ c
  plus_times a b c = times_comm (a ⊕ b) c ∙ times_plus c a b ∙ simp times_comm

  pub times_null : (a : E) → a ⊗ null ≡ null
  times_null a = ap (λ z. a ⊗ z) (sym (plus_self null)) ∙ times_plus a null null ∙ plus_self (a ⊗ null)

  pub null_times : (a : E) → null ⊗ a ≡ null
  null_times a = times_comm null a ∙ times_null a

  pub times_one : (a : E) → a ⊗ one ≡ a
  times_one = L.times_one

  pub one_times : (a : E) → one ⊗ a ≡ a
  one_times a = times_comm one a ∙ times_one a

-- sorts sums, and cancels what stands twice
pub ruleset sums = (plus_assoc, plus_comm, plus_left_comm, plus_null, null_plus, plus_self, plus_self_left)

-- multiplies out, and sorts
pub ruleset ring = (sums, times_assoc, times_comm, times_left_comm, times_plus, plus_times, times_null, null_times, times_one, one_times)

module _ (K : Operations) (L : Field K) where
  infixl 70 ◌⊕◌
  infixl 75 ◌⊗◌
  open K use {Element as E, null, one, is_null, plus as ◌⊕◌, times as ◌⊗◌}

  -- a product and the same product the other way round
  pub twice : (a b : E) → a ⊗ b ⊕ b ⊗ a ≡ null
  twice a b = simp (ring, L)

  -- what a sum of two products does with one more product, on the left and on the right
  pub join_left : (a b p q w s t : E) → (a ⊗ p ⊕ b ⊗ q) ⊗ w ⊕ (a ⊗ s ⊕ b ⊗ t) ≡ a ⊗ (p ⊗ w ⊕ s) ⊕ b ⊗ (q ⊗ w ⊕ t)
  join_left a b p q w s t = simp (ring, L)

  pub join_right : (a b w p q s t : E) → w ⊗ (a ⊗ p ⊕ b ⊗ q) ⊕ (a ⊗ s ⊕ b ⊗ t) ≡ a ⊗ (w ⊗ p ⊕ s) ⊕ b ⊗ (w ⊗ q ⊕ t)
  join_right a b w p q s t = simp (ring, L)

  -- two that add up to null are equal
  pub equal_of_null : (a b : E) → a ⊕ b ≡ null → a ≡ b
  equal_of_null a b e = sym (plus_null K L a) ∙ ap (λ z. a ⊕ z) (sym e) ∙ plus_self_left K L a b

  -- ---- null or not

  -- what is not equal to null tests so
  pub not_null : (a : E) → (a ≡ null → ⊥) → is_null a ≡ false
  not_null a h = at (is_null a) refl
    where
      at : (b : Bool) → is_null a ≡ b → is_null a ≡ false
      at true e = absurd (h (L.is_null_holds a e))
      at false e = e

  -- and the other way round
  pub null_not : (a : E) → is_null a ≡ false → a ≡ null → ⊥
  null_not a h e = false≢true (sym h ∙ ap is_null e ∙ L.null_is)

  -- a product with a factor that is not null is null only with the other factor
  pub times_null_only : (a b : E) → is_null a ≡ false → a ⊗ b ≡ null → b ≡ null
  times_null_only a b h e =
      sym (one_times K L b)
      ∙ ap (λ z. z ⊗ b) (sym i.1 ∙ times_comm K L a i.0)
      ∙ times_assoc K L i.0 a b
      ∙ ap (λ z. i.0 ⊗ z) e
      ∙ times_null K L i.0
    where
      i : (c : E) × (a ⊗ c ≡ one)
      i = L.inverse a h

  -- such a factor changes no test for null
  pub is_null_times : (a b : E) → is_null a ≡ false → is_null (a ⊗ b) ≡ is_null b
  is_null_times a b h = at (is_null b) refl
    where
      at : (t : Bool) → is_null b ≡ t → is_null (a ⊗ b) ≡ is_null b
      at true e = ap is_null (ap (λ z. a ⊗ z) (L.is_null_holds b e) ∙ times_null K L a ∙ sym (L.is_null_holds b e))
      at false e = not_null (a ⊗ b) (λ z. null_not b e (times_null_only a b h z)) ∙ sym e
