-- The faults of a polynomial, and the values that pass. Assumes nothing.
use mathlib.Core.Path.{◌≡◌, refl, ap, ap₂, ◌∙◌, subst}
use mathlib.Core.Bool.{Bool, true, false, not, ◌||◌}
use mathlib.Core.List.{List, [], ◌∷◌, ◌++◌}
use Prim.Native.Nat.{ℕ, ◌*◌, ◌%◌, ◌^◌, ◌≤◌, ◌<◌}
use native.Mathlib.Nat.{lt_of_lt_of_le, lt_of_le_of_lt, mul-le-mul, mod-eq_of_lt}
use native.Mathlib.Omega.{arith}
use borrow.Author.Tests.{ltb-false, lt-ltb, le-ltb, leb-false, not-false}
use lib.Dec.{ltb, lit<}
use lib.Pow.{pow_mono}
use Rattle.refusal.specs.Refusals.{Fault, fault, first_number, answer, answer_after}
use Rattle.refusal.specs.declared.Refusal.TheVariants.{ValueRange, BadCandidate}
use Rattle.refusal.proofs.Faults.{first_empty, first_taken, first_left, first_passed, first_parts, after_later, after_taken, after_left, after_empty, numbered}
use Rattle.field.specs.Polynomial.{degree, is_irreducible, Modulus}
use Rattle.field.specs.Faults.{is_outside, is_too_large, polynomial_faults, call_faults}
use Rattle.field.proofs.Degrees.{polynomial}

-- ---- 3

outside_false : (p : ℕ) → is_outside p ≡ false → (4 ≤ p) × (p ≤ 511)
unfolding is_outside
outside_false p e = from (ltb p 4) (ltb 511 p) refl refl e
  where
    from : (a b : Bool) → ltb p 4 ≡ a → ltb 511 p ≡ b → (a || b) ≡ false → (4 ≤ p) × (p ≤ 511)
    from false false f g h = (ltb-false p 4 f, ltb-false 511 p g)
    from false true f g h = let z : ◌≡◌ {A = ℕ} 0 1 = cc in let y : ⊥ = omega arith in absurd y
    from true b f g h = let z : ◌≡◌ {A = ℕ} 0 1 = cc in let y : ⊥ = omega arith in absurd y

pub inside : (p : ℕ) → 4 ≤ p → p ≤ 511 → is_outside p ≡ false
unfolding is_outside
inside p l u = ap₂ ◌||◌ (le-ltb p 4 l) (le-ltb 511 p u)

pub below_range : (p : ℕ) → p < 4 → is_outside p ≡ true
unfolding is_outside
below_range p h = ap (λ (b : Bool). b || ltb 511 p) (lt-ltb p 4 h)

pub above_range : (p : ℕ) → 511 < p → is_outside p ≡ true
unfolding is_outside
above_range p h = ap₂ ◌||◌ (le-ltb p 4 (omega arith)) (lt-ltb 511 p h)

-- ---- the faults of a polynomial

pub outside_number : (p : ℕ) → is_outside p ≡ true → first_number (polynomial_faults p) ≡ 3
unfolding polynomial_faults
outside_number p e = first_taken 3 (is_outside p) _ e

pub reducible_number : (p : ℕ) → 4 ≤ p → p ≤ 511 → is_irreducible p ≡ false → first_number (polynomial_faults p) ≡ 4
unfolding polynomial_faults
reducible_number p l u e = first_left 3 (is_outside p) _ (inside p l u) ∙ first_taken 4 (not (is_irreducible p)) [] (ap not e)

-- a polynomial that passes has none of them, and only such a one
pub modulus_number : (p : ℕ) → Modulus p → first_number (polynomial_faults p) ≡ 0
unfolding polynomial_faults
modulus_number p h =
    first_left 3 (is_outside p) _ (inside p h.low h.high) ∙ first_left 4 (not (is_irreducible p)) [] (ap not h.irreducible) ∙ first_empty

pub number_modulus : (p : ℕ) → first_number (polynomial_faults p) ≡ 0 → Modulus p
unfolding polynomial_faults
number_modulus p e =
    let (outside, rest) = first_passed 3 0 (is_outside p) _ (λ h. omega arith) e in
    let (reducible, none) = first_passed 4 0 (not (is_irreducible p)) [] (λ h. omega arith) rest in
    let range = outside_false p outside in
    record { low = range.0; high = range.1; irreducible = not-false (is_irreducible p) reducible }

-- the faults behind those of a polynomial that passes decide
pub modulus_passed : {A : Type 0} (empty value : A) (p : ℕ) (more : List Fault) → Modulus p → answer_after empty more value ≡ answer_after empty (polynomial_faults p ++ more) value
unfolding polynomial_faults numbered
modulus_passed empty value p more h = after_later empty value (polynomial_faults p) more refl (modulus_number p h)

-- a call over a polynomial that passes: 7 for a value, 8 for a value that may not be, else it yields
module _ {A : Type 0} (empty value : A) {p q : ℕ} (large bad : Bool) (h : Modulus q) (e : q ≡ p) where
  passed : answer_after empty (fault 7 large ∷ fault 8 bad ∷ []) value ≡ answer_after empty (call_faults p false false large bad) value
  unfolding first_number answer_after
  passed = modulus_passed empty value p (fault 5 false ∷ fault 6 false ∷ fault 7 large ∷ fault 8 bad ∷ []) (subst Modulus e h)

  pub value_refused : large ≡ true → answer 7 empty ≡ answer_after empty (call_faults p false false large bad) value
  value_refused d = after_taken empty value ValueRange large _ d ∙ passed

  pub bad_refused : large ≡ false → bad ≡ true → answer 8 empty ≡ answer_after empty (call_faults p false false large bad) value
  bad_refused d f = after_taken empty value BadCandidate bad _ f ∙ after_left empty value 7 large _ d ∙ passed

  pub value_yielded : large ≡ false → bad ≡ false → answer 0 value ≡ answer_after empty (call_faults p false false large bad) value
  value_yielded d f = after_empty empty value ∙ after_left empty value 8 bad _ f ∙ after_left empty value 7 large _ d ∙ passed

-- where nothing is told, the polynomial passes, and nothing behind it is told
pub modulus_parts : (p : ℕ) (more : List Fault) → first_number (polynomial_faults p ++ more) ≡ 0 → Modulus p × (first_number more ≡ 0)
modulus_parts p more e =
    let (polynomial, rest) = first_parts (polynomial_faults p) more (unfold polynomial_faults numbered in refl) e in
    (number_modulus p polynomial, rest)

-- a polynomial that passes fits 16 bits
pub modulus_fits : {p : ℕ} → Modulus p → p < 65536
modulus_fits h = lt_of_le_of_lt h.high (lit< tt)

-- ---- 7

pub not_too_large : (p a : ℕ) → is_too_large p a ≡ false → a < 2 ^ degree p
unfolding is_too_large
not_too_large p a e = leb-false (2 ^ degree p) a e

-- a field has at most 256 elements
pub elements_most : (p : ℕ) → Modulus p → 2 ^ degree p ≤ 256
elements_most p h = pow_mono {j = 8} (polynomial p h).most

-- a width of at most 256 shifted by the degree: so many entries for each element
pub shifted_width : (width p m : ℕ) → Modulus p → width ≤ 256 → m ≡ degree p → width * 2 ^ m % 2 ^ 64 ≡ width * 2 ^ degree p
shifted_width width p m h l e = rw e (mod-eq_of_lt (lt_of_le_of_lt (mul-le-mul {n₂ = 256} {m₂ = 256} l (elements_most p h)) (lit< tt)))

-- an element fits a byte
pub element_fits : (p a : ℕ) → Modulus p → is_too_large p a ≡ false → a < 256
element_fits p a h e = lt_of_lt_of_le (not_too_large p a e) (elements_most p h)
