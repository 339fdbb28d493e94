-- The tests of the field's calls decide what document 01 says, and so a number applies to a call exactly if it is stated (`call_exactly`,
-- a law of every call with a polynomial), and the lowest of them is returned (`call_lowest`). Assumes nothing.
use mathlib.Core.Path.{◌≡◌, refl}
use mathlib.Core.Logic.{◌↔◌, ◌⊎◌, inl, inr}
use mathlib.Core.Bool.{Bool, true, false, not, ◌||◌}
use mathlib.Core.List.Memᴰ
use mathlib.Core.List.{Memᴰ}
use Prim.Native.Nat.{ℕ, ◌≤◌, ◌<◌, ◌^◌}
use lib.Dec.{lit≤}
use Rattle.refusal.specs.Refusals.{fault, Applies, LowestOf, answer_after}
use Rattle.refusal.proofs.Faults.{numbered, ascends, fault_here, fault_cases, lowest_after, lowest_same}
use Rattle.refusal.proofs.Tests.{never_passes, below_exactly, most_exactly, same_exactly, not_exactly, or_exactly}
use Rattle.field.specs.Polynomial.{degree, Irreducible, is_irreducible}
use Rattle.field.specs.Faults.{is_outside, is_too_large, polynomial_faults, call_faults, product_faults, inverse_faults, count_faults}
use Rattle.field.specs.Stated.{SomeTooLarge, Stated, outside, reducible, wrong_order, wrong_count, too_large, bad_value, DegreeStated, ProductStated, InverseStated, CountStated}
use Rattle.field.proofs.Irreducibility.{irreducible_to, irreducible_from}

-- ---- the tests

pub outside_exactly : (p : ℕ) → (is_outside p ≡ true) ↔ ((p < 4) ⊎ (511 < p))
unfolding is_outside
outside_exactly p = or_exactly _ _ (below_exactly p 4) (below_exactly 511 p)

pub reducible_exactly : (p : ℕ) → (not (is_irreducible p) ≡ true) ↔ (Irreducible p → ⊥)
reducible_exactly p = not_exactly _ (irreducible_to p, irreducible_from p)

pub too_large_exactly : (p a : ℕ) → (is_too_large p a ≡ true) ↔ (2 ^ degree p ≤ a)
unfolding is_too_large
too_large_exactly p a = most_exactly (2 ^ degree p) a

-- one value, no value, and the values of two parts
pub one_too_large : (p a : ℕ) → (is_too_large p a ≡ true) ↔ SomeTooLarge p (λ x. x ≡ a)
one_too_large p a = (λ e. (a, refl, (too_large_exactly p a).0 e), λ (x, q, l). (too_large_exactly p a).1 (rw (← q) l))

pub none_too_large : (p : ℕ) → (false ≡ true) ↔ SomeTooLarge p (λ x. ⊥)
none_too_large p = (λ e. absurd (never_passes.0 e), λ (x, q, l). absurd q)

pub either_too_large : (p : ℕ) {Left Right : ℕ → Type 0} (a b : Bool) → (a ≡ true) ↔ SomeTooLarge p Left → (b ≡ true) ↔ SomeTooLarge p Right
    → ((a || b) ≡ true) ↔ SomeTooLarge p (λ x. Left x ⊎ Right x)
either_too_large p {Left} {Right} a b h k = (λ e. joined ((or_exactly a b h k).0 e), λ s. (or_exactly a b h k).1 (parted s))
  where
    joined : SomeTooLarge p Left ⊎ SomeTooLarge p Right → SomeTooLarge p (λ x. Left x ⊎ Right x)
    joined (inl (x, v, l)) = (x, inl v, l)
    joined (inr (x, w, l)) = (x, inr w, l)

    parted : SomeTooLarge p (λ x. Left x ⊎ Right x) → SomeTooLarge p Left ⊎ SomeTooLarge p Right
    parted (x, inl v, l) = inl (x, v, l)
    parted (x, inr w, l) = inr (x, w, l)

-- ---- every call with a polynomial

-- the tests of a call decide what is stated of it
module _ (p : ℕ) {WrongOrder WrongCount : Type 0} {Value : ℕ → Type 0} {BadValue : Type 0} {order count large bad : Bool}
    (five : (order ≡ true) ↔ WrongOrder) (six : (count ≡ true) ↔ WrongCount)
    (seven : (large ≡ true) ↔ SomeTooLarge p Value) (eight : (bad ≡ true) ↔ BadValue) where
  -- a number applies exactly if it is stated
  pub call_exactly : (k : ℕ) → Applies (call_faults p order count large bad) k ↔ Stated p WrongOrder WrongCount Value BadValue k
  unfolding Applies polynomial_faults
  call_exactly k = (to, from)
    where
      to : Memᴰ (fault k true) (call_faults p order count large bad) → Stated p WrongOrder WrongCount Value BadValue k
      to =
          fault_cases 3 (λ e t. rw e (outside ((outside_exactly p).0 t)))
          (fault_cases 4 (λ e t. rw e (reducible ((reducible_exactly p).0 t)))
          (fault_cases 5 (λ e t. rw e (wrong_order (five.0 t)))
          (fault_cases 6 (λ e t. rw e (wrong_count (six.0 t)))
          (fault_cases 7 (λ e t. rw e (too_large (seven.0 t)))
          (fault_cases 8 (λ e t. rw e (bad_value (eight.0 t)))
          (λ m. absurd (Memᴰ.not-nil m)))))))

      from : {k : ℕ} → Stated p WrongOrder WrongCount Value BadValue k → Memᴰ (fault k true) (call_faults p order count large bad)
      from (outside h) = fault_here 3 ((outside_exactly p).1 h)
      from (reducible h) = Memᴰ.tail (fault_here 4 ((reducible_exactly p).1 h))
      from (wrong_order h) = Memᴰ.tail (Memᴰ.tail (fault_here 5 (five.1 h)))
      from (wrong_count h) = Memᴰ.tail (Memᴰ.tail (Memᴰ.tail (fault_here 6 (six.1 h))))
      from (too_large h) = Memᴰ.tail (Memᴰ.tail (Memᴰ.tail (Memᴰ.tail (fault_here 7 (seven.1 h)))))
      from (bad_value h) = Memᴰ.tail (Memᴰ.tail (Memᴰ.tail (Memᴰ.tail (Memᴰ.tail (fault_here 8 (eight.1 h))))))

-- what is stated has a number up to 8
pub stated_most : {p : ℕ} {WrongOrder WrongCount : Type 0} {Value : ℕ → Type 0} {BadValue : Type 0} {k : ℕ}
    → Stated p WrongOrder WrongCount Value BadValue k → k ≤ 8
stated_most (outside h) = lit≤ tt
stated_most (reducible h) = lit≤ tt
stated_most (wrong_order h) = lit≤ tt
stated_most (wrong_count h) = lit≤ tt
stated_most (too_large h) = lit≤ tt
stated_most (bad_value h) = lit≤ tt

-- the number returned is the lowest that applies, 0 where none does
pub call_lowest : {A : Type 0} (empty value : A) (p : ℕ) (order count large bad : Bool)
    → LowestOf (Applies (call_faults p order count large bad)) (answer_after empty (call_faults p order count large bad) value).number
unfolding polynomial_faults numbered ascends
call_lowest empty value p order count large bad = lowest_after empty value (call_faults p order count large bad) refl refl

-- ---- the calls of the field

pub degree_exactly : (p k : ℕ) → Applies (polynomial_faults p) k ↔ DegreeStated p k
unfolding Applies polynomial_faults
degree_exactly p k = (to, from)
  where
    to : Memᴰ (fault k true) (polynomial_faults p) → DegreeStated p k
    to =
        fault_cases 3 (λ e t. rw e (outside ((outside_exactly p).0 t)))
        (fault_cases 4 (λ e t. rw e (reducible ((reducible_exactly p).0 t))) (λ m. absurd (Memᴰ.not-nil m)))

    from : {k : ℕ} → DegreeStated p k → Memᴰ (fault k true) (polynomial_faults p)
    from (outside h) = fault_here 3 ((outside_exactly p).1 h)
    from (reducible h) = Memᴰ.tail (fault_here 4 ((reducible_exactly p).1 h))
    from (wrong_order h) = absurd h
    from (wrong_count h) = absurd h
    from (too_large h) = absurd h.1
    from (bad_value h) = absurd h

pub product_exactly : (p a b k : ℕ) → Applies (product_faults p a b) k ↔ ProductStated p a b k
unfolding product_faults
product_exactly p a b = call_exactly p never_passes never_passes (either_too_large p _ _ (one_too_large p a) (one_too_large p b)) never_passes

pub inverse_exactly : (p a k : ℕ) → Applies (inverse_faults p a) k ↔ InverseStated p a k
unfolding inverse_faults
inverse_exactly p a = call_exactly p never_passes never_passes (one_too_large p a) (same_exactly a 0)

pub count_exactly : (p a k : ℕ) → Applies (count_faults p a) k ↔ CountStated p a k
unfolding count_faults
count_exactly p a = call_exactly p never_passes never_passes (one_too_large p a) never_passes

-- what their contracts yield: the lowest number that is stated, 0 where none is
module _ {A : Type 0} (empty value : A) (p : ℕ) where
  pub degree_lowest : LowestOf (DegreeStated p) (answer_after empty (polynomial_faults p) value).number
  unfolding polynomial_faults numbered ascends
  degree_lowest = lowest_same (degree_exactly p) (lowest_after empty value (polynomial_faults p) refl refl)

  pub product_lowest : (a b : ℕ) → LowestOf (ProductStated p a b) (answer_after empty (product_faults p a b) value).number
  unfolding product_faults
  product_lowest a b = lowest_same (product_exactly p a b) (call_lowest empty value p _ _ _ _)

  pub inverse_lowest : (a : ℕ) → LowestOf (InverseStated p a) (answer_after empty (inverse_faults p a) value).number
  unfolding inverse_faults
  inverse_lowest a = lowest_same (inverse_exactly p a) (call_lowest empty value p _ _ _ _)

  pub count_lowest : (a : ℕ) → LowestOf (CountStated p a) (answer_after empty (count_faults p a) value).number
  unfolding count_faults
  count_lowest a = lowest_same (count_exactly p a) (call_lowest empty value p _ _ _ _)
