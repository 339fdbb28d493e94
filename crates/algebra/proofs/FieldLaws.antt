-- The laws of a field of characteristic 2, over which the theorems of this crate are stated. Assumes nothing.
use mathlib.Core.Path.{◌≡◌}
use mathlib.Core.Bool.{true, false}
use Rattle.algebra.specs.Operations.{Operations}

-- the laws of a field in which every element is its own negative
pub record Field (K : Operations) : Type 0 where
  pub plus_assoc : (a b c : K.Element) → K.plus (K.plus a b) c ≡ K.plus a (K.plus b c)
  pub plus_comm : (a b : K.Element) → K.plus a b ≡ K.plus b a
  pub plus_null : (a : K.Element) → K.plus a K.null ≡ a
  pub plus_self : (a : K.Element) → K.plus a a ≡ K.null
  pub times_assoc : (a b c : K.Element) → K.times (K.times a b) c ≡ K.times a (K.times b c)
  pub times_comm : (a b : K.Element) → K.times a b ≡ K.times b a
  pub times_one : (a : K.Element) → K.times a K.one ≡ a
  pub times_plus : (a b c : K.Element) → K.times a (K.plus b c) ≡ K.plus (K.times a b) (K.times a c)
  pub null_is : K.is_null K.null ≡ true
  pub is_null_holds : (a : K.Element) → K.is_null a ≡ true → a ≡ K.null
  pub one_not_null : K.is_null K.one ≡ false
  pub inverse : (a : K.Element) → K.is_null a ≡ false → (b : K.Element) × (K.times a b ≡ K.one)
