-- `field::table::Field::product` meets its contract, in the steps of FIPS 197 (2001), section 4.2.1: what the values of a turn are say `doubled_power` and `sum_after_holds`.
-- Assumes nothing.
use mathlib.Core.Path.{◌≡◌}
use Prim.Native.Nat.{ℕ, suc, ◌/◌, ◌^◌}
use Rattle.field.specs.Doubling.{doubled, sum_after}
use Rattle.field.proofs.table.Field.product.Given as goal

-- ---- the invariant
-- The value is doubled k times, the bits of b from bit k on are left, and the sum is that after bits 0 to k.
pub record Turn (p a b k value bits sum : ℕ) : Type 0 where
  pub value_is : value ≡ doubled p a k
  pub bits_are : bits ≡ b / 2 ^ k
  pub sum_is : sum ≡ sum_after p a b (suc k)

-- ---- the code
abbrev pub invariant-loop-bits : goal.invariant-loop-bits
invariant-loop-bits l = (k : ℕ) × Turn l.self.polynomial l.a l.b k l.doubled l.bits l.sum

abbrev pub decreases-loop-bits : goal.decreases-loop-bits
decreases-loop-bits l = l.bits
