-- The walk's laws for each family: its orders, that its tests look back, its forced last letter, and that the rows that are tried are enough.
-- Assumes nothing.
use mathlib.Core.Path.{◌≡◌, refl}
use mathlib.Core.Bool.{Bool, true, false, ◌&&◌, true≢false, false≢true}
use mathlib.Core.List.{List}
use Prim.Native.Nat.{ℕ, ◌^◌, ◌≤◌, ◌<◌}
use native.Mathlib.Omega.{arith}
use lib.Dec.{eqb}
use borrow.Author.Tests.{eq-eqb}
use Rattle.algebra.specs.Matrix.{words}
use Rattle.field.specs.Polynomial.{Modulus, degree}
use Rattle.rows.specs.declared.Family.{Family}
use Rattle.rows.specs.declared.Family.TheVariants.{Hadamard, Circulant}
use Rattle.rows.specs.Lightest.{ascending, lightest}
use Rattle.rows.specs.Shape.{shape_of}
use Rattle.rows.specs.Keys.{key_of, lightest_row}
use Rattle.cuts.specs.Steps.Cuts.{tried}
use Rattle.cuts.specs.Steps.Hadamard.{last_letter}
use Rattle.cuts.specs.Steps.Families.{OrderOf, is_forced, may_end_of, cuts_of}
use Rattle.cuts.proofs.Pruning.{LooksBack, OnlyLast}
use Rattle.cuts.proofs.HadamardCuts.{order_most, order_least, planes_back, only_last, tried_rows}
use Rattle.cuts.proofs.CirculantCuts.{pairs_back, tried_circulants}

-- ---- the orders

pub family_most : (family : Family) (n : ℕ) → OrderOf family n → n ≤ 8
family_most Hadamard n o = order_most n o
family_most Circulant n o = o.1

pub family_least : (family : Family) (n : ℕ) → OrderOf family n → 0 < n
family_least Hadamard n o = order_least n o
family_least Circulant n o = omega (arith, o.0)

-- ---- the cuts

pub family_back : (family : Family) (p n : ℕ) → LooksBack (cuts_of family p n)
family_back Hadamard p n = planes_back p n
family_back Circulant p n = pairs_back p n

-- where the last letter is forced, it alone may be the last
pub family_forced : (family : Family) (p n : ℕ) (q : List ℕ) (a : ℕ) (last : Bool) → (is_forced family && last) ≡ true → a ≡ last_letter q → OnlyLast (cuts_of family p n) q a
family_forced Hadamard p n q a last f e = only_last p n q a e
family_forced Circulant p n q a last f e = absurd (false≢true f)

-- and the place is the last
pub forced_last : (family : Family) (last : Bool) → (is_forced family && last) ≡ true → last ≡ true
forced_last Hadamard last f = f
forced_last Circulant last f = absurd (false≢true f)

-- where it is not, any letter may be the last
pub family_free : (family : Family) (q : List ℕ) (a m n : ℕ) → (is_forced family && eqb m n) ≡ false → m ≡ n → may_end_of family q a ≡ true
family_free Hadamard q a m n f e = absurd (true≢false (rw (eq-eqb m n e) at f))
family_free Circulant q a m n f e = refl

-- the lightest row is the lightest of those that are tried
pub family_rows : (family : Family) (p n : ℕ) → Modulus p → OrderOf family n → (cs : List ℕ)
    → lightest_row (shape_of family) p n cs ≡ lightest (tried (cuts_of family p n) p n) (key_of p n) (words (ascending (2 ^ degree p) cs) n)
family_rows Hadamard p n h o cs = tried_rows p n h o cs
family_rows Circulant p n h o cs = tried_circulants p n h o cs
