-- The elimination on arrays of arrays: the pivot, the lines left without it, and the entries of the cleared block. Assumes nothing.
use mathlib.Core.Path.{◌≡◌, refl, sym, ap, subst, ◌∙◌}
use mathlib.Core.Bool.{Bool, true, false, cond, not}
use mathlib.Core.List.{List, [], ◌∷◌}
use mathlib.Core.Logic.{⊎_elim}
use Prim.Native.Nat.{ℕ, zero, suc, ◌+◌, ◌-◌, ◌^◌, ◌≤◌, ◌<◌}
use native.Mathlib.Nat.{not-suc-le-zero, le_of_suc-le-suc, eq-or-lt_of_le}
use native.Mathlib.Omega.{arith}
use borrow.Author.Tests.{ltb-true, ltb-false, eqb-true, not-true, not-false}
use lib.Dec.{eqb, ltb}
use lib.ListN.{length, get_or, take}
use lib.Seq.{length-take-le}
use Rattle.std.specs.List.{position, prefix_len}
use Rattle.std.specs.Option.{MatchOption}
use Rattle.std.specs.declared.option.Option.{Option}
use Rattle.std.specs.declared.option.Option.TheVariants.{None, Some}
use Rattle.algebra.specs.Matrix.{skip, has_kernel}
use Rattle.algebra.specs.Steps.{cleared_line, cleared}
use Rattle.algebra.proofs.Bridge.{has_kernel_cong}
use Rattle.algebra.proofs.Kernel.{has_kernel_empty}
use Rattle.field.specs.Polynomial.{Modulus, degree, product, or_next, first_below}
use Rattle.field.proofs.Sum.{sum_lt}
use Rattle.field.proofs.Degrees.{polynomial}
use Rattle.field.proofs.Field.{times_lt}
use Rattle.field.proofs.Inverses.{first_le, first_before, first_there}
use Rattle.lines.specs.Numbers.{numbers, elements, entry, InField}
use Rattle.lines.specs.Steps.Blocks.{filled, framed}
use Rattle.lines.proofs.Filled.{entry_of}
use Rattle.matrix.proofs.Theorems.{kernel_free, kernel_step}

-- ---- the cleared block

-- line i of it, by the pivot's line and line l
pub cleared_as : (p : ℕ) (m : List (List ℕ)) (k i l n : ℕ) (x : List ℕ) → l ≡ skip k i
    → x ≡ filled 0 (cleared_line (numbers p) (entry m k) (entry m l)) n → x ≡ filled 0 (cleared (numbers p) (entry m) k i) n
unfolding cleared
cleared_as p m k i l n x e f = f ∙ rw e refl

-- its entries are elements
cleared_lt : (p : ℕ) → Modulus p → (f : ℕ → ℕ → ℕ) (k i j : ℕ) → cleared (numbers p) f k i j < 2 ^ degree p
unfolding cleared
cleared_lt p h f k i j =
    let d = (polynomial p h).has in
    sum_lt (degree p) (product p (f k 0) (f (skip k i) (suc j))) (product p (f (skip k i) 0) (f k (suc j)))
    (times_lt p (degree p) d (f k 0) (f (skip k i) (suc j)))
    (times_lt p (degree p) d (f (skip k i) 0) (f k (suc j)))

-- ---- the pivot

-- the lines before the first that passes, among the first r lines
passed : (test : List ℕ → Bool) (r : ℕ) (m : List (List ℕ)) → r ≤ length m → prefix_len (λ line. not (test line)) (take r m) ≡ first_below r (λ i. test (get_or m i []))
unfolding first_below
passed test zero m l = refl
passed test (suc r) [] l = absurd (not-suc-le-zero l)
passed test (suc r) (x ∷ m) l = rw (passed test r m (le_of_suc-le-suc l)) (decide (test x))
  where
    decide : (t : Bool) → cond (not t) (1 + first_below r (λ i. test (get_or m i []))) 0 ≡ or_next t (first_below r (λ i. test (get_or m i [])))
    decide true = refl
    decide false = omega arith

module _ (r : ℕ) (m : List (List ℕ)) (l : r ≤ length m) where
  abbrev Found : Option ℕ → Type 0
  Found o = MatchOption o (r ≡ first_below r (λ i. not (eqb (entry m i 0) 0))) (λ k. (k < r) × (k ≡ first_below r (λ i. not (eqb (entry m i 0) 0))))

  -- none of the lines is the pivot's, or line k is
  pub pivot_found : (o : Option ℕ) → o ≡ position (λ line. not (eqb (get_or line 0 0) 0)) (take r m) → Found o
  pivot_found o e = subst Found (sym e) (decide (ltb n (length (take r m))) refl)
    where
      test : List ℕ → Bool
      test line = not (eqb (get_or line 0 0) 0)

      n : ℕ
      n = prefix_len (λ line. not (test line)) (take r m)

      is : n ≡ first_below r (λ i. not (eqb (entry m i 0) 0))
      is = passed test r m l

      decide : (t : Bool) → ltb n (length (take r m)) ≡ t → Found (cond t (Some n) None)
      decide true q = (omega (arith, ltb-true n _ q, length-take-le r m l), is)
      decide false q = omega (arith, ltb-false n _ q, length-take-le r m l, is, first_le r (λ i. not (eqb (entry m i 0) 0)))

-- ---- the recursion

module _ (p : ℕ) (h : Modulus p) (r : ℕ) (m : List (List ℕ)) where
  -- whether c columns of the block send an input that is not zero to zero
  abbrev Answers : ℕ → Bool → Type 0
  Answers c b = b ≡ has_kernel (numbers p) (elements p) c r (entry m)

  -- no column
  pub kernel_empty : (c : ℕ) → c ≡ 0 → Answers c false
  kernel_empty c e = sym (ap (λ (n : ℕ). has_kernel (numbers p) (elements p) n r (entry m)) e ∙ has_kernel_empty (numbers p) (elements p) r (entry m))

  -- the pivot's line k
  module _ (k : ℕ) (first : k ≡ first_below r (λ i. not (eqb (entry m i 0) 0))) where
    -- there is none
    pub pivot_none : (c : ℕ) → 0 < c → InField p r c m → k ≡ r → Answers c true
    unfolding InField
    pivot_none zero l inside e = absurd (not-suc-le-zero l)
    pivot_none (suc c) l inside e =
        sym (kernel_free p h c r (entry m) inside (λ i g.
        eqb-true (entry m i 0) 0 (not-false _ (first_before r (λ i. not (eqb (entry m i 0) 0)) i (omega arith)))))

    -- it is one of the lines
    pub pivot_lt : (k ≡ r → ⊥) → k < r
    pivot_lt d = ⊎_elim (λ e. absurd (d e)) (λ l. l) (eq-or-lt_of_le (rw first (first_le r (λ i. not (eqb (entry m i 0) 0)))))

    -- and clears the others: b is the block that is left
    module _ (b : List (List ℕ)) (c : ℕ) (cleared-is : b ≡ framed (r - 1) (c - 1) (cleared (numbers p) (entry m) k)) where
      entries : (i j : ℕ) → i < r - 1 → j < c - 1 → entry b i j ≡ cleared (numbers p) (entry m) k i j
      entries = entry_of (r - 1) (c - 1) (cleared (numbers p) (entry m) k) b cleared-is

      pub cleared_in_field : InField p (r - 1) (c - 1) b
      unfolding InField
      cleared_in_field i j l n = rw (entries i j l n) (cleared_lt p h (entry m) k i j)

    pub pivot_step : (b : List (List ℕ)) (c : ℕ) → b ≡ framed (r - 1) (c - 1) (cleared (numbers p) (entry m) k) → 0 < c → InField p r c m → (k ≡ r → ⊥)
        → (t : Bool) → t ≡ has_kernel (numbers p) (elements p) (c - 1) (r - 1) (entry b) → Answers c t
    unfolding InField
    pivot_step b zero e l inside d t q = absurd (not-suc-le-zero l)
    pivot_step b (suc c) e l inside d t q =
        let one : suc c - 1 ≡ c = omega arith in
        (rw one at q)
        ∙ has_kernel_cong (numbers p) (elements p) c (r - 1) (entry b) (cleared (numbers p) (entry m) k) (rw one at (entries b (suc c) e))
        ∙ sym (kernel_step p h c r (entry m) inside k (pivot_lt d) (not-true _ there))
      where
        there : not (eqb (entry m k 0) 0) ≡ true
        there = rw first (first_there r (λ i. not (eqb (entry m i 0) 0)) (rw (← first) (pivot_lt d)))
