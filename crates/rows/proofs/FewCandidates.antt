-- Fewer candidates than the order: no row over them has both properties, since the entries of such a row differ. Assumes nothing.
use mathlib.Core.Path.{◌≡◌, refl, sym, ap, ◌∙◌}
use mathlib.Core.Bool.{Bool, true, false, cond}
use mathlib.Core.List.{List, Memᴰ}
use Prim.Native.Nat.{ℕ, zero, suc, ◌-◌, ◌^◌, ◌≤◌, ◌<◌, zero-le, suc-le-suc}
use native.Mathlib.Nat.{le_refl, le-suc, le_trans}
use native.Mathlib.Omega.{arith}
use lib.Dec.{ltb}
use lib.ListN.{length, get_or}
use borrow.Author.Tests.{ltb-true, ltb-false, eq-eqb}
use Rattle.algebra.specs.Matrix.{is_mds}
use Rattle.field.specs.Polynomial.{Modulus, degree}
use Rattle.rows.specs.Shape.{is_good, hadamard_shape}
use Rattle.rows.specs.Demands.{Both}
use Rattle.rows.specs.Steps.Orders.{SearchOrder}
use Rattle.rows.proofs.Rows.{mem_at, get_d_mem}
use Rattle.rows.proofs.HadamardRows.{good_hadamard, good_different, over_in_field}

-- ---- different numbers below c are at most c

-- the numbers but v, counted on
lowered : ℕ → ℕ → ℕ
lowered v x = cond (ltb v x) (x - 1) x

lowered_lt : (v x c : ℕ) → (x ≡ v → ⊥) → x < suc c → v < suc c → lowered v x < c
unfolding lowered
lowered_lt v x c d l m = go (ltb v x) refl
  where
    go : (t : Bool) → ltb v x ≡ t → cond t (x - 1) x < c
    go true e = omega (arith, ltb-true v x e)
    go false e = omega (arith, ltb-false v x e)

lowered_same : (v x y : ℕ) → (x ≡ v → ⊥) → (y ≡ v → ⊥) → lowered v x ≡ lowered v y → x ≡ y
unfolding lowered
lowered_same v x y d f e = go (ltb v x) (ltb v y) refl refl e
  where
    go : (s t : Bool) → ltb v x ≡ s → ltb v y ≡ t → cond s (x - 1) x ≡ cond t (y - 1) y → x ≡ y
    go true true a b q = omega (arith, ltb-true v x a, ltb-true v y b)
    go true false a b q = omega (arith, ltb-true v x a, ltb-false v y b)
    go false true a b q = omega (arith, ltb-false v x a, ltb-true v y b)
    go false false a b q = q

pub different_le : (n c : ℕ) (g : (i : ℕ) → i < n → ℕ) → ((i : ℕ) (l : i < n) → g i l < c)
    → ((i j : ℕ) (l : i < n) (m : j < n) → g i l ≡ g j m → i ≡ j) → n ≤ c
different_le zero c g below different = zero-le
different_le (suc n) zero g below different = absurd (let l = below n (le_refl (suc n)) in omega arith)
different_le (suc n) (suc c) g below different =
    suc-le-suc (different_le n c (λ i l. lowered last (g i (up l)))
    (λ i l. lowered_lt last (g i (up l)) c (apart i l) (below i (up l)) (below n (le_refl (suc n))))
    (λ i j l m e. different i j (up l) (up m) (lowered_same last (g i (up l)) (g j (up m)) (apart i l) (apart j m) e)))
  where
    last : ℕ
    last = g n (le_refl (suc n))

    up : {i : ℕ} → i < n → i < suc n
    up l = le_trans l (le-suc n)

    apart : (i : ℕ) (l : i < n) → g i (up l) ≡ last → ⊥
    apart i l e = let q = different i n (up l) (le_refl (suc n)) e in omega arith

-- ---- rows

-- a row over the candidates whose entries differ is not longer than their list
pub different_over : (n : ℕ) (candidates row : List ℕ) → length row ≡ n → ((a : ℕ) → Memᴰ a row → Memᴰ a candidates)
    → ((i j : ℕ) → i < n → j < n → get_or row i 0 ≡ get_or row j 0 → i ≡ j) → n ≤ length candidates
different_over n candidates row e over different =
    different_le n (length candidates) (λ i l. (place i l).0) (λ i l. (place i l).1)
    (λ i j l m q. different i j l m (sym (place i l).2 ∙ ap (λ (k : ℕ). get_or candidates k 0) q ∙ (place j m).2))
  where
    place : (i : ℕ) → i < n → (k : ℕ) × (k < length candidates) × (get_or candidates k 0 ≡ get_or row i 0)
    place i l = mem_at candidates (get_or row i 0) (over (get_or row i 0) (get_d_mem row i 0 (rw e l)))

-- a row with both properties needs as many candidates as it has entries
pub few_candidates : (p n : ℕ) → Modulus p → SearchOrder n → (candidates : List ℕ) → ((a : ℕ) → Memᴰ a candidates → a < 2 ^ degree p)
    → (row : List ℕ) → Both p n candidates row → n ≤ length candidates
few_candidates p n h o candidates fits row b =
    different_over n candidates row b.entries b.over
    (good_different p n h o row (over_in_field p n candidates fits row b.entries b.over) good)
  where
    good : is_good hadamard_shape p n row ≡ true
    good = unfold is_mds in (good_hadamard p n row ∙ (rw b.involution (eq-eqb _ (suc n) b.branch)))
