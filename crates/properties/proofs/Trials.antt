-- The search over choices of columns and lines, one choice at a time. Assumes nothing.
use mathlib.Core.Path.{◌≡◌, refl, sym, ap, ap₂, ◌∙◌}
use mathlib.Core.Bool.{Bool, true, false}
use mathlib.Core.List.{List, []}
use Prim.Native.Nat.{ℕ, zero, suc, ◌+◌, ◌-◌, ◌^◌, ◌≤◌, ◌<◌}
use native.Mathlib.Nat.{min-eq_left, min-eq_right}
use native.Mathlib.Numerals.{add-one}
use native.Mathlib.Omega.{arith}
use lib.Count.{ones}
use lib.ListN.{length, get_or, replicate}
use lib.Pow.{pow_pos}
use Rattle.algebra.specs.Operations.{Operations}
use Rattle.algebra.specs.Matrix.{chosen, has_kernel}
use Rattle.algebra.proofs.Bridge.{has_kernel_cong}
use Rattle.algebra.proofs.Kernel.{has_kernel_empty}
use Rattle.algebra.proofs.Choices.{chosen_lt}
use Rattle.lines.specs.Numbers.{numbers, elements, entry, InField}
use Rattle.lines.specs.Steps.Blocks.{filled, framed}
use Rattle.properties.specs.Steps.Pairs.{lowered, lines_kernel, over_lines, over_pairs}
use Rattle.matrix.proofs.Selections.{chosen_ones, ones_none, line_chosen, column_chosen}

-- ---- one choice

-- what is no less than the best needs no look
pub lowered_skip : (b : Bool) (a best : ℕ) → best ≤ a → best ≡ lowered b a best
lowered_skip true a best l = sym (min-eq_right l)
lowered_skip false a best l = refl

pub lowered_true : (b : Bool) (a best : ℕ) → b ≡ true → a ≤ best → a ≡ lowered b a best
lowered_true b a best e l = rw e (sym (min-eq_left l))

pub lowered_false : (b : Bool) (a best : ℕ) → b ≡ false → best ≡ lowered b a best
lowered_false b a best e = rw e refl

-- b has the chosen lines of m
module _ (p n c mask : ℕ) (m b : List (List ℕ)) (size : n ≤ 8) (below : mask < 2 ^ n)
    (is : b ≡ filled (replicate 8 0) (λ i. get_or m (get_or (chosen 8 mask) i 0) []) (length (chosen 8 mask))) where
  -- its kernel is that of the definition
  pub lines_kernel_holds : has_kernel (numbers p) (elements p) c (ones mask) (entry b) ≡ lines_kernel (numbers p) (elements p) n c (entry m) mask
  unfolding lines_kernel
  lines_kernel_holds =
      rw (← chosen_ones n mask below)
      (has_kernel_cong (numbers p) (elements p) c (length (chosen n mask)) (entry b) (λ i j. entry m (get_or (chosen n mask) i 0) j)
      (λ i j l k. ap (λ (line : List ℕ). get_or line j 0) (line_chosen n mask m b size below is i l)))

  -- and its entries are elements
  pub lines_in_field : InField p n c m → InField p (ones mask) c b
  unfolding InField
  lines_in_field h i j l k =
      let few : i < length (chosen n mask) = omega (arith, chosen_ones n mask below) in
      rw (line_chosen n mask m b size below is i few) (h (get_or (chosen n mask) i 0) j (chosen_lt n mask i few) k)

-- the same for columns
pub columns_in_field : (p n mask : ℕ) (m b : List (List ℕ)) (size : n ≤ 8) (below : mask < 2 ^ n)
    → b ≡ framed n (length (chosen 8 mask)) (λ i j. entry m i (get_or (chosen 8 mask) j 0)) → InField p n n m → InField p n (ones mask) b
unfolding InField
columns_in_field p n mask m b size below is h i j l k =
    let few : j < length (chosen n mask) = omega (arith, chosen_ones n mask below) in
    rw (column_chosen n mask m b size below n is i j l few) (h i (get_or (chosen n mask) j 0) l (chosen_lt n mask j few))

-- ---- all choices

-- 0 chooses nothing
chosen_none : (n : ℕ) → length (chosen n 0) ≡ 0
chosen_none n = chosen_ones n 0 (pow_pos n) ∙ ones_none

module _ (K : Operations) (all : List K.Element) (n : ℕ) where
  -- one choice of lines more
  pub lines_more : (c : ℕ) (g : ℕ → ℕ → K.Element) (r best least x : ℕ) → least ≡ over_lines K all n c g r best
      → x ≡ lowered (lines_kernel K all n c g r) (c + (n - length (chosen n r))) least → x ≡ over_lines K all n c g (r + 1) best
  unfolding over_lines
  lines_more c g r best least x e q = q ∙ rw (e, add-one r) refl

  -- only the n lines and c columns count
  pub lines_cong : (c : ℕ) (g h : ℕ → ℕ → K.Element) → ((i j : ℕ) → i < n → j < c → g i j ≡ h i j)
      → (k best : ℕ) → over_lines K all n c g k best ≡ over_lines K all n c h k best
  unfolding over_lines lines_kernel
  lines_cong c g h e zero best = refl
  lines_cong c g h e (suc r) best =
      ap₂ (λ (b : Bool) (a : ℕ). lowered b (c + (n - length (chosen n r))) a)
      (has_kernel_cong K all c (length (chosen n r)) (λ i j. g (get_or (chosen n r) i 0) j) (λ i j. h (get_or (chosen n r) i 0) j)
      (λ i j l k. e (get_or (chosen n r) i 0) j (chosen_lt n r i l) k))
      (lines_cong c g h e r best)

  -- one choice of c columns more, which g has
  pub pairs_more : (f g : ℕ → ℕ → K.Element) (s c best least x : ℕ) → c ≡ length (chosen n s)
      → ((i j : ℕ) → i < n → j < length (chosen n s) → g i j ≡ f i (get_or (chosen n s) j 0)) → least ≡ over_pairs K all n f s best
      → x ≡ over_lines K all n c g (2 ^ n) least → x ≡ over_pairs K all n f (s + 1) best
  unfolding over_pairs
  pairs_more f g s c best least x size same e q =
      q
      ∙ rw (size, e, add-one s)
      (lines_cong (length (chosen n s)) g (λ i j. f i (get_or (chosen n s) j 0)) same (2 ^ n) (over_pairs K all n f s best))

  lines_none : (g : ℕ → ℕ → K.Element) (k best : ℕ) → over_lines K all n 0 g k best ≡ best
  unfolding over_lines lines_kernel
  lines_none g zero best = refl
  lines_none g (suc k) best =
      rw (has_kernel_empty K all (length (chosen n k)) (λ i j. g (get_or (chosen n k) i 0) j)) (lines_none g k best)

  -- so the search may begin at 1
  pub pairs_one : (f : ℕ → ℕ → K.Element) (best : ℕ) → over_pairs K all n f 1 best ≡ best
  unfolding over_pairs
  pairs_one f best =
      ap (λ (c : ℕ). over_lines K all n c (λ i j. f i (get_or (chosen n 0) j 0)) (2 ^ n) best) (chosen_none n)
      ∙ lines_none (λ i j. f i (get_or (chosen n 0) j 0)) (2 ^ n) best
