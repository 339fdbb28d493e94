-- The depth of a line. `depth_reaches`, `depth_least`: the depth of an output bit with t ones is the least d with 2^d at least t. More ones are
-- never shallower, so the greatest number of ones decides (`depth_greatest`). The depth of a line is the greatest over its m output bits
-- (`bit_not_deeper`, `line_depth_least`). The places of the entries do not matter (`depth_permuted`, `depth_moved`); so every output of a Hadamard
-- matrix has the depth of the first (`hadamard_depth`). A depth is at most n·m (`line_depth_le`), and at most 6 up to order 8 (`line_depth_six`).
-- Assumes nothing.
use mathlib.Core.Path.{◌≡◌, refl, sym, ap, ap₂, ◌∙◌}
use mathlib.Core.Logic.{⊎_elim}
use mathlib.Core.Bool.{true≢false}
use mathlib.Core.List.{List}
use Prim.Native.Nat.{ℕ, zero, suc, ◌+◌, ◌-◌, ◌*◌, ◌%◌, ◌^◌, ◌≤◌, ◌<◌, max, zero-le}
use native.Mathlib.Nat.{le_refl, le_trans, le_antisymm, lt_of_lt_of_le, eq-or-lt_of_le, max-le, max-zero, max-eq_left, max-eq_right, le-max_left, le-max_right, div-eq_of_lt, mul-le-mul, one-mul, add-suc, add-zero, pow-suc}
use native.Mathlib.Omega.{arith}
use lib.Bits.{bit_xor, xor_comm}
use lib.Dec.{leb}
use lib.ListN.{get_or}
use lib.Pow.{pow_mono}
use borrow.Author.Tests.{leb-true, le-leb}
use Rattle.algebra.specs.Matrix.{hadamard}
use Rattle.algebra.specs.Places.{moved, Inverse}
use Rattle.algebra.proofs.Sums.{le_or_lt}
use Rattle.algebra.proofs.Xor.{xor_own}
use Rattle.field.specs.Polynomial.{Modulus, degree, product, first_below}
use Rattle.field.proofs.Degrees.{polynomial}
use Rattle.field.proofs.Field.{times_lt}
use Rattle.field.proofs.Inverses.{first_le, first_before, first_there}
use Rattle.lines.specs.Numbers.{numbers}
use Rattle.lines.specs.Counts.{total}
use Rattle.lines.specs.Depths.{bit, ones_in_line, output_ones, depth_of, greatest, line_depth}
use Rattle.lines.proofs.Bits.{at_bit}
use Rattle.lines.proofs.Tallies.{total_le, total_cong, total_permuted, moved_at}

-- ---- the depth of an output bit

-- a number is below its power of 2
below_power : (t : ℕ) → t < 2 ^ t
below_power zero = le_refl 1
below_power (suc t) = omega (arith, below_power t, pow-suc 2 t)

-- 2^d is at least t
pub depth_reaches : (t : ℕ) → t ≤ 2 ^ depth_of t
unfolding depth_of
depth_reaches t =
    ⊎_elim (λ (e : first_below t (λ d. leb t (2 ^ d)) ≡ t). rw e (omega (arith, below_power t)))
    (λ (l : first_below t (λ d. leb t (2 ^ d)) < t). leb-true t _ (first_there t (λ d. leb t (2 ^ d)) l))
    (eq-or-lt_of_le (first_le t (λ d. leb t (2 ^ d))))

-- and d is the least such number
pub depth_least : (t d : ℕ) → t ≤ 2 ^ d → depth_of t ≤ d
unfolding depth_of
depth_least t d l =
    ⊎_elim (λ (h : depth_of t ≤ d). h)
    (λ (h : d < depth_of t). absurd (true≢false (sym (le-leb t (2 ^ d) l) ∙ first_before t (λ d. leb t (2 ^ d)) d h)))
    (le_or_lt (depth_of t) d)

-- only one number is that
pub depth_is : (t d : ℕ) → t ≤ 2 ^ d → ((e : ℕ) → e < d → 2 ^ e < t) → d ≡ depth_of t
depth_is t d l least =
    le_antisymm
    (⊎_elim (λ (h : d ≤ depth_of t). h) (λ (h : depth_of t < d). let z : ⊥ = omega (arith, least (depth_of t) h, depth_reaches t) in absurd z) (le_or_lt d (depth_of t)))
    (depth_least t d l)

-- it is at most t
depth_le : (t : ℕ) → depth_of t ≤ t
unfolding depth_of
depth_le t = first_le t (λ d. leb t (2 ^ d))

-- more ones are not shallower
pub depth_mono : (s t : ℕ) → s ≤ t → depth_of s ≤ depth_of t
depth_mono s t l = depth_least s (depth_of t) (le_trans l (depth_reaches t))

depth_max : (s t : ℕ) → depth_of (max s t) ≡ max (depth_of s) (depth_of t)
depth_max s t =
    ⊎_elim (λ (l : s ≤ t). ap depth_of (max-eq_right l) ∙ sym (max-eq_right (depth_mono s t l)))
    (λ (l : t < s). ap depth_of (max-eq_left (omega arith)) ∙ sym (max-eq_left (depth_mono t s (omega arith)))) (le_or_lt s t)

-- ---- the greatest

pub greatest_le : (n k : ℕ) (f : ℕ → ℕ) → ((i : ℕ) → i < n → f i ≤ k) → greatest n f ≤ k
unfolding greatest
greatest_le zero k f h = zero-le
greatest_le (suc n) k f h = max-le (greatest_le n k f (λ i l. h i (omega arith))) (h n (le_refl (suc n)))

-- none is greater
pub le_greatest : (n : ℕ) (f : ℕ → ℕ) (i : ℕ) → i < n → f i ≤ greatest n f
unfolding greatest
le_greatest zero f i l = let z : ⊥ = omega arith in absurd z
le_greatest (suc n) f i l =
    ⊎_elim (λ (e : suc i ≡ suc n). let same : i ≡ n = omega arith in rw same (le-max_right (greatest n f) (f n)))
    (λ (h : suc i < suc n). le_trans (le_greatest n f i (omega arith)) (le-max_left (greatest n f) (f n))) (eq-or-lt_of_le l)

pub greatest_cong : (n : ℕ) (f g : ℕ → ℕ) → ((i : ℕ) → i < n → f i ≡ g i) → greatest n f ≡ greatest n g
unfolding greatest
greatest_cong zero f g h = refl
greatest_cong (suc n) f g h = ap₂ max (greatest_cong n f g (λ i l. h i (omega arith))) (h n (le_refl (suc n)))

greatest_zero : (n : ℕ) (f : ℕ → ℕ) → f n ≡ 0 → greatest (suc n) f ≡ greatest n f
unfolding greatest
greatest_zero n f e = ap (max (greatest n f)) e ∙ max-zero (greatest n f)

-- zeros behind the first m do not matter
greatest_behind : (m k : ℕ) (f : ℕ → ℕ) → ((i : ℕ) → m ≤ i → f i ≡ 0) → greatest (m + k) f ≡ greatest m f
greatest_behind m zero f h = ap (λ (n : ℕ). greatest n f) (add-zero m)
greatest_behind m (suc k) f h =
    ap (λ (n : ℕ). greatest n f) (add-suc m k) ∙ greatest_zero (m + k) f (h (m + k) (omega arith)) ∙ greatest_behind m k f h

-- the greatest number of ones makes the greatest depth
pub depth_greatest : (n : ℕ) (f : ℕ → ℕ) → depth_of (greatest n f) ≡ greatest n (λ b. depth_of (f b))
unfolding greatest
depth_greatest zero f = le_antisymm (depth_le 0) zero-le
depth_greatest (suc n) f = depth_max (greatest n f) (f n) ∙ ap (λ (d : ℕ). max d (depth_of (f n))) (depth_greatest n f)

-- ---- the ones

pub bit_le : (b a : ℕ) → bit b a ≤ 1
bit_le b a = at_bit (λ d. d ≤ 1) zero-le (le_refl 1) b a

-- a line of an element's bit matrix has at most m ones
pub line_most : (p a b : ℕ) → ones_in_line p a b ≤ degree p
unfolding ones_in_line
line_most p a b = rw one-mul at (total_le (degree p) 1 (λ k. bit b (product p a (2 ^ k))) (λ k. bit_le b (product p a (2 ^ k))))

pub output_most : (p n b : ℕ) (line : ℕ → ℕ) → output_ones p n line b ≤ degree p * n
unfolding output_ones
output_most p n b line = total_le n (degree p) (λ j. ones_in_line p (line j) b) (λ j. line_most p (line j) b)

-- a number below 2^m has no bit from m on
bit_behind : (m b a : ℕ) → a < 2 ^ m → m ≤ b → bit b a ≡ 0
unfolding bit
bit_behind m b a l h = ap (λ (x : ℕ). x % 2) (div-eq_of_lt (lt_of_lt_of_le l (pow_mono h)))

total_none : (n : ℕ) (f : ℕ → ℕ) → ((i : ℕ) → f i ≡ 0) → total n f ≡ 0
unfolding total
total_none zero f h = refl
total_none (suc n) f h = omega (arith, total_none n f h, h n)

-- so there are no ones for output bits from the degree on
line_behind : (p a b : ℕ) → Modulus p → degree p ≤ b → ones_in_line p a b ≡ 0
unfolding ones_in_line
line_behind p a b h l = total_none (degree p) _ (λ k. bit_behind (degree p) b (product p a (2 ^ k)) (times_lt p (degree p) (polynomial p h).has a (2 ^ k)) l)

output_behind : (p n b : ℕ) (line : ℕ → ℕ) → Modulus p → degree p ≤ b → output_ones p n line b ≡ 0
unfolding output_ones
output_behind p n b line h l = total_none n _ (λ j. line_behind p (line j) b h l)

-- ---- the depth of a line

pub output_cong : (p n b : ℕ) (row row' : ℕ → ℕ) → ((j : ℕ) → j < n → row j ≡ row' j) → output_ones p n row b ≡ output_ones p n row' b
unfolding output_ones
output_cong p n b row row' e = total_cong n _ _ (λ j l. ap (λ (a : ℕ). ones_in_line p a b) (e j l))

-- lines whose output bits have the same ones have the same depth
same_ones : (p n : ℕ) (row row' : ℕ → ℕ) → ((b : ℕ) → output_ones p n row b ≡ output_ones p n row' b) → line_depth p n row ≡ line_depth p n row'
unfolding line_depth
same_ones p n row row' e = greatest_cong (degree p) _ _ (λ b l. ap depth_of (e b))

pub line_depth_cong : (p n : ℕ) (row row' : ℕ → ℕ) → ((j : ℕ) → j < n → row j ≡ row' j) → line_depth p n row ≡ line_depth p n row'
line_depth_cong p n row row' e = same_ones p n row row' (λ b. output_cong p n b row row' e)

-- eight output bits are as good as m
pub greatest_of_eight : (p n : ℕ) (line : ℕ → ℕ) → Modulus p → greatest 8 (output_ones p n line) ≡ greatest (degree p) (output_ones p n line)
greatest_of_eight p n line h =
    let most = (polynomial p h).most in
    ap (λ (k : ℕ). greatest k (output_ones p n line)) (omega arith)
    ∙ greatest_behind (degree p) (8 - degree p) (output_ones p n line) (λ b l. output_behind p n b line h l)

pub depth_of_eight : (p n : ℕ) (line : ℕ → ℕ) → Modulus p → depth_of (greatest 8 (output_ones p n line)) ≡ line_depth p n line
unfolding line_depth
depth_of_eight p n line h = ap depth_of (greatest_of_eight p n line h) ∙ depth_greatest (degree p) (output_ones p n line)

-- none of the m output bits is deeper
pub bit_not_deeper : (p n : ℕ) (line : ℕ → ℕ) (b : ℕ) → b < degree p → depth_of (output_ones p n line b) ≤ line_depth p n line
unfolding line_depth
bit_not_deeper p n line b l = le_greatest (degree p) (λ b. depth_of (output_ones p n line b)) b l

-- and no smaller number is as deep as all of them
pub line_depth_least : (p n : ℕ) (line : ℕ → ℕ) (d : ℕ) → ((b : ℕ) → b < degree p → depth_of (output_ones p n line b) ≤ d) → line_depth p n line ≤ d
unfolding line_depth
line_depth_least p n line d h = greatest_le (degree p) d (λ b. depth_of (output_ones p n line b)) h

-- a depth is at most n·m
pub line_depth_le : (p n : ℕ) (line : ℕ → ℕ) → line_depth p n line ≤ degree p * n
line_depth_le p n line = line_depth_least p n line (degree p * n) (λ b l. le_trans (depth_le (output_ones p n line b)) (output_most p n b line))

-- and at most 6 up to order 8
pub line_depth_six : (p n : ℕ) (line : ℕ → ℕ) → Modulus p → n ≤ 8 → line_depth p n line ≤ 6
line_depth_six p n line h l =
    line_depth_least p n line 6 (λ b k. depth_least (output_ones p n line b) 6 (le_trans (output_most p n b line) (mul-le-mul {n₂ = 8} {m₂ = 8} (polynomial p h).most l)))

-- ---- the places of a row's elements

module _ (p n : ℕ) (σ ρ : ℕ → ℕ) (v : Inverse n σ ρ) where
  -- a row has the same depth with its elements in another order
  pub depth_permuted : (row : ℕ → ℕ) → line_depth p n (λ j. row (σ j)) ≡ line_depth p n row
  depth_permuted row = same_ones p n _ row (λ b. unfold output_ones in total_permuted n σ ρ v (λ j. ones_in_line p (row j) b))

  -- the same of a list
  pub depth_moved : (row : List ℕ) → line_depth p n (λ j. get_or (moved (numbers p) n σ row) j 0) ≡ line_depth p n (λ j. get_or row j 0)
  depth_moved row = line_depth_cong p n _ _ (moved_at p n σ ρ v row) ∙ depth_permuted (λ j. get_or row j 0)

-- every output of a Hadamard matrix has the depth of the first
pub hadamard_depth : (p k : ℕ) (row : List ℕ) (i : ℕ) → i < 2 ^ k → line_depth p (2 ^ k) (hadamard (numbers p) row i) ≡ line_depth p (2 ^ k) (λ j. get_or row j 0)
unfolding hadamard
hadamard_depth p k row i l =
    line_depth_cong p (2 ^ k) _ (λ j. get_or row (bit_xor j i) 0) (λ j m. ap (λ (c : ℕ). get_or row c 0) (xor_comm i j))
    ∙ depth_permuted p (2 ^ k) _ _ (xor_own k i l) (λ j. get_or row j 0)
