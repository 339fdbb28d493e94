-- The orders 1, 2, 4 and 8, and the product by halves of arrays of eight numbers. Assumes nothing.
use mathlib.Core.Path.{◌≡◌, refl, sym, ap, ap₂, ◌∙◌}
use mathlib.Core.Logic.{inl, inr, ⊎_elim}
use mathlib.Core.List.{List, ◌++◌}
use Prim.Native.Nat.{ℕ, ◌+◌, ◌-◌, ◌/◌, ◌^◌, ◌≤◌, ◌<◌}
use native.Mathlib.Omega.{arith}
use lib.Bits.{bit_xor, xor_lt}
use lib.ListN.{get_or, drop, replicate, length-replicate, replicate-append-replicate, get_or-append}
use lib.Seq.{paste, take_at, drop_at, drop-drop}
use Rattle.algebra.specs.Matrix.{tabulate, sum, apply, hadamard}
use Rattle.algebra.proofs.Words.{length_tabulate, tabulate_cong}
use Rattle.algebra.proofs.Weights.{length_apply}
use Rattle.algebra.proofs.Halves.{Bilinear, halved_product, word_of}
use Rattle.field.specs.Polynomial.{◌⊕◌, Modulus, degree, product}
use Rattle.field.proofs.Sum.{sum_zero_l, sum_zero_r, sum_comm, sum_assoc, sum_self, sum_lt}
use Rattle.field.proofs.Degrees.{polynomial}
use Rattle.field.proofs.Field.{times_sum_l, times_sum_r}
use Rattle.lines.specs.Numbers.{numbers, WordsInField, HalvingOrder}
use Rattle.lines.specs.Steps.Blocks.{filled}
use Rattle.lines.proofs.Filled.{get_d_filled}

-- a power of 2, at most 8
pub exponent : (n : ℕ) → HalvingOrder n → (k : ℕ) × (n ≡ 2 ^ k) × (n ≤ 8)
exponent n o =
    ⊎_elim (λ (e : n ≡ 1). (0, e, omega arith))
    (⊎_elim (λ (e : n ≡ 2). (1, e, omega arith)) (⊎_elim (λ (e : n ≡ 4). (2, e, omega arith)) (λ (e : n ≡ 8). (3, e, omega arith)))) o

-- the exclusive or of two numbers below an order stays below it
pub xor_below : (n i j : ℕ) → HalvingOrder n → i < n → j < n → bit_xor i j < n
xor_below n i j o l m =
    let k = exponent n o in
    rw k.1 (xor_lt k.0 i j (rw k.1 at l) (rw k.1 at m))

-- half of an order that is not 1
pub record Half (n h : ℕ) : Type 0 where
  pub order : HalvingOrder h
  pub double : n ≡ h + h
  pub most : h + h ≤ 8
  pub small : h ≤ 8
  pub less : h < n

pub half : (n : ℕ) → HalvingOrder n → (n ≡ 1 → ⊥) → Half n (n / 2)
half n o d =
    let from : (h : ℕ) → HalvingOrder h → 1 ≤ h → h + h ≤ 8 → n ≡ h + h → Half n (n / 2) =
    λ h o l m e. let same : n / 2 ≡ h = omega arith in rw same (record { order = o; double = e; most = m; small = omega arith; less = omega arith }) in
    ⊎_elim (λ (e : n ≡ 1). absurd (d e))
    (⊎_elim (from 1 (inl refl) (omega arith) (omega arith)) (⊎_elim (from 2 (inr (inl refl)) (omega arith) (omega arith)) (from 4 (inr (inr (inl refl))) (omega arith) (omega arith)))) o

-- the numbers have the laws that the halves need
bilinear : (p : ℕ) → Modulus p → Bilinear (numbers p)
bilinear p m =
    record {
      sums = record { plus_assoc = sum_assoc; plus_comm = sum_comm; plus_null = sum_zero_r };
      plus_self = sum_self;
      times_plus = times_sum_r p (degree p) (polynomial p m).has;
      plus_times = times_sum_l p (degree p) (polynomial p m).has;
    }

-- order 1: one product
pub single : (p : ℕ) (row x : List ℕ) → product p (get_or row 0 0) (get_or x 0 0) ≡ word_of (numbers p) 1 row x 0
unfolding apply hadamard tabulate sum
single p row x = sym (sum_zero_l (product p (get_or row 0 0) (get_or x 0 0)))

-- equal numbers, some of them dropped
drop_same : (h m z : ℕ) → drop h (replicate (h + m) z) ≡ replicate m z
drop_same h m z = ap (drop h) (sym (replicate-append-replicate h m z)) ∙ drop_at (replicate h z) (replicate m z) h (length-replicate h z)

-- two arrays, each filled to h, joined
joined_filled : (h : ℕ) (f g : ℕ → ℕ) → h + h ≤ 8
    → paste (filled 0 f h) h (filled 0 g h) h ≡ (tabulate h f ++ tabulate h g) ++ replicate (8 - (h + h)) 0
joined_filled h f g l =
    let rest : 8 - h ≡ h + (8 - (h + h)) = omega arith in
    let zeros : List ℕ = replicate (8 - h) 0 in
    ap₂ ◌++◌ (ap₂ ◌++◌ (take_at (tabulate h f) zeros h (length_tabulate h f)) (take_at (tabulate h g) zeros h (length_tabulate h g)))
    (sym (drop-drop h h (filled 0 f h)) ∙ ap (drop h) (drop_at (tabulate h f) zeros h (length_tabulate h f) ∙ ap (λ (n : ℕ). replicate n 0) rest) ∙ drop_same h (8 - (h + h)) 0)

-- elements of the first half, of the second half, and of a sum
module _ (p n h : ℕ) (double : n ≡ h + h) (a : List ℕ) (w : WordsInField p n a) where
  pub first_in_field : WordsInField p h a
  unfolding WordsInField
  first_in_field i l = w i (omega arith)

  pub second_in_field : (r : List ℕ) → r ≡ filled 0 (λ i. get_or a (h + i) 0) h → WordsInField p h r
  unfolding WordsInField
  second_in_field r e i l = rw (e, get_d_filled 0 (λ i. get_or a (h + i) 0) h i l 0) (w (h + i) (omega arith))

pub added_in_field : (p h : ℕ) (a b r : List ℕ) → r ≡ filled 0 (λ i. get_or a i 0 ⊕ get_or b i 0) h
    → WordsInField p h a → WordsInField p h b → WordsInField p h r
unfolding WordsInField
added_in_field p h a b r e v w i l =
    rw (e, get_d_filled 0 (λ i. get_or a i 0 ⊕ get_or b i 0) h i l 0) (sum_lt (degree p) (get_or a i 0) (get_or b i 0) (v i l) (w i l))

-- what the steps of the halved product leave: the halves, the sums of halves, the three products, and the sums of these
pub record Steps (p h : ℕ) (row x right below rows inputs p0 p1 p2 upper lower : List ℕ) : Type 0 where
  pub right_is : right ≡ filled 0 (λ i. get_or row (h + i) 0) h
  pub below_is : below ≡ filled 0 (λ i. get_or x (h + i) 0) h
  pub rows_is : rows ≡ filled 0 (λ i. get_or right i 0 ⊕ get_or row i 0) h
  pub inputs_is : inputs ≡ filled 0 (λ i. get_or x i 0 ⊕ get_or below i 0) h
  pub p0_is : p0 ≡ apply (numbers p) h (hadamard (numbers p) rows) below ++ replicate (8 - h) 0
  pub p1_is : p1 ≡ apply (numbers p) h (hadamard (numbers p) rows) x ++ replicate (8 - h) 0
  pub p2_is : p2 ≡ apply (numbers p) h (hadamard (numbers p) row) inputs ++ replicate (8 - h) 0
  pub upper_is : upper ≡ filled 0 (λ i. get_or p0 i 0 ⊕ get_or p2 i 0) h
  pub lower_is : lower ≡ filled 0 (λ i. get_or p1 i 0 ⊕ get_or p2 i 0) h

-- a word of a product that has zeros behind it
word_at : (p h : ℕ) (row x q : List ℕ) → q ≡ apply (numbers p) h (hadamard (numbers p) row) x ++ replicate (8 - h) 0
    → (i : ℕ) → i < h → get_or q i 0 ≡ word_of (numbers p) h row x i
word_at p h row x q e i l =
    ap (λ (y : List ℕ). get_or y i 0) e
    ∙ get_or-append (apply (numbers p) h (hadamard (numbers p) row) x) (replicate (8 - h) 0) 0 i (rw (length_apply (numbers p) h (hadamard (numbers p) row) x) l)

module _ (p h : ℕ) (row x right below rows inputs p0 p1 p2 upper lower : List ℕ) (s : Steps p h row x right below rows inputs p0 p1 p2 upper lower) where
  -- the words of the sum of the row's halves
  rows_at : (i : ℕ) → i < h → get_or rows i 0 ≡ get_or row (h + i) 0 ⊕ get_or row i 0
  rows_at i l =
      ap (λ (y : List ℕ). get_or y i 0) s.rows_is ∙ get_d_filled 0 _ h i l 0
      ∙ ap (λ (a : ℕ). a ⊕ get_or row i 0) (ap (λ (y : List ℕ). get_or y i 0) s.right_is ∙ get_d_filled 0 _ h i l 0)

  -- those of the input's second half, and of the sum of its halves
  below_at : (i : ℕ) → i < h → get_or below i 0 ≡ get_or x (h + i) 0
  below_at i l = ap (λ (y : List ℕ). get_or y i 0) s.below_is ∙ get_d_filled 0 _ h i l 0

  inputs_at : (i : ℕ) → i < h → get_or inputs i 0 ≡ get_or x i 0 ⊕ get_or x (h + i) 0
  inputs_at i l =
      ap (λ (y : List ℕ). get_or y i 0) s.inputs_is ∙ get_d_filled 0 _ h i l 0 ∙ ap (λ (a : ℕ). get_or x i 0 ⊕ a) (below_at i l)

  -- joined, they give the product
  pub halved_steps : Modulus p → HalvingOrder h → h + h ≤ 8
      → paste upper h lower h ≡ apply (numbers p) (h + h) (hadamard (numbers p) row) x ++ replicate (8 - (h + h)) 0
  halved_steps m o l =
      let k = exponent h o in
      let third : (i : ℕ) → i < h → get_or p2 i 0 ≡ word_of (numbers p) h row inputs i = word_at p h row inputs p2 s.p2_is in
      ap₂ (λ (u v : List ℕ). paste u h v h) s.upper_is s.lower_is
      ∙ joined_filled h _ _ l
      ∙ ap (λ (y : List ℕ). y ++ replicate (8 - (h + h)) 0)
      (ap₂ ◌++◌ (tabulate_cong h _ _ (λ i b. ap₂ ◌⊕◌ (word_at p h rows below p0 s.p0_is i b) (third i b)))
      (tabulate_cong h _ _ (λ i b. ap₂ ◌⊕◌ (word_at p h rows x p1 s.p1_is i b) (third i b)))
      ∙ sym (halved_product (numbers p) (bilinear p m) k.0 h k.1 row x rows below inputs rows_at below_at inputs_at))
