-- Arrays of eight that a loop fills from the front, blocks in arrays of arrays, and sums that a loop adds up. Assumes nothing.
use mathlib.Core.Path.{◌≡◌, refl, sym, ap, ap₂, ◌∙◌}
use mathlib.Core.List.{List, [], ◌∷◌, ◌++◌, foldl, foldl-append}
use mathlib.Core.Logic.{⊎_elim}
use Prim.Native.Nat.{ℕ, zero, suc, ◌+◌, ◌-◌, ◌≤◌, ◌<◌}
use native.Mathlib.Nat.{add-zero}
use native.Mathlib.Numerals.{add-one}
use native.Mathlib.Omega.{arith}
use lib.Bits.{bit_xor}
use lib.ListN.{length, get_or, take, set, replicate, length-append, length-replicate, get_or-replicate, get_or-append}
use lib.Seq.{ext_get_or, take-suc, get_or-take, length-take-le, get_or-append-add}
use Rattle.std.proofs.Common.{length-take}
use Rattle.algebra.specs.Matrix.{tabulate, sum}
use Rattle.algebra.proofs.Words.{stored_more, length_tabulate, get_d_tabulate, tabulate_add}
use Rattle.algebra.proofs.Sums.{le_or_lt}
use Rattle.field.specs.Polynomial.{◌⊕◌}
use Rattle.lines.specs.Numbers.{numbers, entry}
use Rattle.lines.specs.Steps.Blocks.{filled_to, filled, framed}

-- ---- sums

-- one more number is added
pub sum_more : (p i : ℕ) (f : ℕ → ℕ) (r v : ℕ) → r ≡ sum (numbers p) i f → v ≡ f i → bit_xor r v ≡ sum (numbers p) (i + 1) f
unfolding sum ◌⊕◌
sum_more p i f r v e d = rw add-one (ap₂ bit_xor e d)

-- one more word
pub xor_more : (row : List ℕ) (i r : ℕ) → i < length row → r ≡ foldl ◌⊕◌ 0 (take i row) → bit_xor r (get_or row i 0) ≡ foldl ◌⊕◌ 0 (take (i + 1) row)
unfolding ◌⊕◌
xor_more row i r l e =
    rw (add-one i, take-suc row i 0 l) (ap (λ (x : ℕ). bit_xor x (get_or row i 0)) e ∙ sym (foldl-append bit_xor 0 (take i row) (get_or row i 0 ∷ [])))

-- the exclusive or of the first words is their sum
pub xor_sum : (p : ℕ) (row : List ℕ) (n : ℕ) → n ≤ length row → foldl ◌⊕◌ 0 (take n row) ≡ sum (numbers p) n (λ i. get_or row i 0)
unfolding sum ◌⊕◌
xor_sum p row zero l = refl
xor_sum p row (suc n) l =
    ap (λ (m : ℕ). foldl bit_xor 0 (take m row)) (sym (add-one n))
    ∙ sym (xor_more row n (foldl bit_xor 0 (take n row)) l refl)
    ∙ ap (λ (x : ℕ). bit_xor x (get_or row n 0)) (xor_sum p row n (omega arith))

-- ---- arrays

module _ {A : Type 0} (size : ℕ) (z : A) (f : ℕ → A) where
  -- the value at one of the first places
  pub get_d_filled_to : (n i : ℕ) → i < n → (d : A) → get_or (filled_to size z f n) i d ≡ f i
  get_d_filled_to n i l d =
      get_or-append (tabulate n f) (replicate (size - n) z) d i (rw (length_tabulate n f) l) ∙ get_d_tabulate n f i d l

  -- the next place is filled
  pub filled_to_more : (i : ℕ) (r : List A) (v : A) → i < size → r ≡ filled_to size z f i → v ≡ f i → set r i v ≡ filled_to size z f (i + 1)
  filled_to_more i r v l e d = stored_more z size i (tabulate i f) (tabulate (i + 1) f) r v l (length_tabulate i f) (tabulate_add i 1 f ∙ last) e
    where
      last : tabulate i f ++ tabulate 1 (λ j. f (i + j)) ≡ tabulate i f ++ (v ∷ [])
      last = unfold tabulate in (rw (d, add-zero) refl)

-- a place among the first n
pub front_at : {A : Type 0} (n i : ℕ) (line : List A) (d : A) → i < length (take n line) → (i < n) × (get_or (take n line) i d ≡ get_or line i d)
front_at n i line d l =
    let below : i < n = omega (arith, length-take n line, l) in
    (below, get_or-take n line i d below)

pub front_length : {A : Type 0} (n : ℕ) (line : List A) → n ≤ 8 → length line ≡ 8 → length (take n line) ≡ n
front_length n line l e = length-take-le n line (omega (arith, l, e))

-- ---- arrays of eight

module _ {A : Type 0} (z : A) (f : ℕ → A) where
  pub get_d_filled : (n i : ℕ) → i < n → (d : A) → get_or (filled z f n) i d ≡ f i
  get_d_filled = get_d_filled_to 8 z f

  -- and behind them
  pub get_d_behind : (n i : ℕ) → n ≤ i → i < 8 → (d : A) → get_or (filled z f n) i d ≡ z
  get_d_behind n i l h d =
      let at : i ≡ length (tabulate n f) + (i - n) = omega (arith, length_tabulate n f) in
      ap (λ (k : ℕ). get_or (filled z f n) k d) at
      ∙ get_or-append-add (tabulate n f) (replicate (8 - n) z) (i - n) d
      ∙ get_or-replicate (8 - n) (i - n) z d (omega arith)

  pub length_filled : (n : ℕ) → n ≤ 8 → length (filled z f n) ≡ 8
  length_filled n l =
      length-append (tabulate n f) (replicate (8 - n) z) ∙ ap₂ ◌+◌ (length_tabulate n f) (length-replicate (8 - n) z) ∙ omega arith

  -- an array with these elements
  pub filled_of : (n : ℕ) (r : List A) (d : A) → n ≤ 8 → length r ≡ 8 → ((i : ℕ) → i < n → get_or r i d ≡ f i)
      → ((i : ℕ) → n ≤ i → i < 8 → get_or r i d ≡ z) → r ≡ filled z f n
  filled_of n r d l e first behind =
      ext_get_or d r (filled z f n) (e ∙ sym (length_filled n l)) (λ i h.
      ⊎_elim (λ (m : n ≤ i). behind i m (omega arith) ∙ sym (get_d_behind n i m (omega arith) d))
      (λ (m : i < n). first i m ∙ sym (get_d_filled n i m d)) (le_or_lt n i))

  -- all eight elements
  pub eight_of : (r : List A) (d : A) → length r ≡ 8 → ((i : ℕ) → i < 8 → get_or r i d ≡ f i) → r ≡ tabulate 8 f
  eight_of r d e all =
      ext_get_or d r (tabulate 8 f) (e ∙ sym (length_tabulate 8 f)) (λ i h.
      let l : i < 8 = omega arith in
      all i l ∙ sym (get_d_tabulate 8 f i d l))

  pub filled_more : (i : ℕ) (r : List A) (v : A) → i < 8 → r ≡ filled z f i → v ≡ f i → set r i v ≡ filled z f (i + 1)
  filled_more = filled_to_more 8 z f

-- ---- blocks

module _ (r c : ℕ) (f : ℕ → ℕ → ℕ) where
  -- an entry of the block
  pub entry_framed : (i j : ℕ) → i < r → j < c → entry (framed r c f) i j ≡ f i j
  unfolding framed
  entry_framed i j l h =
      ap (λ (line : List ℕ). get_or line j 0) (get_d_filled (replicate 8 0) (λ i. filled 0 (f i) c) r i l []) ∙ get_d_filled 0 (f i) c j h 0

  -- of an array that holds it
  pub entry_of : (m : List (List ℕ)) → m ≡ framed r c f → (i j : ℕ) → i < r → j < c → entry m i j ≡ f i j
  entry_of m e i j l h = ap (λ (x : List (List ℕ)). entry x i j) e ∙ entry_framed i j l h
