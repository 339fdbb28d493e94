-- Light inputs and the blocks of a matrix: an input with few words that are not zero, in and out, gives a block with a
-- kernel, and a block with a kernel gives such an input.
use mathlib.Core.Path.{◌≡◌, refl, sym, ap, ◌∙◌, fun_ext}
use mathlib.Core.Bool.{Bool, true, not}
use mathlib.Core.List.{List, Memᴰ}
use Prim.Native.Nat.{ℕ, ◌+◌, ◌-◌, ◌^◌, ◌≤◌, ◌<◌}
use native.Mathlib.Nat.{zero-add}
use native.Mathlib.Omega.{arith}
use lib.ListN.{length, get_or, length-map}
use Rattle.algebra.specs.Operations.{Operations}
use Rattle.algebra.proofs.FieldLaws.{Field}
use Rattle.algebra.specs.Matrix.{sum, weight, activity, apply, det, block, chosen, has_kernel}
use Rattle.algebra.proofs.Rectangles.{dot, Kernel, sum_word}
use Rattle.algebra.proofs.Words.{get_d_tabulate}
use Rattle.algebra.proofs.Weights.{weight_le, length_apply}
use Rattle.algebra.proofs.Kernel.{has_to, has_from, det_to, det_from}
use Rattle.algebra.proofs.Choices.{digits, mask_of, count, places_of, mask_lt, length_digits, chosen_digits, chosen_mask, length_places, spread, support}
use Rattle.algebra.proofs.Choices.{support_mask, others, nulls, length_spread, weight_spread, dot_spread, spread_support, length_others}
use Rattle.algebra.proofs.Choices.{count_support, length_nulls, count_nulls, nulls_null, weight_room, Reads, NullAt}

module _ (K : Operations) (L : Field K) where
  infixl 75 ◌⊗◌
  open K use {Element as E, null, is_null, times as ◌⊗◌}

  -- word i of the output is line i with the input
  reads_apply : (n : ℕ) (f : ℕ → ℕ → E) (x : List E) → length x ≡ n → Reads K 0 (λ i. dot K (f i) x) (apply K n f x)
  unfolding apply
  reads_apply n f x e j l =
      ap (λ i. dot K (f i) x) (zero-add j)
      ∙ sym (sum_word K L n (f j) x e)
      ∙ sym (get_d_tabulate n (λ i. sum K n (λ j. f i j ⊗ get_or x j null)) j null (rw (length_apply K n f x) at l))

  -- a line with spread words is the line's chosen entries with the words
  line_spread : (u : ℕ → E) (bs : List Bool) (y : List E) → length y ≡ count bs
      → dot K u (spread K bs y) ≡ dot K (λ j. u (get_or (places_of 0 bs) j 0)) y
  line_spread u bs y e = ap (λ v. dot K v (spread K bs y)) (fun_ext (λ j. ap u (sym (zero-add j)))) ∙ dot_spread K L 0 u bs y e

  -- ---- from a block to an input

  -- a kernel of a block, spread over the chosen columns
  padded : (n : ℕ) (f : ℕ → ℕ → E) (br bs : List Bool) → length br ≡ n → length bs ≡ n
      → Kernel K (length (places_of 0 br)) (length (places_of 0 bs)) (block f (places_of 0 br) (places_of 0 bs))
      → (x : List E) × (length x ≡ n) × (0 < weight K x) × (weight K x ≤ length (places_of 0 bs))
      × (activity K n f x + length (places_of 0 br) ≤ weight K x + n)
  unfolding activity block
  padded n f br bs er es k = (x, size, rw same k.heavy, rw same (omega (arith, weight_le K y, k.size)), light)
    where
      y : List E
      y = k.input

      x : List E
      x = spread K bs y

      fits : length y ≡ count bs
      fits = k.size ∙ length_places 0 bs

      size : length x ≡ n
      size = length_spread K L bs y ∙ es

      same : weight K x ≡ weight K y
      same = weight_spread K L bs y fits

      zeros : NullAt K 0 (λ i. dot K (f i) x) br
      zeros i l = line_spread (f (get_or (places_of 0 br) i 0)) bs y fits ∙ k.zeros i l

      light : (weight K x + weight K (apply K n f x)) + length (places_of 0 br) ≤ weight K x + n
      light =
          omega (
            arith,
            weight_room K L 0 (λ i. dot K (f i) x) br (apply K n f x) (er ∙ sym (length_apply K n f x)) (reads_apply n f x size) zeros,
            length_apply K n f x,
            length_places 0 br,
          )

  -- the same for masks
  of_block : (n : ℕ) (f : ℕ → ℕ → E) (r s : ℕ) → Kernel K (length (chosen n r)) (length (chosen n s)) (block f (chosen n r) (chosen n s))
      → (x : List E) × (length x ≡ n) × (0 < weight K x) × (weight K x ≤ length (chosen n s))
      × (activity K n f x + length (chosen n r) ≤ weight K x + n)
  of_block n f r s = rw (chosen_digits n r, chosen_digits n s) (padded n f (digits n r) (digits n s) (length_digits n r) (length_digits n s))

  -- a block with determinant 0 gives a light input
  pub singular_light : (n : ℕ) (f : ℕ → ℕ → E) (r s k : ℕ) → length (chosen n r) ≡ k → length (chosen n s) ≡ k
      → is_null (det K k (block f (chosen n r) (chosen n s))) ≡ true
      → (x : List E) × (length x ≡ n) × (0 < weight K x) × (weight K x ≤ k) × (activity K n f x ≤ n)
  singular_light n f r s k er es h =
      let w = of_block n f r s (rw (er, es) (det_to K L k (block f (chosen n r) (chosen n s)) h)) in
      (w.0, w.1, w.2, omega (arith, w.3), omega (arith, w.3, w.4))

  -- a block with a kernel bounds the least activity
  pub kernel_activity : (elements : List E) (complete : (a : E) → Memᴰ a elements) (n : ℕ) (f : ℕ → ℕ → E) (r s : ℕ)
      → has_kernel K elements (length (chosen n s)) (length (chosen n r)) (block f (chosen n r) (chosen n s)) ≡ true
      → (x : List E) × (length x ≡ n) × (0 < weight K x) × (activity K n f x + length (chosen n r) ≤ length (chosen n s) + n)
  kernel_activity elements complete n f r s h =
      let w = of_block n f r s (has_to K L elements complete (length (chosen n s)) (length (chosen n r)) (block f (chosen n r) (chosen n s)) h) in
      (w.0, w.1, w.2, omega (arith, w.3, w.4))

  -- ---- from an input to a block

  -- its words that are not zero, with k lines that send it to zero
  supported : (n : ℕ) (f : ℕ → ℕ → E) (x : List E) (k : ℕ) → length x ≡ n → 0 < weight K x → k + weight K (apply K n f x) ≤ n
      → Kernel K k (weight K x) (block f (places_of 0 (nulls K k (apply K n f x))) (places_of 0 (support K x)))
  unfolding block
  supported n f x k e h l =
      record {
        input = others K x;
        size = length_others K L x;
        heavy = rw (sym (weight_spread K L (support K x) (others K x) fits) ∙ ap (λ w. weight K w) (spread_support K L x)) h;
        zeros = λ i m.
            sym (line_spread (f (get_or (places_of 0 bs) i 0)) (support K x) (others K x) fits)
            ∙ ap (λ w. dot K (f (get_or (places_of 0 bs) i 0)) w) (spread_support K L x)
            ∙ nulls_null K L 0 k (λ i. dot K (f i) x) (apply K n f x) (reads_apply n f x e) i (rw (length_places 0 bs ∙ full) m);
      }
    where
      bs : List Bool
      bs = nulls K k (apply K n f x)

      fits : length (others K x) ≡ count (support K x)
      fits = length_others K L x ∙ sym (count_support K L x)

      full : count bs ≡ k
      full = count_nulls K L k (apply K n f x) (rw (length_apply K n f x) l)

  -- the same with masks
  of_input : (n : ℕ) (f : ℕ → ℕ → E) (x : List E) (k : ℕ) → length x ≡ n → 0 < weight K x → k + weight K (apply K n f x) ≤ n
      → (r : ℕ) × (s : ℕ) × (r < 2 ^ n) × (s < 2 ^ n) × (length (chosen n r) ≡ k) × (length (chosen n s) ≡ weight K x)
      × (s ≡ support_mask K x) × Kernel K k (weight K x) (block f (chosen n r) (chosen n s))
  unfolding support_mask
  of_input n f x k e h l = (
    mask_of bs,
    mask_of (support K x),
    rw er at (mask_lt bs),
    rw es at (mask_lt (support K x)),
    ap length cr ∙ length_places 0 bs ∙ count_nulls K L k (apply K n f x) (rw (length_apply K n f x) l),
    ap length cs ∙ length_places 0 (support K x) ∙ count_support K L x,
    refl,
    rw (cr, cs) (supported n f x k e h l),
  )
    where
      bs : List Bool
      bs = nulls K k (apply K n f x)

      er : length bs ≡ n
      er = length_nulls K L k (apply K n f x) ∙ length_apply K n f x

      es : length (support K x) ≡ n
      es = length-map x (λ a. not (is_null a)) ∙ e

      cr : chosen n (mask_of bs) ≡ places_of 0 bs
      cr = chosen_mask n bs er

      cs : chosen n (mask_of (support K x)) ≡ places_of 0 (support K x)
      cs = chosen_mask n (support K x) es

  -- a light input gives a block with determinant 0, its columns the places of the words that are not zero
  pub light_block : (n : ℕ) (f : ℕ → ℕ → E) (x : List E) → length x ≡ n → 0 < weight K x → activity K n f x ≤ n
      → (r : ℕ) × (s : ℕ) × (r < 2 ^ n) × (s < 2 ^ n) × (length (chosen n r) ≡ weight K x) × (length (chosen n s) ≡ weight K x)
      × (s ≡ support_mask K x) × (is_null (det K (weight K x) (block f (chosen n r) (chosen n s))) ≡ true)
  unfolding activity
  light_block n f x e h l =
      let w = of_input n f x (weight K x) e h l in
      (w.0, w.1, w.2, w.3, w.4, w.5, w.6, det_from K L (weight K x) (block f (chosen n w.0) (chosen n w.1)) w.7)

  -- every input's activity is met by a block with a kernel, its columns the places of the words that are not zero
  pub activity_kernel : (elements : List E) (complete : (a : E) → Memᴰ a elements) (n : ℕ) (f : ℕ → ℕ → E) (x : List E) → length x ≡ n → 0 < weight K x
      → (r : ℕ) × (s : ℕ) × (r < 2 ^ n) × (s < 2 ^ n) × (s ≡ support_mask K x) × (0 < length (chosen n s))
      × (has_kernel K elements (length (chosen n s)) (length (chosen n r)) (block f (chosen n r) (chosen n s)) ≡ true)
      × (activity K n f x + length (chosen n r) ≡ length (chosen n s) + n)
  unfolding activity
  activity_kernel elements complete n f x e h =
      let room : weight K (apply K n f x) ≤ n = omega (arith, weight_le K (apply K n f x), length_apply K n f x) in
      let w = of_input n f x (n - weight K (apply K n f x)) e h (omega arith) in (
        w.0,
        w.1,
        w.2,
        w.3,
        w.6,
        omega (arith, w.5),
        has_from K L elements complete (length (chosen n w.1)) (length (chosen n w.0)) (block f (chosen n w.0) (chosen n w.1)) (rw (w.4, w.5) w.7),
        omega (arith, w.4, w.5),
      )
