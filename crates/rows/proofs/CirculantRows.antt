-- Good circulant rows of orders 2 to 8: no entry is 0, no two pairs of places with the same sum modulo the order have the same product, and the index
-- maps keep them good. So the lightest row is the lightest of the canonical ones. No good row of order 3 and up gives an involution
-- (`mds_no_involution`). Assumes nothing.
use mathlib.Core.Path.{◌≡◌, refl, sym, ap, ◌∙◌}
use mathlib.Core.Logic.{◌≢◌, ⊎_elim}
use mathlib.Core.Bool.{true, false, ◌&&◌, true≢false}
use mathlib.Core.List.{List, Memᴰ}
use Prim.Native.Nat.{ℕ, suc, ◌+◌, ◌-◌, ◌^◌, ◌%◌, ◌≤◌, ◌<◌}
use native.Mathlib.Nat.{eq-zero-or-pos, mod-eq_of_lt, add-mod_left}
use native.Mathlib.Omega.{arith}
use lib.ListN.{get_or}
use borrow.Author.Tests.{eqb-true, eq-eqb}
use Rattle.algebra.specs.Matrix.{circulant, is_mds, is_involution, words}
use Rattle.algebra.proofs.Bridge.{mds_cong}
use Rattle.algebra.proofs.Circulant.{rotation}
use Rattle.field.specs.Polynomial.{Modulus, degree, product}
use Rattle.lines.specs.Numbers.{numbers, elements, WordsInField}
use Rattle.lines.specs.Depths.{line_depth}
use Rattle.lines.proofs.Depths.{depth_permuted}
use Rattle.matrix.proofs.Residues.{one_lt}
use Rattle.matrix.proofs.Theorems.{zero_entry_light}
use Rattle.matrix.proofs.Circulants.{rectangle_not_mds, mds_permuted, circulant_not_involution}
use Rattle.rows.specs.Lightest.{ascending, lightest, rows_over}
use Rattle.rows.specs.Shape.{row_matrix, is_good, circulant_shape}
use Rattle.rows.specs.Keys.{depth_of_row, key_of, lightest_row}
use Rattle.rows.specs.Demands.{CirculantMds}
use Rattle.rows.specs.Steps.Orders.{CirculantOrder}
use Rattle.rows.specs.Steps.Around.{fourth_around}
use Rattle.rows.proofs.Rows.{sorted_ascending}
use Rattle.rows.proofs.Keys.{key_permuted}
use Rattle.rows.proofs.Around.{place_around, place_lt, mod_once}
use Rattle.rows.proofs.HadamardRows.{over_in_field, word_in_field}
use Rattle.rows.proofs.CirculantMaps.{column_from, line_from, map_sound, moved_around, around_entry, canonical_around, canonical_around_holds}

-- a good row, by its circulant matrix
pub good_circulant : (p n : ℕ) (row : List ℕ) → is_good circulant_shape p n row ≡ is_mds (numbers p) (elements p) n (circulant (numbers p) n row)
unfolding is_good circulant_shape row_matrix circulant
good_circulant p n row = refl

module _ (p n : ℕ) (h : Modulus p) (row : List ℕ) (in_field : WordsInField p n row) where
  -- the entries of its matrix are elements
  pub circulant_below : (i j : ℕ) → i < n → j < n → circulant (numbers p) n row i j < 2 ^ degree p
  unfolding circulant WordsInField
  circulant_below i j l m = in_field (place_around n i j) (place_lt n i j l)

  -- two lines and two columns with equal products across: the row is not good
  module _ (good : is_good circulant_shape p n row ≡ true) where
    across_differ : (i₁ i₂ j₁ j₂ : ℕ) → i₁ < n → i₂ < n → j₁ < n → j₂ < n → i₁ ≢ i₂ → j₁ ≢ j₂
        → product p (get_or row (place_around n i₁ j₁) 0) (get_or row (place_around n i₂ j₂) 0) ≡ product p (get_or row (place_around n i₁ j₂) 0) (get_or row (place_around n i₂ j₁) 0) → ⊥
    unfolding circulant
    across_differ i₁ i₂ j₁ j₂ l₁ l₂ m₁ m₂ lines columns e =
        true≢false (sym good ∙ good_circulant p n row ∙ rectangle_not_mds p h n (circulant (numbers p) n row) circulant_below i₁ i₂ j₁ j₂ l₁ l₂ m₁ m₂ lines columns e)

    -- the products of two pairs of places with the same sum modulo n differ
    pub good_pairs : (d x y : ℕ) → d < n → x ≤ d → y < d → fourth_around n d x y < d
        → product p (get_or row x 0) (get_or row d 0) ≡ product p (get_or row y 0) (get_or row (fourth_around n d x y) 0) → ⊥
    unfolding fourth_around
    good_pairs d x y l u v w e =
        let xn : x < n = omega arith in
        let first : place_around n 0 x ≡ x = mod_once n (x + (n - 0)) x xn (omega arith) in
        let second : place_around n 0 y ≡ y = mod_once n (y + (n - 0)) y (omega arith) (omega arith) in
        let corner : place_around n (y + (n - d)) y ≡ d = ap (λ (s : ℕ). s % n) (corner_sum d y l v) ∙ mod-eq_of_lt l in
        let other : place_around n (y + (n - d)) x ≡ (x + d + (n - y)) % n = other_place d x y l v in
        across_differ 0 (y + (n - d)) x y (omega arith) (omega arith) xn (omega arith) (λ (q : 0 ≡ y + (n - d)). omega arith) (apart d x y l u v w)
        (rw (first, second, corner, other) e)
      where
        corner_sum : (d y : ℕ) → d < n → y < d → y + (n - (y + (n - d))) ≡ d
        corner_sum d y l v = omega arith

        difference : (d x y : ℕ) → d < n → y < d → x + (n - (y + (n - d))) ≡ x + (d - y)
        difference d x y l v = omega arith

        once_around : (d x y : ℕ) → d < n → y < d → x + d + (n - y) ≡ n + (x + (d - y))
        once_around d x y l v = omega arith

        other_place : (d x y : ℕ) → d < n → y < d → place_around n (y + (n - d)) x ≡ (x + d + (n - y)) % n
        other_place d x y l v =
            ap (λ (s : ℕ). s % n) (difference d x y l v) ∙ sym (ap (λ (s : ℕ). s % n) (once_around d x y l v) ∙ add-mod_left n (x + (d - y)))

        apart : (d x y : ℕ) → d < n → x ≤ d → y < d → (x + d + (n - y)) % n < d → x ≢ y
        apart d x y l u v w q =
            let same : (x + d + (n - y)) % n ≡ d = mod_once n (x + d + (n - y)) d l (omega arith) in
            omega arith

    -- no entry is 0
    pub good_nonzero : (a : ℕ) → a < n → 0 < get_or row a 0
    unfolding circulant is_mds
    good_nonzero a l =
        ⊎_elim
        (λ (z : get_or row a 0 ≡ 0).
        let first : place_around n 0 a ≡ a = mod_once n (a + (n - 0)) a l (omega arith) in
        let light = zero_entry_light p n (circulant (numbers p) n row) 0 a (omega arith) l (ap (λ (k : ℕ). get_or row k 0) first ∙ z) (one_lt p h) in
        absurd (let z : ⊥ = omega (arith, eqb-true _ (suc n) (sym (good_circulant p n row) ∙ good)) in z))
        (λ (g : 0 < get_or row a 0). g) (eq-zero-or-pos (get_or row a 0))

  -- the map of a place keeps it good
  pub good_around : (o : CirculantOrder n) (d : ℕ) → d < n → is_good circulant_shape p n (moved_around n d row) ≡ is_good circulant_shape p n row
  good_around o d l =
      let ok = map_sound n d o l in
      good_circulant p n (moved_around n d row)
      ∙ mds_cong (numbers p) n (circulant (numbers p) n (moved_around n d row)) (λ i j. circulant (numbers p) n row (line_from n d i) (column_from n d j)) entries (elements p)
      ∙ mds_permuted p h n (circulant (numbers p) n row) circulant_below _ _ ok.lines _ _ ok.columns
      ∙ sym (good_circulant p n row)
    where
      entries : (i j : ℕ) → i < n → j < n → circulant (numbers p) n (moved_around n d row) i j ≡ circulant (numbers p) n row (line_from n d i) (column_from n d j)
      entries i j u v = unfold circulant in around_entry n d row (place_around n i j) (place_lt n i j u) ∙ ap (λ (k : ℕ). get_or row k 0) (sym ((map_sound n d o l).carried i j u v))

-- ---- the canonical rows

-- the lightest row is the lightest of the canonical ones
pub canonical_circulant : (p n : ℕ) → Modulus p → CirculantOrder n → (cs : List ℕ)
    → lightest_row circulant_shape p n cs
    ≡ lightest (λ r. canonical_around n r && is_good circulant_shape p n r) (key_of p n) (words (ascending (2 ^ degree p) cs) n)
unfolding lightest_row rows_over
canonical_circulant p n h o cs =
    canonical_around_holds (is_good circulant_shape p n) (key_of p n) (sorted_ascending (2 ^ degree p) cs) n o
    (λ d l r i g. (good_around p n h r (word_in_field p n cs r i) o d l ∙ g, le_of (key_around d l r)))
  where
    key_around : (d : ℕ) → d < n → (r : List ℕ) → key_of p n (moved_around n d r) ≡ key_of p n r
    key_around d l r = unfold moved_around in (key_permuted p n (column_from n d) _ (map_sound n d o l).columns r)

    le_of : {a b : ℕ} → a ≡ b → a ≤ b
    le_of e = omega arith

-- ---- no involution

-- from order 3 on no circulant matrix that is MDS is an involution, whatever the candidates
pub mds_no_involution : (p n : ℕ) → Modulus p → 3 ≤ n → (candidates : List ℕ) → ((a : ℕ) → Memᴰ a candidates → a < 2 ^ degree p) → (row : List ℕ)
    → CirculantMds p n candidates row → is_involution (numbers p) (elements p) n (circulant (numbers p) n row) ≡ false
mds_no_involution p n h three candidates fits row c =
    circulant_not_involution p h n three row (over_in_field p n candidates fits row c.entries c.over) (unfold is_mds in eq-eqb _ (suc n) c.branch)

-- ---- the depth

-- every output of a circulant matrix has the depth of its row
pub circulant_depth : (p n : ℕ) (row : List ℕ) (i : ℕ) → i < n → line_depth p n (circulant (numbers p) n row i) ≡ depth_of_row p n row
unfolding circulant depth_of_row
circulant_depth p n row i l = depth_permuted p n _ _ (rotation n i l) (λ j. get_or row j 0)
