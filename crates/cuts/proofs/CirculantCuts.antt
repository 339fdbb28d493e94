-- The cuts of the walk over circulant rows: what the code tests of a letter and of a whole row, what the tests of a row's prefixes say of its small
-- blocks, and that the lightest row is the lightest of those that are tried. Assumes nothing.
use mathlib.Core.Path.{◌≡◌, refl, sym, ap, ◌∙◌}
use mathlib.Core.Logic.{⊎_elim}
use mathlib.Core.Bool.{true, not, ◌&&◌, true≢false}
use mathlib.Core.List.{List}
use Prim.Native.Nat.{ℕ, zero, suc, ◌+◌, ◌-◌, ◌%◌, ◌^◌, ◌≤◌, ◌<◌}
use native.Mathlib.Decide.{dec_lt}
use native.Mathlib.Nat.{eq-or-lt_of_le}
use native.Mathlib.Omega.{arith}
use lib.Dec.{eqb, leb}
use lib.ListN.{length, get_or, take}
use lib.Seq.{length-take-le, get_or-take}
use borrow.Author.Tests.{le-leb, lt-leb, eq-eqb, ne_eqb}
use Rattle.algebra.specs.Matrix.{circulant, words}
use Rattle.algebra.proofs.Involution.{and_left, and_right}
use Rattle.algebra.proofs.Symmetry.{same_bool}
use Rattle.algebra.proofs.Sums.{le_or_lt}
use Rattle.field.specs.Polynomial.{Modulus, degree, product}
use Rattle.field.specs.Steps.{every_below}
use Rattle.field.proofs.Field.{times_comm}
use Rattle.lines.specs.Numbers.{numbers, entry, InField, WordsInField}
use Rattle.lines.specs.Steps.Blocks.{framed}
use Rattle.lines.proofs.Filled.{entry_of}
use Rattle.matrix.specs.Steps.Regular.{is_regular_block, regular_between}
use Rattle.matrix.proofs.Squares.{every_each, each_every, every_same, sizes_known}
use Rattle.matrix.proofs.SmallBlocks.{one_regular, two_regular}
use Rattle.matrix.proofs.Circulants.{circulant_decides}
use Rattle.rows.specs.Lightest.{nothing, ascending, lightest}
use Rattle.rows.specs.Shape.{is_good, circulant_shape}
use Rattle.rows.specs.Keys.{key_of, lightest_row}
use Rattle.cuts.specs.Steps.Cuts.{may_stand, passes, AllStand, tried}
use Rattle.rows.specs.Steps.Orders.{CirculantOrder}
use Rattle.rows.specs.Steps.Around.{place_below, fourth_around}
use Rattle.cuts.specs.Steps.Circulant.{is_next_around, pair_passes, pairs_pass}
use Rattle.cuts.specs.Steps.Families.{circulant_cuts}
use Rattle.rows.proofs.Rows.{mem_words}
use Rattle.rows.proofs.Walk.{same_good}
use Rattle.rows.proofs.HadamardRows.{regular_same, word_in_field}
use Rattle.cuts.proofs.Pruning.{LooksBack, stand_own, all_next, all_blocks, stands_front, tried_stands}
use Rattle.rows.proofs.Around.{place_around, place_lt, same_line, same_column, SameSum, same_turned, same_swapped, fourth_is, across}
use Rattle.rows.proofs.CirculantMaps.{canonical_around}
use Rattle.rows.proofs.CirculantRows.{good_circulant, circulant_below, good_pairs, good_nonzero, canonical_circulant}
use Rattle.cuts.proofs.LetterTest.{below_first, around_first, around_later, around_positive}

-- ---- one pair

module _ (p n : ℕ) (row : List ℕ) (d x y : ℕ) where
  -- the entries at x and d and those at y and the fourth place have the same product
  abbrev pub SamePair : Type 0
  SamePair = product p (get_or row x 0) (get_or row d 0) ≡ product p (get_or row y 0) (get_or row (fourth_around n d x y) 0)

  -- another entry completes it
  pub pair_later : d ≤ fourth_around n d x y → true ≡ pair_passes p n row d x y
  unfolding pair_passes
  pair_later l = rw (le-leb d (fourth_around n d x y) l)

  module _ (l : fourth_around n d x y < d) where
    -- the products decide
    pub pair_decides : not (eqb (product p (get_or row x 0) (get_or row d 0)) (product p (get_or row y 0) (get_or row (fourth_around n d x y) 0))) ≡ pair_passes p n row d x y
    unfolding pair_passes
    pair_decides = rw (lt-leb d (fourth_around n d x y) l) refl

    -- where it passes, they differ
    pair_regular : pair_passes p n row d x y ≡ true → SamePair → ⊥
    pair_regular t e = true≢false (sym t ∙ sym pair_decides ∙ ap not (eq-eqb _ _ e))

  -- it passes where they differ
  pair_holds : (fourth_around n d x y < d → SamePair → ⊥) → pair_passes p n row d x y ≡ true
  pair_holds h = elim (dec_lt (fourth_around n d x y) d) [
    | yes l ↦ sym (pair_decides l) ∙ ap not (ne_eqb _ _ (h l))
    | no l ↦ sym (pair_later (omega arith))
  ]

-- it depends on the entries up to place d alone
pair_same : (p n : ℕ) (row row' : List ℕ) (d x y : ℕ) → x ≤ d → y < d → ((j : ℕ) → j ≤ d → get_or row j 0 ≡ get_or row' j 0)
    → pair_passes p n row d x y ≡ pair_passes p n row' d x y
unfolding pair_passes
pair_same p n row row' d x y l m same = elim (dec_lt (fourth_around n d x y) d) [
  | yes k ↦ rw (same x l, same d (omega arith), same y (omega arith), same (fourth_around n d x y) (omega arith))
  | no k ↦ sym (pair_later p n row d x y (omega arith)) ∙ pair_later p n row' d x y (omega arith)
]

-- ---- all pairs that an entry completes

pub pairs_back : (p n : ℕ) → LooksBack (circulant_cuts p n)
unfolding pairs_pass
pairs_back p n row d =
    every_same (suc d) _ _ (λ x l. every_same d _ _ (λ y m. pair_same p n (take (suc d) row) row d x y (omega arith) m (λ j k. get_or-take (suc d) row j 0 (omega arith))))

module _ (p n : ℕ) (row : List ℕ) (d : ℕ) where
  pairs_each : pairs_pass p n row d ≡ true → (x y : ℕ) → x ≤ d → y < d → pair_passes p n row d x y ≡ true
  unfolding pairs_pass
  pairs_each t x y l m = every_each d (pair_passes p n row d x) (every_each (suc d) (λ x. every_below d (pair_passes p n row d x)) t x (omega arith)) y m

  pairs_hold : ((x y : ℕ) → x ≤ d → y < d → fourth_around n d x y < d → SamePair p n row d x y → ⊥) → pairs_pass p n row d ≡ true
  unfolding pairs_pass
  pairs_hold h = each_every (suc d) _ (λ x l. each_every d _ (λ y m. pair_holds p n row d x y (h x y (omega arith) m)))

-- ---- the rows that are tried

module _ (p n : ℕ) (h : Modulus p) (o : CirculantOrder n) (r : List ℕ) (long : length r ≡ n) (in_field : WordsInField p n r) where
  -- a good canonical row passes the tests
  canonical_passes : canonical_around n r ≡ true → is_good circulant_shape p n r ≡ true → passes (circulant_cuts p n) n r ≡ true
  unfolding passes canonical_around
  canonical_passes e g = rw (each_every n (λ d. may_stand (circulant_cuts p n) (take d r) (get_or r d 0)) stands) refl
    where
      positive : (d : ℕ) → d < n → 0 < get_or r d 0
      positive = good_nonzero p n h r in_field g

      comes_next : (d : ℕ) → d < n → is_next_around n (take d r) (get_or r d 0) ≡ true
      comes_next zero l = sym (around_first n r 0 (get_or r 0 0) (λ z. omega (arith, positive 0 l)) refl)
      comes_next (suc d) l =
          sym (around_later n r (suc d) (get_or r (suc d) 0) o.1 (omega arith) (omega arith) (omega (arith, o.1)) (positive (suc d) l))
          ∙ every_each n (λ d. leb (get_or r (place_below n d) 0) (get_or r d 0)) e (suc d) l

      stands : (d : ℕ) → d < n → may_stand (circulant_cuts p n) (take d r) (get_or r d 0) ≡ true
      stands d l =
          stand_own (circulant_cuts p n) (pairs_back p n) r d (omega arith)
          ∙ (rw (comes_next d l, pairs_hold p n r d (λ x y u v w. good_pairs p n h r in_field g d x y l u v w)))

  -- a row that is tried is canonical
  tried_canonical : tried (circulant_cuts p n) p n r ≡ true → canonical_around n r ≡ true
  unfolding canonical_around
  tried_canonical t = each_every n _ at
    where
      next : (d : ℕ) → d < n → is_next_around n (take d r) (get_or r d 0) ≡ true
      next = all_next (circulant_cuts p n) (pairs_back p n) n r (omega arith) (tried_stands (circulant_cuts p n) p n r t)

      at : (d : ℕ) → d < n → leb (get_or r (place_below n d) 0) (get_or r d 0) ≡ true
      at zero l = rw (below_first n o.1) (le-leb (get_or r 0 0) (get_or r 0 0) (omega arith))
      at (suc d) l =
          around_later n r (suc d) (get_or r (suc d) 0) o.1 (omega arith) (omega arith) (omega (arith, o.1)) (around_positive n _ _ (next (suc d) l))
          ∙ next (suc d) l

  tried_same : (canonical_around n r && is_good circulant_shape p n r) ≡ tried (circulant_cuts p n) p n r
  unfolding tried
  tried_same =
      same_bool _ _
      (λ e.
      let g = and_right (canonical_around n r) (is_good circulant_shape p n r) e in
      rw (canonical_passes (and_left (canonical_around n r) (is_good circulant_shape p n r) e) g) g)
      (λ t. rw (tried_canonical t) (and_right (passes (circulant_cuts p n) n r) (is_good circulant_shape p n r) t))

-- the lightest row is the lightest of those that are tried
pub tried_circulants : (p n : ℕ) → Modulus p → CirculantOrder n → (cs : List ℕ)
    → lightest_row circulant_shape p n cs ≡ lightest (tried (circulant_cuts p n) p n) (key_of p n) (words (ascending (2 ^ degree p) cs) n)
unfolding lightest
tried_circulants p n h o cs =
    canonical_circulant p n h o cs
    ∙ same_good _ _ (key_of p n) nothing (words (ascending (2 ^ degree p) cs) n)
    (λ r m. tried_same p n h o r ((mem_words (ascending (2 ^ degree p) cs) n r).0 m).0 (word_in_field p n cs r m))

-- ---- a whole row

module _ (p n : ℕ) (h : Modulus p) (o : CirculantOrder n) (row : List ℕ) (in_field : WordsInField p n row) (fits : n ≤ length row)
    (all : AllStand (circulant_cuts p n) n row) where
  -- two pairs of places with the same sum have different products, where the largest of the four is in the first
  largest : (x d y z : ℕ) → x ≤ d → d < n → y < d → z < d → SameSum n x d y z → product p (get_or row x 0) (get_or row d 0) ≡ product p (get_or row y 0) (get_or row z 0) → ⊥
  largest x d y z xd dn yd zd same e =
      let four : fourth_around n d x y ≡ z = fourth_is n x d y z (omega arith) (omega arith) same in
      pair_regular p n row d x y (rw four zd)
      (pairs_each p n row d (all_blocks (circulant_cuts p n) (pairs_back p n) n row fits all d dn) x y xd yd) (rw four e)

  entry_positive : (i j : ℕ) → i < n → j < n → 0 < circulant (numbers p) n row i j
  unfolding circulant
  entry_positive i j l m =
      around_positive n _ _ (all_next (circulant_cuts p n) (pairs_back p n) n row fits all (place_around n i j) (place_lt n i j l))

  -- so have any two such pairs without a place in common
  in_order : (a b c d : ℕ) → a ≤ b → c ≤ d → b < n → d < n → (b ≡ d → ⊥) → SameSum n a b c d
      → product p (get_or row a 0) (get_or row b 0) ≡ product p (get_or row c 0) (get_or row d 0) → ⊥
  in_order a b c d ab cd bn dn apart same e =
      ⊎_elim
      (λ (l : b ≤ d). let less : b < d = ⊎_elim (λ (q : b ≡ d). absurd (apart q)) (λ m. m) (eq-or-lt_of_le l) in
      largest c d a b cd dn (omega arith) less (same_turned n a b c d same) (sym e))
      (λ (l : d < b). largest a b c d ab bn (omega arith) l same e) (le_or_lt b d)

  swap : (a b : ℕ) → product p (get_or row a 0) (get_or row b 0) ≡ product p (get_or row b 0) (get_or row a 0)
  swap a b = times_comm p (get_or row a 0) (get_or row b 0)

  same_right : (a b c d : ℕ) → SameSum n a b c d → SameSum n a b d c
  same_right a b c d s = same_turned n d c a b (same_swapped n c d a b (same_turned n a b c d s))

  pairs_apart : (a b c d : ℕ) → a < n → b < n → c < n → d < n → (a ≡ c → ⊥) → (a ≡ d → ⊥) → (b ≡ c → ⊥) → (b ≡ d → ⊥) → SameSum n a b c d
      → product p (get_or row a 0) (get_or row b 0) ≡ product p (get_or row c 0) (get_or row d 0) → ⊥
  pairs_apart a b c d an bn cn dn ac ad bc bd same e =
      ⊎_elim
      (λ (ab : a ≤ b).
      ⊎_elim (λ (cd : c ≤ d). in_order a b c d ab cd bn dn bd same e)
      (λ (dc : d < c). in_order a b d c ab (omega arith) bn cn bc (same_right a b c d same) (e ∙ swap c d)) (le_or_lt c d))
      (λ (ba : b < a).
      ⊎_elim (λ (cd : c ≤ d). in_order b a c d (omega arith) cd an dn ad (same_swapped n a b c d same) (swap b a ∙ e))
      (λ (dc : d < c).
      in_order b a d c (omega arith) (omega arith) an cn ac (same_right b a c d (same_swapped n a b c d same)) (swap b a ∙ e ∙ swap c d)) (le_or_lt c d))
      (le_or_lt a b)

  -- no two products across two lines and two columns are equal
  across_apart : (i₁ i₂ j₁ j₂ : ℕ) → i₁ < i₂ → i₂ < n → j₁ < j₂ → j₂ < n
      → product p (circulant (numbers p) n row i₁ j₁) (circulant (numbers p) n row i₂ j₂) ≡ product p (circulant (numbers p) n row i₁ j₂) (circulant (numbers p) n row i₂ j₁) → ⊥
  unfolding circulant
  across_apart i₁ i₂ j₁ j₂ ii l jj m e =
      let k : i₁ < n = omega arith in
      let o : j₁ < n = omega arith in
      pairs_apart (place_around n i₁ j₁) (place_around n i₂ j₂) (place_around n i₁ j₂) (place_around n i₂ j₁)
      (place_lt n i₁ j₁ k) (place_lt n i₂ j₂ l) (place_lt n i₁ j₂ k) (place_lt n i₂ j₁ l)
      (λ q. omega (arith, same_column n i₁ j₁ j₂ k o m q)) (λ q. omega (arith, same_line n i₁ i₂ j₁ k l o q))
      (λ q. omega (arith, same_line n i₂ i₁ j₂ l k m q)) (λ q. omega (arith, same_column n i₂ j₂ j₁ l m o q))
      (across n i₁ i₂ j₁ j₂ k l o m) e

  -- so the blocks of sizes 1 and 2 are regular
  small_regular : (k r s : ℕ) → 1 ≤ k → k ≤ 2 → is_regular_block (numbers p) n (circulant (numbers p) n row) k r s ≡ true
  small_regular k r s l u = elim (dec_lt k 2) [
    | yes v ↦ let one : k ≡ 1 = omega arith in rw one (one_regular p h n (circulant (numbers p) n row) (circulant_below p n h row in_field) r s entry_positive)
    | no v ↦ let two : k ≡ 2 = omega arith in rw two (two_regular p h n (circulant (numbers p) n row) (circulant_below p n h row in_field) r s across_apart)
  ]

module _ (p n : ℕ) (h : Modulus p) (o : CirculantOrder n) (row : List ℕ) (in_field : WordsInField p n row) (m : List (List ℕ))
    (is : m ≡ framed n n (λ i j. get_or row ((j + (n - i)) % n) 0)) where
  entries : (i j : ℕ) → i < n → j < n → entry m i j ≡ get_or row (place_around n i j) 0
  entries = entry_of n n (λ i j. get_or row ((j + (n - i)) % n) 0) m is

  -- the entries of its circulant matrix are elements
  pub circulant_in_field : InField p n n m
  unfolding InField
  circulant_in_field i j l k = rw (entries i j l k) (unfold WordsInField in (in_field (place_around n i j) (place_lt n i j l)))

  -- the larger blocks decide, where each entry may stand
  pub circulant_good : n ≤ length row → AllStand (circulant_cuts p n) n row
      → regular_between (numbers p) n (entry m) n 2 n ≡ is_good circulant_shape p n (take n row)
  circulant_good fits stands =
      regular_same p n h (entry m) (circulant (numbers p) n (take n row)) in_field_holds same n 2 n
      ∙ sym (sizes_known (numbers p) n (circulant (numbers p) n (take n row)) n 2 n
      (λ k r s l u a b.
      small_regular p n h o (take n row) in_words (omega (arith, length-take-le n row fits)) (stands_front (circulant_cuts p n) n row stands) k r s l u))
      ∙ sym (circulant_decides p h n (omega (arith, o.0)) o.1 (take n row) in_words)
      ∙ sym (good_circulant p n (take n row))
    where
      in_field_holds : (i j : ℕ) → i < n → j < n → entry m i j < 2 ^ degree p
      in_field_holds = unfold InField in circulant_in_field

      same : (i j : ℕ) → i < n → j < n → entry m i j ≡ circulant (numbers p) n (take n row) i j
      same i j l k = entries i j l k ∙ unfold circulant in (sym (get_or-take n row (place_around n i j) 0 (place_lt n i j l)))

      in_words : WordsInField p n (take n row)
      in_words = unfold WordsInField in (λ j l. rw (get_or-take n row j 0 l) (in_field j l))
