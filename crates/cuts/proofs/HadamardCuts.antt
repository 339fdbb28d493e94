-- The cuts of the walk over Hadamard rows: what the code tests of a letter, of the last letter and of a whole row, what the tests of a
-- row's prefixes say of its small blocks, and that the lightest row is the lightest of those that are tried.
-- Assumes nothing.
use mathlib.Core.Path.{◌≡◌, refl, sym, ap, ap₂, subst, ◌∙◌}
use mathlib.Core.Logic.{inr, ⊎_elim}
use mathlib.Core.Bool.{Bool, true, false, not, ◌&&◌, ◌||◌, and_assoc, and-true, and-false, true≢false}
use mathlib.Core.List.{List, [], ◌∷◌, foldl, foldl-append, Memᴰ}
use Prim.Native.Nat.{ℕ, zero, suc, ◌+◌, ◌-◌, ◌/◌, ◌^◌, ◌≤◌, ◌<◌}
use native.Mathlib.Nat.{pos_of_ne-zero}
use native.Mathlib.Decide.{dec_lt}
use native.Mathlib.Numerals.{add-one}
use native.Mathlib.Omega.{arith}
use lib.Bits.{bit_xor, xor_lt}
use lib.Dec.{eqb, ltb}
use lib.ListN.{length, get_or, take}
use Rattle.std.specs.List.{list_any}
use lib.Seq.{take-suc, length-take-le, get_or-take}
use borrow.Author.Tests.{ltb-true, lt-ltb, le-ltb, eqb-true, eq-eqb, ne_eqb, not-true}
use Rattle.algebra.specs.Matrix.{sum, hadamard, is_mds, words}
use Rattle.algebra.proofs.Involution.{and_left, and_right}
use Rattle.algebra.proofs.Sums.{sum_cong}
use Rattle.algebra.proofs.Symmetry.{same_bool}
use Rattle.algebra.proofs.Planes.{ProductsDiffer}
use Rattle.field.specs.Polynomial.{◌⊕◌, Modulus, degree}
use Rattle.field.proofs.Sum.{sum_comm, sum_cancel}
use Rattle.field.specs.Steps.{every_below}
use Rattle.lines.specs.Numbers.{numbers, elements, entry, InField, WordsInField, HalvingOrder}
use Rattle.lines.specs.Steps.Blocks.{framed}
use Rattle.lines.proofs.Filled.{entry_of, xor_sum}
use Rattle.matrix.specs.Steps.Regular.{is_regular_block, regular_between}
use Rattle.matrix.proofs.Squares.{every_each, each_every, sizes_known}
use Rattle.matrix.proofs.Planes.{fourth, plane_sum_holds, plane_products, one_regular, two_regular}
use Rattle.rows.specs.Lightest.{nothing, member, ascending, lightest}
use Rattle.rows.specs.Shape.{is_good, hadamard_shape}
use Rattle.rows.specs.Keys.{key_of, lightest_row}
use Rattle.rows.specs.Steps.Orders.{SearchOrder}
use Rattle.cuts.specs.Steps.Hadamard.{place_before, is_next, planes_pass, last_letter}
use Rattle.cuts.specs.Steps.Families.{hadamard_cuts}
use Rattle.rows.specs.Steps.IndexMaps.{canonical}
use Rattle.cuts.specs.Steps.Cuts.{may_stand, passes, AllStand, tried}
use Rattle.rows.proofs.Rows.{mem_at, mem_words, member_mem, member_snoc, get_d_mem, not_passed}
use Rattle.rows.proofs.Walk.{same_good}
use Rattle.rows.proofs.IndexMaps.{canonical_four, canonical_eight}
use Rattle.rows.proofs.HadamardRows.{Power, power, good_mds, good_sum, good_positive, good_different, good_regular, regular_same, word_in_field, canonical_lightest}
use Rattle.cuts.proofs.Pruning.{LooksBack, stand_own, all_next, all_blocks, OnlyLast, stands_front, tried_stands}
use Rattle.cuts.proofs.PlaneCuts.{SingularPlane, plane_sum, plane_regular, planes_front, planes_each, planes_hold}

-- ---- the orders

pub order_halves : (n : ℕ) → SearchOrder n → HalvingOrder n
order_halves n o = inr (inr o)

pub order_most : (n : ℕ) → SearchOrder n → n ≤ 8
order_most n o = ⊎_elim (λ (e : n ≡ 4). omega arith) (λ (e : n ≡ 8). omega arith) o

pub order_least : (n : ℕ) → SearchOrder n → 0 < n
order_least n o = ⊎_elim (λ (e : n ≡ 4). omega arith) (λ (e : n ≡ 8). omega arith) o

-- ---- the inequalities

-- the smaller entry stands before the larger one
places : every_below 7 (λ d. ltb (place_before (suc d)) (suc d)) ≡ true
unfolding every_below place_before
places = refl

pub place_lt : (d : ℕ) → 0 < d → d < 8 → place_before d < d
place_lt zero h l = absurd (omega arith)
place_lt (suc d) h l = ltb-true _ _ (every_each 7 _ places d (omega arith))

-- the entry at place d + 1 is larger than the one that is to be smaller
abbrev rises_at : List ℕ → ℕ → Bool
rises_at row d = ltb (get_or row (place_before (suc d)) 0) (get_or row (suc d) 0)

tests_four : (row : List ℕ) → every_below 3 (rises_at row) ≡ canonical 4 row
unfolding every_below place_before
tests_four row = sym (canonical_four row ∙ simp (and_assoc, and-true))

tests_eight : (row : List ℕ) → every_below 7 (rises_at row) ≡ canonical 8 row
unfolding every_below place_before
tests_eight row = sym (canonical_eight row ∙ simp (and_assoc, and-true))

tests : (n : ℕ) → SearchOrder n → (row : List ℕ) → every_below (n - 1) (rises_at row) ≡ canonical n row
tests n o row = ⊎_elim (λ (e : n ≡ 4). rw e (tests_four row)) (λ (e : n ≡ 8). rw e (tests_eight row)) o

-- ---- the test of a letter

-- the place before is one of the eight
pub place_inside : (d : ℕ) → (d ≡ 0 → ⊥) → d < 8 → place_before d < 8
place_inside d e l = omega (arith, place_lt d (pos_of_ne-zero e) l)

-- an entry is a member of the prefix
pub member_at : (row : List ℕ) (d a : ℕ) → d ≤ length row → (i : ℕ) → i < d → get_or row i 0 ≡ a → member a (take d row) ≡ true
member_at row d a fits i h e =
    let there : Memᴰ (get_or (take d row) i 0) (take d row) = get_d_mem (take d row) i 0 (omega (arith, length-take-le d row fits)) in
    (member_mem a (take d row)).1 (subst (λ (x : ℕ). Memᴰ x (take d row)) (get_or-take d row i 0 h ∙ e) there)

-- as a search for it tells
pub member_any : (a : ℕ) (l : List ℕ) → list_any (λ y. eqb y a) l ≡ member a l
unfolding member
member_any a [] = refl
member_any a (y ∷ l) = ap₂ ◌||◌ turned (member_any a l)
  where
    turned : eqb y a ≡ eqb a y
    turned = same_bool _ _ (λ e. eq-eqb a y (sym (eqb-true y a e))) (λ e. eq-eqb y a (sym (eqb-true a y e)))

-- nothing stands before it
pub next_first : (row : List ℕ) (d a : ℕ) → d ≡ 0 → ltb 0 a ≡ is_next (take d row) a
unfolding is_next member
next_first row d a e = rw (e, and-true)

module _ (row : List ℕ) (d a : ℕ) (fits : d ≤ length row) (l : d < 8) (some : 0 < d) where
  -- the test, of the array
  next_is : is_next (take d row) a ≡ (ltb (get_or row (place_before d) 0) a && not (member a (take d row)))
  unfolding is_next
  next_is = rw (length-take-le d row fits, get_or-take d row (place_before d) 0 (place_lt d some l))

  -- it is too small
  pub next_low : a ≤ get_or row (place_before d) 0 → false ≡ is_next (take d row) a
  next_low h = sym (next_is ∙ ap (λ t. t && not (member a (take d row))) (le-ltb (get_or row (place_before d) 0) a h))

  -- it stands already
  pub next_equal : (i : ℕ) → i < d → get_or row i 0 ≡ a → false ≡ is_next (take d row) a
  next_equal i h e = sym (next_is ∙ (rw (member_at row d a fits i h e, and-false)))

  -- it is large enough: it passes where it is none of the entries
  pub next_large : get_or row (place_before d) 0 < a → not (member a (take d row)) ≡ is_next (take d row) a
  next_large h = sym (next_is ∙ (rw (lt-ltb (get_or row (place_before d) 0) a h)))

  -- it passes
  pub next_passes : get_or row (place_before d) 0 < a → member a (take d row) ≡ false → true ≡ is_next (take d row) a
  next_passes h e = sym (next_is ∙ (rw (e, lt-ltb (get_or row (place_before d) 0) a h)))

  -- where it passes, it is larger
  next_larger : is_next (take d row) a ≡ true → get_or row (place_before d) 0 < a
  next_larger e = ltb-true _ _ (and_left (ltb (get_or row (place_before d) 0) a) _ (sym next_is ∙ e))

-- one entry more was looked at
pub next_turn : (row : List ℕ) (a i : ℕ) → i < length row → member a (take i row) ≡ false → (get_or row i 0 ≡ a → ⊥) → member a (take (i + 1) row) ≡ false
next_turn row a i l e f = rw (add-one, take-suc row i 0 l, member_snoc, e) (ne_eqb a (get_or row i 0) (λ q. f (sym q)))

module _ (q : List ℕ) (a : ℕ) (t : is_next q a ≡ true) where
  -- a letter that comes next is not 0
  next_positive : 0 < a
  unfolding is_next
  next_positive = omega (arith, ltb-true _ a (and_left (ltb (get_or q (place_before (length q)) 0) a) (not (member a q)) t))

  -- and none of the entries
  next_new : member a q ≡ false
  unfolding is_next
  next_new = not-true (member a q) (and_right (ltb (get_or q (place_before (length q)) 0) a) (not (member a q)) t)

-- ---- whether a letter may stand

-- the planes that an entry completes have no place behind it
pub planes_back : (p n : ℕ) → LooksBack (hadamard_cuts p n)
planes_back p n row d = planes_front p n row d

-- ---- a row whose entries may all stand

-- what the tests of its prefixes say of a row: no entry is 0, no two are equal, and no plane has two equal products; by this its
-- blocks of sizes 1 and 2 are regular
pub record SmallBlocks (p n : ℕ) (row : List ℕ) : Type 0 where
  pub positive : (i : ℕ) → i < n → 0 < get_or row i 0
  pub different : (i j : ℕ) → i < n → j < n → get_or row i 0 ≡ get_or row j 0 → i ≡ j
  pub products : ProductsDiffer (numbers p) n (λ i. get_or row i 0)

module _ (p n : ℕ) (row : List ℕ) (fits : n ≤ length row) (all : AllStand (hadamard_cuts p n) n row) where
  -- each entry comes next by the order
  each_next : (d : ℕ) → d < n → is_next (take d row) (get_or row d 0) ≡ true
  each_next = all_next (hadamard_cuts p n) (planes_back p n) n row fits all

  -- no entry is one of those before it
  all_new : (i j : ℕ) → i < j → j < n → get_or row i 0 ≡ get_or row j 0 → ⊥
  all_new i j l k e =
      true≢false (sym (member_at row j (get_or row j 0) (omega arith) i l e) ∙ next_new (take j row) (get_or row j 0) (each_next j k))

  pub small_blocks : SmallBlocks p n row
  small_blocks =
      record {
        positive = λ i l. next_positive (take i row) (get_or row i 0) (each_next i l);
        different = λ i j l k e. elim (dec_lt i j) [
          | yes m ↦ absurd (all_new i j m k e)
          | no m ↦ elim (dec_lt j i) [
            | yes q ↦ absurd (all_new j i q l (sym e))
            | no q ↦ omega arith
          ]
        ];
        products = λ a b d l m k f. plane_regular p n row d b a f (planes_each p n row d (all_blocks (hadamard_cuts p n) (planes_back p n) n row fits all d k) b a l m);
      }

-- the same of the first entries of an array
pub front_blocks : (p n : ℕ) (row : List ℕ) → n ≤ length row → AllStand (hadamard_cuts p n) n row → SmallBlocks p n (take n row)
front_blocks p n row fits all =
    small_blocks p n (take n row) (omega (arith, length-take-le n row fits)) (stands_front (hadamard_cuts p n) n row all)

-- ---- the last letter

-- ---- the exclusive or of the first entries

module _ (row : List ℕ) (n : ℕ) (some : 0 < n) (fits : n ≤ length row) where
  -- with one entry more
  xor_more : foldl ◌⊕◌ 0 (take n row) ≡ foldl ◌⊕◌ 0 (take (n - 1) row) ⊕ get_or row (n - 1) 0
  xor_more =
      let here : n ≡ suc (n - 1) = omega arith in
      ap (λ (m : ℕ). foldl ◌⊕◌ 0 (take m row)) here
      ∙ ap (foldl ◌⊕◌ 0) (take-suc row (n - 1) 0 (omega arith))
      ∙ foldl-append ◌⊕◌ 0 (take (n - 1) row) (get_or row (n - 1) 0 ∷ [])

  -- the exclusive or is 1 where the last entry is the last letter
  pub last_one : eqb (get_or row (n - 1) 0) (last_letter (take (n - 1) row)) ≡ true → foldl ◌⊕◌ 0 (take n row) ≡ 1
  unfolding last_letter
  last_one e =
      let start = foldl ◌⊕◌ 0 (take (n - 1) row) in
      xor_more ∙ ap (λ x. start ⊕ x) (eqb-true _ _ e) ∙ sum_cancel start 1

  -- and only there
  one_last : foldl ◌⊕◌ 0 (take n row) ≡ 1 → eqb (get_or row (n - 1) 0) (last_letter (take (n - 1) row)) ≡ true
  unfolding last_letter
  one_last e =
      let start = foldl ◌⊕◌ 0 (take (n - 1) row) in
      eq-eqb _ _ (sym (sum_cancel start (get_or row (n - 1) 0)) ∙ ap (λ x. start ⊕ x) (sym xor_more ∙ e))

-- no other letter may be the last
pub only_last : (p n : ℕ) (q : List ℕ) (a : ℕ) → a ≡ last_letter q → OnlyLast (hadamard_cuts p n) q a
only_last p n q a e = record { may = eq-eqb a (last_letter q) e; only = λ b f. eqb-true b (last_letter q) f ∙ sym e }

-- ---- the planes of a good row

-- the fourth index: it makes the exclusive or 0, and it is none of the others
fourth_makes : (a b d : ℕ) → bit_xor (bit_xor a b) (fourth a b d) ≡ d
fourth_makes a b d = unfold ◌⊕◌ in (sum_cancel (a ⊕ b) d)

fourth_new : (a b d : ℕ) → b < d → a ≡ fourth a b d → ⊥
fourth_new a b d l e =
    let same : b ≡ d = unfold ◌⊕◌ in (sym (sum_cancel a b) ∙ sum_comm a (a ⊕ b) ∙ ap (λ c. a ⊕ b ⊕ c) e ∙ sum_cancel (a ⊕ b) d) in
    omega arith

module _ (p n : ℕ) (h : Modulus p) (o : SearchOrder n) (r : List ℕ) (in_field : WordsInField p n r) (g : is_good hadamard_shape p n r ≡ true) where
  -- the products differ
  good_products : (d b a : ℕ) → a < b → b < d → d < n → fourth a b d < d → SingularPlane p r d b a → ⊥
  good_products d b a l m k f =
      let two = power n o in
      let is : n ≡ 2 ^ two.k = two.is in
      plane_products p h two.k r (subst (λ (n : ℕ). WordsInField p n r) is in_field)
      (subst (λ (n : ℕ). is_mds (numbers p) (elements p) n (hadamard (numbers p) r) ≡ true) is (good_mds p n r g))
      a b (fourth a b d) d (omega arith) (omega arith) (omega arith) (omega arith) (fourth_new a b d m) (λ (e : a ≡ d). omega arith) (fourth_makes a b d)

  -- the sums of order 8
  good_sums : (d b a : ℕ) → a < b → b < d → d < n → n ≡ 8 → 2 ≤ plane_sum r d b a
  good_sums d b a l m k is =
      plane_sum_holds p h r (subst (λ (n : ℕ). WordsInField p n r) is in_field)
      (subst (λ (n : ℕ). is_mds (numbers p) (elements p) n (hadamard (numbers p) r) ≡ true) is (good_mds p n r g))
      (subst (λ (n : ℕ). sum (numbers p) n (λ i. get_or r i 0) ≡ 1) is (good_sum p n h o r in_field g)) a b (fourth a b d) d l m (omega arith) refl

  -- so they pass
  good_planes : (d : ℕ) → d < n → planes_pass p n r d ≡ true
  good_planes d k = planes_hold p n r d (λ b a l m f. (good_products d b a l m k f, good_sums d b a l m k))

-- ---- the rows that are tried

module _ (p n : ℕ) (h : Modulus p) (o : SearchOrder n) (r : List ℕ) (long : length r ≡ n) (in_field : WordsInField p n r) where
  -- a good canonical row passes the tests
  canonical_passes : canonical n r ≡ true → is_good hadamard_shape p n r ≡ true → passes (hadamard_cuts p n) n r ≡ true
  unfolding passes
  canonical_passes e g =
      rw (
        each_every n (λ d. may_stand (hadamard_cuts p n) (take d r) (get_or r d 0)) stands,
        one_last r n (order_least n o) (omega arith) (xor_sum p r n (omega arith) ∙ good_sum p n h o r in_field g),
      )
    where
      new : (d : ℕ) → d < n → member (get_or r d 0) (take d r) ≡ false
      new d l =
          not_passed (member (get_or r d 0) (take d r)) λ m.
          let (j, k, q) = mem_at (take d r) (get_or r d 0) ((member_mem (get_or r d 0) (take d r)).0 m) in
          let less : j < d = omega (arith, length-take-le d r (omega arith)) in
          omega (arith, good_different p n h o r in_field g j d (omega arith) l (sym (get_or-take d r j 0 less) ∙ q))

      comes_next : (d : ℕ) → d < n → is_next (take d r) (get_or r d 0) ≡ true
      comes_next zero l = sym (next_first r 0 (get_or r 0 0) refl) ∙ lt-ltb 0 (get_or r 0 0) (good_positive p n h o r in_field g 0 l)
      comes_next (suc d) l =
          sym (next_passes r (suc d) (get_or r (suc d) 0) (omega arith) (omega (arith, order_most n o)) (omega arith)
          (ltb-true _ _ (every_each (n - 1) (rises_at r) (tests n o r ∙ e) d (omega arith))) (new (suc d) l))

      stands : (d : ℕ) → d < n → may_stand (hadamard_cuts p n) (take d r) (get_or r d 0) ≡ true
      stands d l = stand_own (hadamard_cuts p n) (planes_back p n) r d (omega arith) ∙ (rw (comes_next d l, good_planes p n h o r in_field g d l))

  -- a row that is tried is canonical
  tried_canonical : tried (hadamard_cuts p n) p n r ≡ true → canonical n r ≡ true
  tried_canonical t =
      sym (tests n o r)
      ∙ each_every (n - 1) (rises_at r) (λ d l.
      lt-ltb _ _ (next_larger r (suc d) (get_or r (suc d) 0) (omega arith) (omega (arith, order_most n o)) (omega arith)
      (each_next p n r (omega arith) (tried_stands (hadamard_cuts p n) p n r t) (suc d) (omega arith))))

  tried_same : (canonical n r && is_good hadamard_shape p n r) ≡ tried (hadamard_cuts p n) p n r
  unfolding tried
  tried_same =
      same_bool _ _
      (λ e.
      let g = and_right (canonical n r) (is_good hadamard_shape p n r) e in
      rw (canonical_passes (and_left (canonical n r) (is_good hadamard_shape p n r) e) g) g)
      (λ t. rw (tried_canonical t) (and_right (passes (hadamard_cuts p n) n r) (is_good hadamard_shape p n r) t))

-- of words over the candidates, the lightest of the canonical ones is the lightest of those that are tried
pub tried_among : (p n : ℕ) → Modulus p → SearchOrder n → (cs : List ℕ) (rows : List (List ℕ))
    → ((r : List ℕ) → Memᴰ r rows → Memᴰ r (words (ascending (2 ^ degree p) cs) n))
    → lightest (λ r. canonical n r && is_good hadamard_shape p n r) (key_of p n) rows ≡ lightest (tried (hadamard_cuts p n) p n) (key_of p n) rows
unfolding lightest
tried_among p n h o cs rows isWord =
    same_good _ _ (key_of p n) nothing rows λ r m.
    tried_same p n h o r ((mem_words (ascending (2 ^ degree p) cs) n r).0 (isWord r m)).0 (word_in_field p n cs r (isWord r m))

-- so of all of them
pub tried_rows : (p n : ℕ) → Modulus p → SearchOrder n → (cs : List ℕ)
    → lightest_row hadamard_shape p n cs ≡ lightest (tried (hadamard_cuts p n) p n) (key_of p n) (words (ascending (2 ^ degree p) cs) n)
tried_rows p n h o cs = canonical_lightest p n h o cs ∙ tried_among p n h o cs (words (ascending (2 ^ degree p) cs) n) (λ r m. m)

-- ---- a whole row

-- its blocks of sizes 1 and 2 are regular
small_regular : (p n : ℕ) → Modulus p → SearchOrder n → (row : List ℕ) → WordsInField p n row → SmallBlocks p n row → (k r s : ℕ) → 1 ≤ k → k ≤ 2
    → is_regular_block (numbers p) n (hadamard (numbers p) row) k r s ≡ true
small_regular p n h o row below small k r s l u =
    subst (λ (n : ℕ). WordsInField p n row → SmallBlocks p n row → is_regular_block (numbers p) n (hadamard (numbers p) row) k r s ≡ true) (sym two.is) sizes below small
  where
    two : Power n
    two = power n o

    sizes : WordsInField p (2 ^ two.k) row → SmallBlocks p (2 ^ two.k) row → is_regular_block (numbers p) (2 ^ two.k) (hadamard (numbers p) row) k r s ≡ true
    sizes w b = elim (dec_lt k 2) [
      | yes v ↦ let one : k ≡ 1 = omega arith in rw one (one_regular p h two.k row w r s b.positive)
      | no v ↦ let pair : k ≡ 2 = omega arith in rw pair (two_regular p h two.k row w r s b.different b.products)
    ]

module _ (p n : ℕ) (h : Modulus p) (o : SearchOrder n) (row : List ℕ) (in_field : WordsInField p n row) (m : List (List ℕ))
    (is : m ≡ framed n n (λ i j. get_or row (bit_xor i j) 0)) where
  entries : (i j : ℕ) → i < n → j < n → entry m i j ≡ get_or row (bit_xor i j) 0
  entries = entry_of n n (λ i j. get_or row (bit_xor i j) 0) m is

  -- the entries of its Hadamard matrix
  entry_inside : (i j : ℕ) → i < n → j < n → bit_xor i j < n
  entry_inside i j l k =
      let two = power n o in
      subst (λ (n : ℕ). i < n → j < n → bit_xor i j < n) (sym two.is) (xor_lt two.k i j) l k

  pub matrix_in_field : InField p n n m
  unfolding InField
  matrix_in_field i j l k = rw (entries i j l k) (unfold WordsInField in (in_field (bit_xor i j) (entry_inside i j l k)))

  -- few of its blocks decide, where each entry may stand
  pub matrix_good : n ≤ length row → foldl ◌⊕◌ 0 (take n row) ≡ 1 → AllStand (hadamard_cuts p n) n row
      → regular_between (numbers p) n (entry m) 1 2 (n / 2) ≡ is_good hadamard_shape p n (take n row)
  matrix_good fits e stands =
      regular_same p n h (entry m) (hadamard (numbers p) (take n row)) in_field_holds same 1 2 (n / 2)
      ∙ sym (sizes_known (numbers p) n (hadamard (numbers p) (take n row)) 1 2 (n / 2)
      (λ k r s l u a b. small_regular p n h o (take n row) in_words (front_blocks p n row fits stands) k r s l u))
      ∙ sym (good_regular p n h o (take n row) in_words one)
    where
      in_field_holds : (i j : ℕ) → i < n → j < n → entry m i j < 2 ^ degree p
      in_field_holds = unfold InField in matrix_in_field

      same : (i j : ℕ) → i < n → j < n → entry m i j ≡ hadamard (numbers p) (take n row) i j
      same i j l k = entries i j l k ∙ unfold hadamard in (sym (get_or-take n row (bit_xor i j) 0 (entry_inside i j l k)))

      in_words : WordsInField p n (take n row)
      in_words = unfold WordsInField in (λ j l. rw (get_or-take n row j 0 l) (in_field j l))

      one : sum (numbers p) n (λ i. get_or (take n row) i 0) ≡ 1
      one = sum_cong (numbers p) n _ _ (λ i l. get_or-take n row i 0 l) ∙ sym (xor_sum p row n fits) ∙ e
