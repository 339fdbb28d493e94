-- What the walk may leave out, for any shape with its cuts: a letter that may not stand, a prefix that is too heavy, and every last letter
-- but the only one that may be last.
-- Assumes nothing.
use mathlib.Core.Path.{◌≡◌, refl, sym, ap, ap₂, subst, ◌∙◌}
use mathlib.Core.Logic.{⊎_elim}
use mathlib.Core.Bool.{Bool, true, false, ◌&&◌, and-false, true≢false}
use mathlib.Core.List.Memᴰ
use mathlib.Core.List.{List, [], ◌∷◌, ◌++◌, Memᴰ}
use Prim.Native.Nat.{ℕ, suc, ◌+◌, ◌-◌, ◌*◌, ◌^◌, ◌≤◌, ◌<◌}
use native.Mathlib.Nat.{le_refl}
use native.Mathlib.Omega.{arith}
use lib.ListN.{length, get_or, take, set, length-append, get_or-append}
use lib.Seq.{append_snoc, take-append_seam, take-take, take-suc, take-suc-set, length-take-le, get_or-append_seam, get_or-take}
use borrow.Author.Tests.{le-ltb}
use Rattle.algebra.proofs.Involution.{and_left, and_right}
use Rattle.field.specs.Polynomial.{Modulus, degree, xor_count}
use Rattle.field.specs.Steps.{every_below}
use Rattle.lines.specs.Counts.{element_count}
use Rattle.lines.specs.Steps.Figures.{least_depth}
use Rattle.lines.proofs.Tallies.{total_least, element_count_cong}
use Rattle.lines.proofs.LineOnes.{least_depth_le, least_depth_cong}
use Rattle.matrix.proofs.Squares.{every_each}
use Rattle.rows.specs.Lightest.{Best, found, lighter, keep, keep_all, member}
use Rattle.rows.specs.Shape.{is_good}
use Rattle.rows.specs.Keys.{sum_of, depth_of_row, key_of}
use Rattle.rows.specs.Steps.Walk.{completions}
use Rattle.cuts.specs.Steps.Cuts.{Cuts, may_stand, passes, AllStand, tried}
use Rattle.rows.proofs.Rows.{mem_words, member_mem, get_d_mem, not_passed}
use Rattle.rows.proofs.Lightest.{keep_cases}
use Rattle.rows.proofs.Keys.{LessOrSame, pair_more, key_le}
use Rattle.rows.proofs.Walk.{mem_completions, extend_none, skip, skip_none, skip_heavy}

-- ---- one row that may be good

module _ (good : List ℕ → Bool) (key : List ℕ → ℕ) where
  -- no row is lighter than itself
  lighter_after : (best : Best) (r : List ℕ) → good r ≡ true → lighter key (keep good key best r) r ≡ false
  unfolding lighter
  lighter_after best r g =
      ⊎_elim (λ q. ap (λ b. lighter key b r) q.0 ∙ le-ltb (key r) (key r) (le_refl (key r)))
      (λ q. ap (λ b. lighter key b r) q.0 ∙ q.1 g)
      (keep_cases good key best r)

  -- a row that is not good changes nothing
  keep_none : (best : Best) (r : List ℕ) → good r ≡ false → keep good key best r ≡ best
  unfolding keep
  keep_none best r e = rw e

  -- where only one of the rows may be good, that row alone counts
  only_one : (best : Best) (rows : List (List ℕ)) (r : List ℕ) → ((x : List ℕ) → Memᴰ x rows → good x ≡ true → x ≡ r) → Memᴰ r rows
      → keep_all good key best rows ≡ keep good key best r
  unfolding keep_all
  only_one best [] r only m = absurd (Memᴰ.not-nil m)
  only_one best (x ∷ rows) r only m = go (good x) refl (only_one best rows r (λ y k. only y (Memᴰ.tail k)))
    where
      go : (t : Bool) → good x ≡ t → (Memᴰ r rows → keep_all good key best rows ≡ keep good key best r)
          → keep_all good key (keep good key best x) rows ≡ keep good key best r
      go true e rest =
          let same : x ≡ r = only x (Memᴰ.head refl) e in
          ap (λ y. keep_all good key (keep good key best y) rows) same
          ∙ skip_heavy good key (keep good key best r) rows (λ y k g. ap (lighter key (keep good key best r)) (only y (Memᴰ.tail k) g) ∙ lighter_after best r (ap good (sym same) ∙ e))
      go false e rest =
          ap (λ b. keep_all good key b rows) (keep_none best x e)
          ∙ ⊎_elim
          (λ (q : r ≡ x).
          skip_none good key best rows (λ y k. not_passed (good y) (λ g. true≢false (sym g ∙ ap good (only y (Memᴰ.tail k) g ∙ q) ∙ e))) ∙ sym (keep_none best r (ap good q ∙ e)))
          rest (Memᴰ.cases_cons m)

-- ---- sums

-- each of k further elements counts at least the least
element_least : (p least : ℕ) (row : ℕ → ℕ) (d k : ℕ) → ((j : ℕ) → d ≤ j → j < d + k → least ≤ xor_count p (row j))
    → element_count p d row + least * k ≤ element_count p (d + k) row
unfolding element_count
element_least p least row d k h = total_least (λ j. xor_count p (row j)) least d k h

-- ---- a letter that may stand

-- the test of the blocks that an entry completes looks at no entry behind it
abbrev pub LooksBack : Cuts → Type 0
LooksBack cuts = (row : List ℕ) (d : ℕ) → cuts.blocks_pass (take (suc d) row) d ≡ cuts.blocks_pass row d

-- a letter that does not come next may not stand
pub stand_not_next : (cuts : Cuts) (q : List ℕ) (a : ℕ) → cuts.is_next q a ≡ false → may_stand cuts q a ≡ false
unfolding may_stand
stand_not_next cuts q a e = rw e

module _ (cuts : Cuts) (back : LooksBack cuts) (row : List ℕ) (d : ℕ) (fits : d < length row) where
  -- the test of a letter, of the array in which it is stored
  stand_stored : (a : ℕ) → may_stand cuts (take d row) a ≡ (cuts.is_next (take d row) a && cuts.blocks_pass (set row d a) d)
  unfolding may_stand
  stand_stored a =
      ap (λ (m : ℕ). cuts.is_next (take d row) a && cuts.blocks_pass (take d row ++ a ∷ []) m) (length-take-le d row (omega arith))
      ∙ ap (λ t. cuts.is_next (take d row) a && t) (ap (λ r. cuts.blocks_pass r d) (sym (take-suc-set row d a fits)) ∙ back (set row d a) d)

  -- a block does not pass
  pub stand_not_blocks : (a : ℕ) → cuts.blocks_pass (set row d a) d ≡ false → may_stand cuts (take d row) a ≡ false
  stand_not_blocks a e = stand_stored a ∙ (rw (e, and-false))

  -- it may stand
  pub stand_both : (a : ℕ) → cuts.is_next (take d row) a ≡ true → cuts.blocks_pass (set row d a) d ≡ true → may_stand cuts (take d row) a ≡ true
  stand_both a e f = stand_stored a ∙ (rw (e, f))

  -- the test of an entry
  pub stand_own : may_stand cuts (take d row) (get_or row d 0) ≡ (cuts.is_next (take d row) (get_or row d 0) && cuts.blocks_pass row d)
  unfolding may_stand
  stand_own =
      ap (λ (m : ℕ). cuts.is_next (take d row) (get_or row d 0) && cuts.blocks_pass (take d row ++ get_or row d 0 ∷ []) m) (length-take-le d row (omega arith))
      ∙ ap (λ t. cuts.is_next (take d row) (get_or row d 0) && t) (ap (λ r. cuts.blocks_pass r d) (sym (take-suc row d 0 fits)) ∙ back row d)

module _ (cuts : Cuts) (back : LooksBack cuts) (n : ℕ) (row : List ℕ) (fits : n ≤ length row) (all : AllStand cuts n row) where
  -- where each entry may stand, each comes next by the order
  pub all_next : (d : ℕ) → d < n → cuts.is_next (take d row) (get_or row d 0) ≡ true
  all_next d l = and_left _ (cuts.blocks_pass row d) (sym (stand_own cuts back row d (omega arith)) ∙ all d l)

  -- and its blocks pass
  pub all_blocks : (d : ℕ) → d < n → cuts.blocks_pass row d ≡ true
  all_blocks d l = and_right (cuts.is_next (take d row) (get_or row d 0)) _ (sym (stand_own cuts back row d (omega arith)) ∙ all d l)

-- ---- a row that is tried

-- the first entries of an array, as a row, may stand as they do
pub stands_front : (cuts : Cuts) (n : ℕ) (row : List ℕ) → AllStand cuts n row → AllStand cuts n (take n row)
stands_front cuts n row all d l = ap₂ (may_stand cuts) (take-take d n row (omega arith)) (get_or-take n row d 0 l) ∙ all d l

module _ (cuts : Cuts) (p n : ℕ) (r : List ℕ) (t : tried cuts p n r ≡ true) where
  pub tried_passes : passes cuts n r ≡ true
  unfolding tried
  tried_passes = and_left (passes cuts n r) (is_good cuts.shape p n r) t

  pub tried_stands : AllStand cuts n r
  unfolding passes
  tried_stands d l = every_each n (λ d. may_stand cuts (take d r) (get_or r d 0)) (and_left _ (cuts.may_end (take (n - 1) r) (get_or r (n - 1) 0)) tried_passes) d l

  pub tried_ends : cuts.may_end (take (n - 1) r) (get_or r (n - 1) 0) ≡ true
  unfolding passes
  tried_ends = and_right (every_below n (λ d. may_stand cuts (take d r) (get_or r d 0))) _ tried_passes

-- ---- the letter a behind the prefix q, with k letters to come

module _ (cuts : Cuts) (p n : ℕ) (letters q : List ℕ) (a k : ℕ) (over : (b : ℕ) → Memᴰ b q → Memᴰ b letters) (letter : Memᴰ a letters)
    (whole : length q + 1 + k ≡ n) where
  -- what holds of a row
  row_of : (r : List ℕ) → Memᴰ r (completions letters (q ++ a ∷ []) k)
      → (length r ≡ n) × (take (length q) r ≡ q) × (get_or r (length q) 0 ≡ a) × ((b : ℕ) → Memᴰ b r → Memᴰ b letters)
  row_of r i =
      let (w, m, e) = (mem_completions letters (q ++ a ∷ []) k r).0 i in
      let (l, o) = (mem_words letters k w).0 m in
      let row : r ≡ q ++ a ∷ w = e ∙ append_snoc q a w in
      rw row (
        omega (arith, length-append q (a ∷ w)),
        take-append_seam q (a ∷ w),
        get_or-append_seam q a w 0,
        λ b n. ⊎_elim (over b) (λ t. ⊎_elim (λ s. Memᴰ.cast s letter) (o b) (Memᴰ.cases_cons t)) (Memᴰ.append_cases q n),
      )

  -- it may not stand there: no row behind it is tried
  pub skip_stand : (best : Best) → may_stand cuts q a ≡ false
      → keep_all (tried cuts p n) (key_of p n) best (completions letters (q ++ a ∷ []) k) ≡ best
  skip_stand best e =
      skip_none (tried cuts p n) (key_of p n) best _ λ r i.
      let (long, front, here, in_letters) = row_of r i in
      not_passed (tried cuts p n r) (λ t. true≢false (sym (tried_stands cuts p n r t (length q) (omega arith)) ∙ ap₂ (may_stand cuts) front here ∙ e))

  -- the entries of the prefix and the letter, which every row behind them begins with
  front_at : (r : List ℕ) → Memᴰ r (completions letters (q ++ a ∷ []) k) → (j : ℕ) → j < length q + 1 → get_or (q ++ a ∷ []) j 0 ≡ get_or r j 0
  front_at r i j l =
      let (w, m, e) = (mem_completions letters (q ++ a ∷ []) k r).0 i in
      sym (ap (λ x. get_or x j 0) e ∙ get_or-append (q ++ a ∷ []) w 0 j (omega (arith, length-append q (a ∷ []))))

  -- what every row behind it counts at least
  heavy_row : (least : ℕ) → ((b : ℕ) → Memᴰ b letters → least ≤ xor_count p b) → (r : List ℕ) → Memᴰ r (completions letters (q ++ a ∷ []) k)
      → element_count p (length q + 1) (λ j. get_or (q ++ a ∷ []) j 0) + least * k ≤ sum_of p n r
  unfolding sum_of
  heavy_row least low r i =
      let (long, front, here, in_letters) = row_of r i in
      let first = element_count_cong p (length q + 1) _ (λ j. get_or r j 0) (front_at r i) in
      let all = element_least p least (λ j. get_or r j 0) (length q + 1) k (λ j u v. low (get_or r j 0) (in_letters (get_or r j 0) (get_d_mem r j 0 (omega arith)))) in
      let end = ap (λ (m : ℕ). element_count p m (λ j. get_or r j 0)) whole in
      omega arith

  -- and how deep it is at least, where the letters are nonzero elements
  deep_row : Modulus p → ((b : ℕ) → Memᴰ b letters → b < 2 ^ degree p) → ((b : ℕ) → Memᴰ b letters → 0 < b)
      → (r : List ℕ) → Memᴰ r (completions letters (q ++ a ∷ []) k)
      → least_depth p n (λ j. get_or (q ++ a ∷ []) j 0) (length q + 1) (sum_of p n r) ≤ depth_of_row p n r
  unfolding sum_of depth_of_row
  deep_row field below positive r i =
      let (long, front, here, in_letters) = row_of r i in
      let entry : (j : ℕ) → j < n → Memᴰ (get_or r j 0) letters = λ j l. in_letters (get_or r j 0) (get_d_mem r j 0 (omega arith)) in
      rw (least_depth_cong p n (length q + 1) (element_count p n (λ j. get_or r j 0)) _ (λ j. get_or r j 0) (front_at r i))
      (least_depth_le p n (λ j. get_or r j 0) field (λ j l. below _ (entry j l)) (λ j l. positive _ (entry j l)) (length q + 1) (omega arith))

  -- every row behind it is heavier than the row kept, or as heavy and not shallower
  pub skip_bound : Modulus p → ((b : ℕ) → Memᴰ b letters → b < 2 ^ degree p) → ((b : ℕ) → Memᴰ b letters → 0 < b)
      → (best : Best) (b : List ℕ) (least : ℕ) → ((b : ℕ) → Memᴰ b letters → least ≤ xor_count p b) → best ≡ found b → (bound : ℕ)
      → bound ≡ element_count p (length q + 1) (λ j. get_or (q ++ a ∷ []) j 0) + least * k
      → LessOrSame (sum_of p n b) (depth_of_row p n b) bound (least_depth p n (λ j. get_or (q ++ a ∷ []) j 0) (length q + 1) bound)
      → keep_all (tried cuts p n) (key_of p n) best (completions letters (q ++ a ∷ []) k) ≡ best
  skip_bound field below positive best b least low e bound is l =
      skip (tried cuts p n) (key_of p n) best _ λ r i g. (
        b,
        e,
        key_le p n b r (pair_more l (omega (arith, heavy_row least low r i)) (λ (same : bound ≡ sum_of p n r). rw same (deep_row field below positive r i))),
      )

-- ---- the last letter

-- a row of one entry
single : (w : List ℕ) → length w ≡ 1 → (b : ℕ) × (w ≡ b ∷ [])
single [] l = absurd (omega arith)
single (b ∷ []) l = (b, refl)
single (b ∷ c ∷ w) l = absurd (omega arith)

-- only the letter a may be the last behind the prefix q
pub record OnlyLast (cuts : Cuts) (q : List ℕ) (a : ℕ) : Type 0 where
  pub may : cuts.may_end q a ≡ true
  pub only : (b : ℕ) → cuts.may_end q b ≡ true → b ≡ a

module _ (cuts : Cuts) (p n : ℕ) (letters q : List ℕ) (a : ℕ) (whole : length q + 1 ≡ n) (last : OnlyLast cuts q a) where
  -- a row that is tried ends with it
  last_of : (r : List ℕ) → Memᴰ r (completions letters q 1) → tried cuts p n r ≡ true → (r ≡ q ++ a ∷ []) × Memᴰ a letters
  last_of r i t =
      let (w, m, e) = (mem_completions letters q 1 r).0 i in
      let (l, over) = (mem_words letters 1 w).0 m in
      let (b, same) = single w l in
      let row : r ≡ q ++ b ∷ [] = e ∙ ap (λ v. q ++ v) same in
      let front : take (length q) r ≡ q = ap (take (length q)) row ∙ take-append_seam q (b ∷ []) in
      let here : get_or r (length q) 0 ≡ b = ap (λ x. get_or x (length q) 0) row ∙ get_or-append_seam q b [] 0 in
      let place : n - 1 ≡ length q = omega arith in
      let ends : cuts.may_end (take (length q) r) (get_or r (length q) 0) ≡ true = subst (λ (m : ℕ). cuts.may_end (take m r) (get_or r m 0) ≡ true) place (tried_ends cuts p n r t) in
      let equal : b ≡ a = last.only b (ap₂ cuts.may_end (sym front) (sym here) ∙ ends) in
      (row ∙ ap (λ x. q ++ x ∷ []) equal, Memᴰ.cast (sym equal) (over b (subst (Memᴰ b) (sym same) (Memᴰ.head refl))))

  -- it is a letter
  pub last_letter : (best : Best) → Memᴰ a letters
      → keep_all (tried cuts p n) (key_of p n) best (completions letters q 1) ≡ keep_all (tried cuts p n) (key_of p n) best (completions letters (q ++ a ∷ []) 0)
  last_letter best letter =
      only_one (tried cuts p n) (key_of p n) best (completions letters q 1) (q ++ a ∷ []) (λ r i t. (last_of r i t).0)
      ((mem_completions letters q 1 (q ++ a ∷ [])).1 (a ∷ [], (mem_words letters 1 (a ∷ [])).1 (refl, λ b m. Memᴰ.cast (Memᴰ.eq_of_singleton m) letter), refl))
      ∙ sym (extend_none (tried cuts p n) (key_of p n) letters (q ++ a ∷ []) best)

  -- it is none
  pub last_none : (best : Best) → member a letters ≡ false → keep_all (tried cuts p n) (key_of p n) best (completions letters q 1) ≡ best
  last_none best e =
      skip_none (tried cuts p n) (key_of p n) best (completions letters q 1) λ r i.
      not_passed (tried cuts p n r) (λ t. true≢false (sym ((member_mem a letters).1 (last_of r i t).1) ∙ e))
