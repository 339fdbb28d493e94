-- The steps of the walk, for any shape with its cuts: the row kept, and what holds at the next prefix.
-- Assumes nothing.
use mathlib.Core.Path.{◌≡◌, refl, sym, ap, ap₂, subst, subst⁻¹, ◌∙◌}
use mathlib.Core.Logic.{inl, inr, ⊎_elim}
use mathlib.Core.Bool.{Bool, true, false, cond, ◌&&◌, and-true, or-false, true≢false}
use mathlib.Core.List.Memᴰ
use mathlib.Core.List.{List, [], ◌∷◌, ◌++◌, Memᴰ}
use Prim.Native.Nat.{ℕ, suc, ◌+◌, ◌-◌, ◌*◌, ◌≤◌, ◌<◌}
use native.Mathlib.Nat.{le_refl, le_trans, eq-or-lt_of_le, mul-le-mul, lt_of_lt_of_le}
use native.Mathlib.Decide.{dec_lt, ℕ_discrete}
use native.Mathlib.Numerals.{add-one}
use native.Mathlib.Omega.{arith}
use lib.Dec.{leb, ltb, lit≤}
use lib.ListN.{length, get_or, take, set, replicate, length-append, length-set, take-append-drop}
use lib.Seq.{take_at, take-length, take-take, take-suc-set, take-set-le, length-take-le, get_or-take, get_or-set_same, get_or-set_other, drop-set-lt}
use lib.Pow.{pow_mono}
use borrow.Author.Tests.{leb-true, leb-false, ltb-true, ltb-false, lt-ltb, le-ltb, eq-eqb, ne_eqb}
use Rattle.std.specs.Prelude.{Option, Some, None}
use Rattle.field.specs.Polynomial.{xor_count}
use Rattle.field.proofs.Degrees.{polynomial}
use Rattle.lines.specs.Numbers.{WordsInField}
use Rattle.lines.specs.Counts.{element_count}
use Rattle.lines.specs.Depths.{line_depth}
use Rattle.lines.specs.declared.figure.Figure.{Figure}
use Rattle.lines.specs.Steps.Figures.{CountsOf, line_figure, depth_of_ones, least_depth}
use Rattle.lines.proofs.Tallies.{xor_count_le, element_count_le, element_count_cong, element_count_step}
use Rattle.lines.proofs.Depths.{line_depth_cong}
use Rattle.lines.proofs.Figures.{figure_depth}
use Rattle.lines.proofs.LineOnes.{least_depth_whole, least_depth_cong}
use Rattle.matrix.proofs.Squares.{each_every}
use Rattle.rows.specs.Lightest.{Best, nothing, found, lighter, keep, keep_all, member}
use Rattle.rows.specs.Shape.{is_good}
use Rattle.rows.specs.Keys.{sum_of, depth_of_row, key_of}
use Rattle.cuts.specs.Steps.Cuts.{Cuts, may_stand, passes, AllStand, tried, Whole}
use Rattle.rows.specs.Steps.Walk.{completions, branches}
use Rattle.rows.proofs.Rows.{member_mem, mem_words, get_d_mem}
use Rattle.rows.proofs.Lightest.{keep_cases}
use Rattle.rows.proofs.Keys.{Less, LessOrSame, key_lt}
use Rattle.rows.proofs.Walk.{mem_completions, extend_none, extend_suc, branches_suc, branches_zero}
use Rattle.cuts.proofs.Pruning.{stands_front, skip_stand, skip_bound, OnlyLast, last_letter, last_none}
use Rattle.lightest.specs.declared.Best.{Best as Kept}
use Rattle.lightest.specs.Steps.Prefix.{kept, best_as, Long, is_heavier, is_heavy, Brief, Reached, NextLetter}
use Rattle.lightest.specs.Steps.Search.{cuts_in, At}
use Rattle.lightest.specs.declared.prefix.Search.{Search}
use Rattle.lightest.specs.declared.prefix.Prefix.{Prefix}
use Rattle.lightest.proofs.LetterCounts.{table_count, least_le, least_most}

-- ---- the row kept

module _ (good : List ℕ → Bool) (key : List ℕ → ℕ) (n : ℕ) where
  keep_long : (best : Best) (r : List ℕ) → Long n best → length r ≡ n → Long n (keep good key best r)
  keep_long best r h l s e =
      ⊎_elim (λ q. let same : r ≡ s = cc q.0 in ap length (sym same) ∙ l) (λ q. h s (sym q.0 ∙ e)) (keep_cases good key best r)

  keep_all_long : (best : Best) (rows : List (List ℕ)) → Long n best → ((r : List ℕ) → Memᴰ r rows → length r ≡ n) → Long n (keep_all good key best rows)
  unfolding keep_all
  keep_all_long best [] h l = h
  keep_all_long best (r ∷ rows) h l =
      keep_all_long (keep good key best r) rows (keep_long best r h (l r (Memᴰ.head refl))) (λ s m. l s (Memᴰ.tail m))

  branches_long : (letters q : List ℕ) (k : ℕ) → length q + 1 + k ≡ n → (best : Best) (firsts : List ℕ) → Long n best
      → Long n (branches good key letters q k best firsts)
  unfolding branches
  branches_long letters q k whole best [] h = h
  branches_long letters q k whole best (a ∷ firsts) h =
      branches_long letters q k whole (keep_all good key best (completions letters (q ++ a ∷ []) k)) firsts
      (keep_all_long best (completions letters (q ++ a ∷ []) k) h λ r i.
      let (w, m, e) = (mem_completions letters (q ++ a ∷ []) k r).0 i in
      omega (arith, ap length e, length-append (q ++ a ∷ []) w, length-append q (a ∷ []), ((mem_words letters k w).0 m).0))

-- what is kept of a best row tells it
pub best_kept : (p n : ℕ) (best : Best) → Long n best → best_as n (kept p n best) ≡ best
unfolding best_as kept
best_kept p n nothing h = refl
best_kept p n (found r) h = ap found (take_at r (replicate (8 - n) 0) n (h r refl))

module _ (p n : ℕ) (b : Option Kept) (best : Best) (long : Long n best) (e : b ≡ kept p n best) where
  pub best_is : best_as n b ≡ best
  best_is = ap (best_as n) e ∙ best_kept p n best long

  pub kept_own : b ≡ kept p n (best_as n b)
  kept_own = e ∙ ap (kept p n) (sym best_is)

-- the count of the first entries of an array
pub count_take : (p n : ℕ) (row : List ℕ) → element_count p n (λ j. get_or (take n row) j 0) ≡ element_count p n (λ j. get_or row j 0)
count_take p n row = element_count_cong p n _ _ (λ i l. get_or-take n row i 0 l)

-- the depth of the first entries of an array
depth_take : (p n : ℕ) (row : List ℕ) → line_depth p n (λ j. get_or (take n row) j 0) ≡ line_depth p n (λ j. get_or row j 0)
depth_take p n row = line_depth_cong p n _ _ (λ i l. get_or-take n row i 0 l)

-- a row that is taken, with its depth and its sum
abbrev row_kept : List ℕ → ℕ → ℕ → Option Kept
row_kept row count depth = Some (record { row = row; depth = depth; count = count })

pub kept_row : {cuts : Cuts} {p n : ℕ} {row : List ℕ} → Whole cuts p n row → (figure : Figure) → figure ≡ line_figure p n (λ j. get_or row j 0)
    → (depth : ℕ) → depth ≡ depth_of_ones figure.ones → row_kept row figure.count depth ≡ kept p n (found (take n row))
unfolding kept sum_of depth_of_row line_figure
kept_row {p = p} {n = n} {row = row} w figure is depth e =
    ap₂ (λ r c. row_kept r c depth) (sym (take-append-drop n row) ∙ ap (λ r. take n row ++ r) w.rest)
    (ap (λ (x : Figure). x.count) is ∙ sym (count_take p n row))
    ∙ ap (row_kept (take n row ++ replicate (8 - n) 0) (sum_of p n (take n row)))
    (e ∙ ap (λ (x : Figure). depth_of_ones x.ones) is ∙ figure_depth p n (λ j. get_or row j 0) w.modulus ∙ sym (depth_take p n row))

-- ---- the test against the row kept

module _ (b : Option Kept) (count depth : ℕ) where
  -- the test, where no row is kept, where the counts differ and where they do not
  pub heavy_none : b ≡ None → is_heavy b count depth ≡ false
  unfolding is_heavy
  heavy_none is = rw is refl

  module _ (k : Kept) (is : b ≡ Some k) where
    pub heavy_counts : (k.count ≡ count → ⊥) → is_heavy b count depth ≡ ltb k.count count
    unfolding is_heavy
    heavy_counts d = rw (is, ne_eqb k.count count d) (or-false (ltb k.count count))

    pub heavy_depths : k.count ≡ count → is_heavy b count depth ≡ leb k.depth depth
    unfolding is_heavy
    heavy_depths q = rw (is, eq-eqb k.count count q, le-ltb k.count count (omega arith)) refl

-- heavier is heavy
heavier_heavy : (b : Option Kept) (count depth : ℕ) → is_heavier b count ≡ true → is_heavy b count depth ≡ true
unfolding is_heavier is_heavy
heavier_heavy None count depth e = e
heavier_heavy (Some k) count depth e = rw e refl

-- the sum and the depth of the row kept
module _ (p n : ℕ) (k : Kept) (holds : ◌≡◌ {A = Option Kept} (Some k) (kept p n (best_as n (Some k)))) where
  found_sum : sum_of p n (take n k.row) ≡ k.count
  unfolding kept best_as
  found_sum = cc

  found_depth : depth_of_row p n (take n k.row) ≡ k.depth
  unfolding kept best_as
  found_depth = cc

-- too heavy: a row is kept, and it is lighter, or as heavy and not deeper
heavy_true : (p n : ℕ) (b : Option Kept) → b ≡ kept p n (best_as n b) → (count depth : ℕ) → is_heavy b count depth ≡ true
    → (r : List ℕ) × (best_as n b ≡ found r) × LessOrSame (sum_of p n r) (depth_of_row p n r) count depth
unfolding is_heavy best_as
heavy_true p n None holds count depth e = absurd (true≢false (sym e))
heavy_true p n (Some k) holds count depth e = (
  take n k.row,
  refl,
  rw (found_sum p n k holds, found_depth p n k holds) (elim (ℕ_discrete k.count count) [
    | yes s ↦ inr (s, leb-true k.depth depth (sym (heavy_depths (Some k) count depth k refl s) ∙ e))
    | no d ↦ inl (ltb-true k.count count (sym (heavy_counts (Some k) count depth k refl d) ∙ e))
  ]),
)

-- not too heavy: a row with this sum that is not deeper is lighter, or as heavy and shallower
heavy_false : (p n : ℕ) (b : Option Kept) → b ≡ kept p n (best_as n b) → (r : List ℕ) (depth : ℕ) → depth_of_row p n r ≤ depth
    → is_heavy b (sum_of p n r) depth ≡ false → lighter (key_of p n) (best_as n b) r ≡ true
unfolding lighter best_as
heavy_false p n None holds r depth l e = refl
heavy_false p n (Some k) holds r depth l e =
    lt-ltb (key_of p n r) (key_of p n (take n k.row)) (key_lt p n r (take n k.row) (rw (found_sum p n k holds, found_depth p n k holds) less))
  where
    less : Less (sum_of p n r) (depth_of_row p n r) k.count k.depth
    less = elim (ℕ_discrete k.count (sum_of p n r)) [
      | yes s ↦ inr (sym s, omega (arith, l, leb-false k.depth depth (sym (heavy_depths (Some k) (sum_of p n r) depth k refl s) ∙ e)))
      | no d ↦
          let least = ltb-false k.count (sum_of p n r) (sym (heavy_counts (Some k) (sum_of p n r) depth k refl d) ∙ e) in
          inl (⊎_elim (λ q. absurd (d (sym q))) (λ l. l) (eq-or-lt_of_le least))
    ]

-- ---- the prefix

-- the walk is at a prefix that is no whole row, with a row kept
pub record AtPrefix (cuts : Cuts) (p n : ℕ) (letters counts : List ℕ) (least level : ℕ) (row : List ℕ) (count : ℕ) (best : Option Kept) : Type 0 where
  pub brief : Brief cuts p n letters counts least
  pub reached : Reached cuts p n letters level row count
  pub inside : level < n
  pub holds : best ≡ kept p n (best_as n best)
  pub long : Long n (best_as n best)

-- so is a search at a prefix
pub whole_at : {s : Search} {at : Prefix} {best : Option Kept} → At s at best
    → AtPrefix (cuts_in s) s.table.polynomial s.order s.letters.now s.counts.now s.least at.level at.row at.count best
whole_at {s = s} h = record { brief = s.brief; reached = h.reached; inside = h.inside; holds = h.holds; long = h.long }

pub at_whole : {s : Search} {at : Prefix} {best : Option Kept}
    → AtPrefix (cuts_in s) s.table.polynomial s.order s.letters.now s.counts.now s.least at.level at.row at.count best → At s at best
at_whole h = record { reached = h.reached; inside = h.inside; holds = h.holds; long = h.long }

-- ---- a letter behind the prefix

-- a row that passes and is lighter than the row kept is kept where it is good
keep_tried : (cuts : Cuts) (p n : ℕ) (best : Best) (r : List ℕ) → passes cuts n r ≡ true → lighter (key_of p n) best r ≡ true
    → keep (tried cuts p n) (key_of p n) best r ≡ cond (is_good cuts.shape p n r) (found r) best
unfolding keep tried
keep_tried cuts p n best r c l = rw (c, l, and-true)

-- a letter more
over_snoc : (letters q : List ℕ) (a : ℕ) → ((b : ℕ) → Memᴰ b q → Memᴰ b letters) → Memᴰ a letters
    → (b : ℕ) → Memᴰ b (q ++ a ∷ []) → Memᴰ b letters
over_snoc letters q a over letter b m =
    ⊎_elim (over b) (λ k. Memᴰ.cast (Memᴰ.eq_of_singleton k) letter) (Memᴰ.append_cases q m)

module _ {cuts : Cuts} {p n : ℕ} {letters counts : List ℕ} {least level : ℕ} {row : List ℕ} {count : ℕ} {b : Option Kept}
    (at : AtPrefix cuts p n letters counts least level row count b) where
  pub level_inside : level < 8
  level_inside = omega (arith, at.brief.most, at.inside)

  pub level_fits : level < length row
  level_fits = omega (arith, level_inside, at.reached.eight)

  -- the prefix has as many entries
  prefix_long : length (take level row) ≡ level
  prefix_long = length-take-le level row (omega (arith, level_fits))

  -- a sum of at most eight counts is small
  pub count_small : count ≤ 448
  count_small = omega (arith, level_inside, element_count_le p level (λ j. get_or row j 0) at.brief.modulus, at.reached.counted)

  -- a letter is a byte, the table has its count, and no letter counts less than the least
  pub letter_byte : (c : ℕ) → Memᴰ c letters → c < 256
  letter_byte c m = lt_of_lt_of_le (at.brief.below c m) (pow_mono {j = 8} (polynomial p at.brief.modulus).most)

  pub letter_count : (c : ℕ) → Memᴰ c letters → get_or counts c 0 ≡ xor_count p c
  letter_count c m = ap (λ t. get_or t c 0) at.brief.table ∙ table_count p letters c (letter_byte c m) ((member_mem c letters).1 m)

  letter_least : (c : ℕ) → Memᴰ c letters → least ≤ xor_count p c
  letter_least c m = omega (arith, least_le counts letters c m, letter_count c m, at.brief.lowest)

  -- the least count fits a byte, and so do the sums that are compared fit a word
  pub bound_small : least * (n - (level + 1)) ≤ 2040
  bound_small =
      le_trans (mul-le-mul {n₂ = 255} {m₂ = 8} (omega (arith, least_most counts letters, at.brief.lowest)) (omega (arith, at.brief.most))) (lit≤ tt)

  module _ {a : ℕ} (nx : NextLetter cuts n letters level row a) where
    pub letter_small : get_or counts a 0 ≤ 56
    letter_small = omega (arith, letter_count a nx.letter, xor_count_le p a at.brief.modulus)

    places_left : length (take level row) + 1 + (n - (level + 1)) ≡ n
    places_left = omega (arith, prefix_long, at.inside)

    -- the row kept after all rows behind the letter
    abbrev kept_after : Best
    kept_after = keep_all (tried cuts p n) (key_of p n) (best_as n b) (completions letters (take level row ++ a ∷ []) (n - (level + 1)))

    stays : kept_after ≡ best_as n b → b ≡ kept p n kept_after
    stays e = at.holds ∙ ap (kept p n) (sym e)

    -- the letter may not stand there
    pub branch_left : may_stand cuts (take level row) a ≡ false → b ≡ kept p n kept_after
    branch_left e =
        stays (skip_stand cuts p n letters (take level row) a (n - (level + 1)) at.reached.over nx.letter places_left (best_as n b) e)

    -- the longer prefix
    abbrev longer : List ℕ
    longer = set row level a

    pub prefix_next : take (level + 1) longer ≡ take level row ++ a ∷ []
    prefix_next = rw add-one (take-suc-set row level a level_fits)

    entry_here : get_or longer level 0 ≡ a
    entry_here = get_or-set_same row level a 0 level_fits

    entry_before : (j : ℕ) → j < level → get_or longer j 0 ≡ get_or row j 0
    entry_before j l = get_or-set_other row level j a 0 (λ (e : j ≡ level). omega arith)

    before_here : take level longer ≡ take level row
    before_here = take-set-le level row level a (le_refl level)

    eight_next : length longer ≡ 8
    eight_next = length-set row level a ∙ at.reached.eight

    over_next : (c : ℕ) → Memᴰ c (take (level + 1) longer) → Memᴰ c letters
    over_next c m = over_snoc letters (take level row) a at.reached.over nx.letter c (subst (Memᴰ c) prefix_next m)

    -- each of its entries is a letter
    letter_next : (j : ℕ) → j < level + 1 → Memᴰ (get_or longer j 0) letters
    letter_next j l =
        let long : length (take (level + 1) longer) ≡ level + 1 = length-take-le (level + 1) longer (omega (arith, eight_next, level_inside)) in
        over_next (get_or longer j 0)
        (subst (λ (x : ℕ). Memᴰ x (take (level + 1) longer)) (get_or-take (level + 1) longer j 0 l) (get_d_mem (take (level + 1) longer) j 0 (omega arith)))

    -- so they are elements, and the table has their counts
    pub in_field_next : WordsInField p (level + 1) longer
    unfolding WordsInField
    in_field_next j l = at.brief.below (get_or longer j 0) (letter_next j l)

    pub in_field_suc : WordsInField p (suc level) longer
    in_field_suc = rw add-one at in_field_next

    pub counts_next : CountsOf p (level + 1) counts longer
    unfolding CountsOf
    counts_next j l = letter_count (get_or longer j 0) (letter_next j l)

    -- their sum
    count_next : count + get_or counts a 0 ≡ element_count p (level + 1) (λ j. get_or longer j 0)
    count_next =
        ap₂ ◌+◌ (at.reached.counted ∙ element_count_cong p level _ (λ j. get_or longer j 0) (λ j l. sym (entry_before j l)))
        (letter_count a nx.letter ∙ ap (xor_count p) (sym entry_here))
        ∙ sym (element_count_step p level (λ j. get_or longer j 0))

    -- the entries of the prefix and the letter
    next_at : (j : ℕ) → j < level + 1 → get_or (take level row ++ a ∷ []) j 0 ≡ get_or longer j 0
    next_at j l = ap (λ (x : List ℕ). get_or x j 0) (sym prefix_next) ∙ get_or-take (level + 1) longer j 0 l

    -- the rows behind them are too heavy
    -- what they count at least
    abbrev bound : ℕ
    bound = count + get_or counts a 0 + least * (n - (level + 1))

    -- and how deep those are at least that count no more
    abbrev deep : ℕ
    deep = least_depth p n (λ j. get_or longer j 0) (level + 1) bound

    -- the test at a number that is the bound
    pub at_bound : (m : ℕ) → m ≡ bound → {v : Bool} → is_heavy b m (least_depth p n (λ j. get_or longer j 0) (level + 1) m) ≡ v → is_heavy b bound deep ≡ v
    at_bound m q e = ap (λ (x : ℕ). is_heavy b x (least_depth p n (λ j. get_or longer j 0) (level + 1) x)) (sym q) ∙ e

    pub branch_heavy : is_heavy b bound deep ≡ true → b ≡ kept p n kept_after
    branch_heavy e =
        let (r, is, le) = heavy_true p n b at.holds bound deep e in
        stays (skip_bound cuts p n letters (take level row) a (n - (level + 1)) at.reached.over nx.letter places_left
        at.brief.modulus at.brief.below at.brief.positive (best_as n b) r least letter_least is bound
        (rw (prefix_long, element_count_cong p (level + 1) _ _ next_at, ← count_next) refl)
        (rw (prefix_long, least_depth_cong p n (level + 1) bound _ _ next_at) le))

    pub branch_heavier : is_heavier b bound ≡ true → b ≡ kept p n kept_after
    branch_heavier e = branch_heavy (heavier_heavy b bound deep e)

    module _ (may : may_stand cuts (take level row) a ≡ true) where
      stands_next : AllStand cuts (level + 1) longer
      stands_next d l = elim (dec_lt d level) [
        | yes h ↦ ap₂ (may_stand cuts) (take-set-le d row level a (omega arith)) (entry_before d h) ∙ at.reached.stands d h
        | no h ↦
            let here : d ≡ level = omega arith in
            subst⁻¹ (λ (d : ℕ). may_stand cuts (take d longer) (get_or longer d 0) ≡ true) here
            (ap₂ (may_stand cuts) before_here entry_here ∙ may)
      ]

      reached_next : Reached cuts p n letters (level + 1) longer (count + get_or counts a 0)
      reached_next =
          record {
            eight = eight_next;
            over = over_next;
            stands = stands_next;
            counted = count_next;
            rest = drop-set-lt n row level a at.inside ∙ at.reached.rest;
          }

      -- more places are left
      pub at_next : (level + 1 ≡ n → ⊥) → AtPrefix cuts p n letters counts least (level + 1) longer (count + get_or counts a 0) b
      at_next e =
          record {
            brief = at.brief;
            reached = reached_next;
            inside = ⊎_elim (λ q. absurd (e q)) (λ l. l) (eq-or-lt_of_le (omega (arith, at.inside)));
            holds = at.holds;
            long = at.long;
          }

      module _ (all : level + 1 ≡ n) where
        -- the row is whole
        pub whole_next : Whole cuts p n longer
        unfolding WordsInField
        whole_next =
            record {
              modulus = at.brief.modulus;
              order = at.brief.order;
              in_field = λ j l. in_field_next j (omega arith);
              stands = λ d l. stands_next d (omega arith);
              ends =
                  subst (λ (m : ℕ). cuts.may_end (take m longer) (get_or longer m 0) ≡ true) (omega arith)
                  (ap₂ cuts.may_end before_here entry_here ∙ nx.last all);
              rest = reached_next.rest;
            }

        pub counts_whole : CountsOf p n counts longer
        counts_whole = rw all at counts_next

        -- it passes
        passes_next : passes cuts n (take n longer) ≡ true
        unfolding passes
        passes_next =
            ap₂ ◌&&◌
            (each_every n (λ d. may_stand cuts (take d (take n longer)) (get_or (take n longer) d 0)) (stands_front cuts n longer whole_next.stands))
            (ap₂ cuts.may_end (take-take (n - 1) n longer (omega arith)) (get_or-take n longer (n - 1) 0 (omega arith)) ∙ whole_next.ends)

        -- where it is lighter, or as heavy and shallower, it is kept if it is good
        pub branch_whole : is_heavy b bound deep ≡ false
            → cond (is_good cuts.shape p n (take n longer)) (found (take n longer)) (best_as n b) ≡ kept_after
        branch_whole e =
            let none : n - (level + 1) ≡ 0 = omega arith in
            let same : take n longer ≡ take level row ++ a ∷ [] = ap (λ (m : ℕ). take m longer) (sym all) ∙ prefix_next in
            let counted : count + get_or counts a 0 ≡ sum_of p n (take n longer) =
            unfold sum_of in (count_next ∙ ap (λ (m : ℕ). element_count p m (λ j. get_or longer j 0)) all ∙ sym (count_take p n longer)) in
            let sum : sum_of p n (take n longer) ≡ bound = omega (arith, ap (λ (m : ℕ). least * m) none) in
            let light = ap (λ (s : ℕ). is_heavy b s deep) sum ∙ e in
            sym (keep_tried cuts p n (best_as n b) (take n longer) passes_next (heavy_false p n b at.holds (take n longer) deep depth_whole light))
            ∙ ap (keep (tried cuts p n) (key_of p n) (best_as n b)) same
            ∙ sym (ap (λ (m : ℕ). keep_all (tried cuts p n) (key_of p n) (best_as n b) (completions letters (take level row ++ a ∷ []) m)) none
            ∙ extend_none (tried cuts p n) (key_of p n) letters (take level row ++ a ∷ []) (best_as n b))
          where
            depth_whole : depth_of_row p n (take n longer) ≤ deep
            depth_whole = unfold depth_of_row in (rw (depth_take p n longer, all) (least_depth_whole p n _ (λ j. get_or longer j 0) at.brief.modulus))

-- ---- all letters behind the prefix

module _ {cuts : Cuts} {p n : ℕ} {letters counts : List ℕ} {least level : ℕ} {row : List ℕ} {count : ℕ} {b : Option Kept}
    (at : AtPrefix cuts p n letters counts least level row count b) where
  -- the row kept after all rows behind the prefix
  abbrev kept_all : Best
  kept_all = keep_all (tried cuts p n) (key_of p n) (best_as n b) (completions letters (take level row) (n - level))

  -- the row kept after the first i letters
  abbrev kept_upto : ℕ → Best
  kept_upto i = branches (tried cuts p n) (key_of p n) letters (take level row) (n - (level + 1)) (best_as n b) (take i letters)

  pub upto_none : b ≡ kept p n (kept_upto 0)
  upto_none = at.holds ∙ ap (kept p n) (sym (branches_zero (tried cuts p n) (key_of p n) letters (take level row) (n - (level + 1)) (best_as n b) letters))

  -- a letter of the list, where each may be the last if the row ends with it
  pub upto_letter : ((a : ℕ) → level + 1 ≡ n → cuts.may_end (take level row) a ≡ true) → (i : ℕ) → i < length letters
      → NextLetter cuts n letters level row (get_or letters i 0)
  upto_letter any i l = record { letter = get_d_mem letters i 0 l; last = any (get_or letters i 0) }

  -- the row kept after i letters, in a struct
  module _ (i : ℕ) (b' : Option Kept) (k : b' ≡ kept p n (kept_upto i)) where
    upto_long : Long n (kept_upto i)
    upto_long =
        branches_long (tried cuts p n) (key_of p n) n letters (take level row) (n - (level + 1))
        (omega (arith, length-take-le level row (omega (arith, at.brief.most, at.inside, at.reached.eight)), at.inside)) (best_as n b) (take i letters) at.long

    pub upto_at : AtPrefix cuts p n letters counts least level row count b'
    upto_at =
        record {
          brief = at.brief;
          reached = at.reached;
          inside = at.inside;
          holds = kept_own p n b' (kept_upto i) upto_long k;
          long = subst⁻¹ (Long n) (best_is p n b' (kept_upto i) upto_long k) upto_long;
        }

    -- one letter more
    pub upto_more : i < length letters → (r : Option Kept)
        → r ≡ kept p n (keep_all (tried cuts p n) (key_of p n) (best_as n b') (completions letters (take level row ++ get_or letters i 0 ∷ []) (n - (level + 1))))
        → r ≡ kept p n (kept_upto (i + 1))
    upto_more l r h =
        h
        ∙ ap (λ x. kept p n (keep_all (tried cuts p n) (key_of p n) x (completions letters (take level row ++ get_or letters i 0 ∷ []) (n - (level + 1))))) (best_is p n b' (kept_upto i) upto_long k)
        ∙ ap (kept p n) (sym (branches_suc (tried cuts p n) (key_of p n) letters (take level row) (n - (level + 1)) (best_as n b) letters i 0 l)
        ∙ ap kept_upto (sym (add-one i)))

  -- all letters
  pub upto_all : (i : ℕ) → i ≡ length letters → (r : Option Kept) → r ≡ kept p n (kept_upto i) → r ≡ kept p n kept_all
  upto_all i e r h =
      let more : suc (n - (level + 1)) ≡ n - level = omega (arith, at.inside) in
      h
      ∙ ap (kept p n)
      (ap (branches (tried cuts p n) (key_of p n) letters (take level row) (n - (level + 1)) (best_as n b)) (ap (λ (m : ℕ). take m letters) e ∙ take-length letters)
      ∙ sym (extend_suc (tried cuts p n) (key_of p n) letters (take level row) (n - (level + 1)) (best_as n b))
      ∙ ap (λ (m : ℕ). keep_all (tried cuts p n) (key_of p n) (best_as n b) (completions letters (take level row) m)) more)

  -- ---- the only letter that may be the last

  module _ (all : level + 1 ≡ n) (a : ℕ) (only : OnlyLast cuts (take level row) a) where
    whole : length (take level row) + 1 ≡ n
    whole = omega (arith, length-take-le level row (omega (arith, at.brief.most, at.reached.eight)))

    one_left : kept_all ≡ keep_all (tried cuts p n) (key_of p n) (best_as n b) (completions letters (take level row) 1)
    one_left = ap (λ (m : ℕ). keep_all (tried cuts p n) (key_of p n) (best_as n b) (completions letters (take level row) m)) (omega arith)

    -- it is no letter
    pub last_left : member a letters ≡ false → b ≡ kept p n kept_all
    last_left e = at.holds ∙ ap (kept p n) (sym (one_left ∙ last_none cuts p n letters (take level row) a whole only (best_as n b) e))

    -- it is one
    pub last_taken : member a letters ≡ true → NextLetter cuts n letters level row a
    last_taken e = record { letter = (member_mem a letters).0 e; last = λ q. only.may }

    pub last_row : member a letters ≡ true → (r : Option Kept)
        → r ≡ kept p n (keep_all (tried cuts p n) (key_of p n) (best_as n b) (completions letters (take level row ++ a ∷ []) (n - (level + 1)))) → r ≡ kept p n kept_all
    last_row e r h =
        h
        ∙ ap (kept p n)
        (ap (λ (m : ℕ). keep_all (tried cuts p n) (key_of p n) (best_as n b) (completions letters (take level row ++ a ∷ []) m)) (omega arith)
        ∙ sym (one_left ∙ last_letter cuts p n letters (take level row) a whole only (best_as n b) (last_taken e).letter))
