-- Walks over the rows of different candidates (document 02, Seven). `rows_tried_holds`, `finished_exactly`: how many rows are tried, and when all are.
-- `walk_best`, `walk_none`: the best row is the first, by request Four, of the rows tried with both properties. `larger_budget`: a larger budget never
-- worsens it. `walk_on`: a walk that goes on is the walk of the summed budget. `finished_lightest`: a finished walk's row is that of the search.
-- `canonical_walked`: it is enough to keep canonical rows.
-- Assumes nothing.
use mathlib.Core.Path.{◌≡◌, refl, sym, ap, ◌∙◌}
use mathlib.Core.Logic.{◌≢◌, ◌↔◌, ◌⊎◌, inl, inr, ⊎_elim}
use mathlib.Core.Bool.{Bool, true, false, ◌&&◌, true≢false}
use mathlib.Core.List.{List, [], ◌∷◌, Memᴰ}
use Prim.Native.Nat.{ℕ, suc, ◌+◌, ◌^◌, ◌≤◌, ◌<◌, min}
use native.Mathlib.Nat.{le_refl, min-eq_left, min-eq_right}
use native.Mathlib.Omega.{arith}
use lib.Dec.{leb}
use lib.ListN.{length, get_or, take}
use lib.Seq.{take_all, take-suc}
use borrow.Author.Tests.{leb-true, le-leb}
use Rattle.algebra.specs.Matrix.{words}
use Rattle.algebra.proofs.Sums.{le_or_lt}
use Rattle.field.specs.Polynomial.{Modulus, degree}
use Rattle.rows.specs.declared.Family.TheVariants.{Hadamard}
use Rattle.rows.specs.Lightest.{Earlier, Best, nothing, found, keep, keep_all, lightest, ascending, rows_over}
use Rattle.rows.specs.Candidates.{some_repeated}
use Rattle.rows.specs.Shape.{is_good, hadamard_shape}
use Rattle.rows.specs.Keys.{key_of, lightest_row}
use Rattle.rows.specs.Walks.{differing, arrangements, Walked, walk_over, walk_of}
use Rattle.rows.specs.Demands.{Before, FirstOf, TriedBoth}
use Rattle.rows.specs.Steps.IndexMaps.{moved, canonical}
use Rattle.rows.specs.Steps.Orders.{SearchOrder}
use Rattle.rows.proofs.Rows.{Sorted, earlier_irrefl, mem_rows, mem_words, mem_ascending, sorted_rows, not_passed}
use Rattle.rows.proofs.Lightest.{IsLightest, none_sorted, first_sorted, row_sorted, unique_sorted, same_lightest}
use Rattle.rows.proofs.Walk.{keep_all_append}
use Rattle.rows.proofs.Demands.{suited_of, of_suited, suited_asks, before_exactly, every_place}
use Rattle.rows.proofs.IndexMaps.{moved_length, moved_word, moved_different, MovedAmong}
use Rattle.rows.proofs.HadamardRows.{good_different, word_in_field, canonical_among}
use Rattle.rows.proofs.Arrangements.{mem_differing, mem_arrangements, repeated_exactly, sorted_differing, sorted_arrangements, take_mem, take_wider, sorted_take, take_down}

-- ---- any rows

-- a walk tries as many rows as its budget says, or all
pub rows_tried_holds : (p n : ℕ) (cs : List ℕ) (b : ℕ) → (walk_of p n cs b).rows_tried ≡ min b (length (arrangements p n cs))
unfolding walk_of walk_over
rows_tried_holds p n cs b = refl

-- walks that agree in all they tell
same_walked : {tried tried' : ℕ} {over over' : Bool} {kept kept' : Best} → tried ≡ tried' → over ≡ over' → kept ≡ kept'
    → ◌≡◌ {A = Walked} (record { rows_tried = tried; finished = over; best = kept }) (record { rows_tried = tried'; finished = over'; best = kept' })
same_walked e f g = rw (e, f, g)

module _ (good : List ℕ → Bool) (key : List ℕ → ℕ) (rows : List (List ℕ)) where
  -- one row more is tried: it is kept or not
  pub tried_keeps : (t : ℕ) → t < length rows → lightest good key (take (suc t) rows) ≡ keep good key (lightest good key (take t rows)) (get_or rows t [])
  unfolding lightest keep_all
  tried_keeps t l = rw (take-suc rows t [] l) (keep_all_append good key nothing (take t rows) (get_or rows t [] ∷ []))

  -- a walk that is finished
  finished_of : (b : ℕ) → (leb (length rows) b ≡ true) ↔ (min b (length rows) ≡ length rows)
  finished_of b = (λ e. min-eq_right (leb-true (length rows) b e), λ e. le-leb (length rows) b (omega arith))

  -- has tried all rows, whatever the budget
  whole_of : (b : ℕ) → length rows ≤ b → walk_over good key rows b ≡ walk_over good key rows (length rows)
  unfolding walk_over
  whole_of b l =
      same_walked (min-eq_right l ∙ sym (min-eq_right (le_refl (length rows)))) (le-leb (length rows) b l ∙ sym (le-leb (length rows) (length rows) (le_refl (length rows))))
      (ap (lightest good key) (take_all b rows l ∙ sym (take_all (length rows) rows (le_refl (length rows)))))

  -- to go on from the rows tried is to have the summed budget
  on_of : (b c : ℕ) → walk_over good key rows (b + c) ≡ walk_over good key rows (min b (length rows) + c)
  on_of b c =
      ⊎_elim (λ (l : b ≤ length rows). ap (λ (t : ℕ). walk_over good key rows (t + c)) (sym (min-eq_left l)))
      (λ (l : length rows < b). whole_of (b + c) (omega arith) ∙ sym (whole_of (min b (length rows) + c) (omega arith)))
      (le_or_lt b (length rows))

-- a row that comes behind another is not that row
first_apart : (key : List ℕ → ℕ) (r s : List ℕ) → (key r < key s) ⊎ ((key r ≡ key s) × Earlier r s) → s ≢ r
first_apart key r s h e = ⊎_elim (λ (l : key r < key s). omega (arith, ap key e)) (λ q. earlier_irrefl (rw e at q.1)) h

module _ (good : List ℕ → Bool) (key : List ℕ → ℕ) {rows : List (List ℕ)} (sorted : Sorted Earlier rows) where
  -- where more rows are tried, the row kept stays, or one that comes before it by the key takes its place
  more_rows : (b c : ℕ) → b ≤ c → (r : List ℕ) → lightest good key (take b rows) ≡ found r
      → (r' : List ℕ) × (lightest good key (take c rows) ≡ found r') × ((r ≡ r') ⊎ ((key r' < key r) ⊎ ((key r' ≡ key r) × Earlier r' r)))
  more_rows b c l r e =
      let d = row_sorted good key (sorted_take b sorted) r e in
      go (take_wider l rows r d.is_row) d.is_good (lightest good key (take c rows)) refl
    where
      go : Memᴰ r (take c rows) → good r ≡ true → (best : Best) → lightest good key (take c rows) ≡ best
          → (r' : List ℕ) × (lightest good key (take c rows) ≡ found r') × ((r ≡ r') ⊎ ((key r' < key r) ⊎ ((key r' ≡ key r) × Earlier r' r)))
      go m g nothing q = absurd (true≢false (sym g ∙ (none_sorted good key (sorted_take c sorted)).0 q r m))
      go m g (found r') q = (r', q, first_sorted good key (sorted_take c sorted) r' q r m g)

  -- where good rows have no repeated entry, the lightest row is the lightest of those without
  differing_suffices : ((r : List ℕ) → Memᴰ r rows → good r ≡ true → some_repeated r ≡ false) → lightest good key (differing rows) ≡ lightest good key rows
  differing_suffices different =
      same_lightest good good key (sorted_differing sorted) sorted
      (λ r d.
      record {
        is_row = ((mem_differing rows r).0 d.is_row).0;
        is_good = d.is_good;
        is_first = λ s m g. d.is_first s ((mem_differing rows s).1 (m, different s m g)) g;
      })
      (λ none r m. not_passed (good r) (λ g. true≢false (sym g ∙ none r ((mem_differing rows r).1 (m, different r m g)))))

-- ---- the walk of a brief

module _ (p n : ℕ) (cs : List ℕ) where
  abbrev rows : List (List ℕ)
  rows = arrangements p n cs

  abbrev good : List ℕ → Bool
  good = is_good hadamard_shape p n

  -- it is finished exactly if every row has been tried
  pub finished_exactly : (b : ℕ) → ((walk_of p n cs b).finished ≡ true) ↔ ((walk_of p n cs b).rows_tried ≡ length (arrangements p n cs))
  unfolding walk_of walk_over
  finished_exactly b = finished_of good (key_of p n) rows b

  -- a finished walk is the walk whose budget is the number of the rows
  pub walk_whole : (b : ℕ) → (walk_of p n cs b).finished ≡ true → walk_of p n cs b ≡ walk_of p n cs (length (arrangements p n cs))
  unfolding walk_of walk_over
  walk_whole b e = whole_of good (key_of p n) rows b (leb-true (length rows) b e)

  -- the budget b and then c more is the budget b + c; the walk is fixed by its brief and the rows tried
  pub walk_on : (b c : ℕ) → walk_of p n cs (b + c) ≡ walk_of p n cs ((walk_of p n cs b).rows_tried + c)
  unfolding walk_of walk_over
  walk_on b c = on_of good (key_of p n) rows b c

  -- the best row is the lightest of those tried
  pub best_of_tried : (b : ℕ) (r : List ℕ)
      → ((walk_of p n cs b).best ≡ found r) ↔ IsLightest (is_good hadamard_shape p n) (key_of p n) (take b (arrangements p n cs)) r
  unfolding walk_of walk_over
  best_of_tried b r =
      let sorted = sorted_take b (sorted_arrangements p n cs) in
      (row_sorted good (key_of p n) sorted r, unique_sorted good (key_of p n) sorted r)

  -- there is none exactly if none of those tried is good
  pub none_of_tried : (b : ℕ)
      → ((walk_of p n cs b).best ≡ nothing) ↔ ((r : List ℕ) → Memᴰ r (take b (arrangements p n cs)) → is_good hadamard_shape p n r ≡ false)
  unfolding walk_of walk_over
  none_of_tried b = none_sorted good (key_of p n) (sorted_take b (sorted_arrangements p n cs))

  -- a row tried is a row over the candidates
  tried_row : (b : ℕ) (r : List ℕ) → Memᴰ r (take b rows) → Memᴰ r (rows_over (2 ^ degree p) cs n)
  tried_row b r m = ((mem_arrangements p n cs r).0 (take_mem b rows r m)).0

  -- a word over those of them that are in the field
  pub tried_word : (b : ℕ) (r : List ℕ) → Memᴰ r (take b (arrangements p n cs)) → Memᴰ r (words (ascending (2 ^ degree p) cs) n)
  unfolding rows_over
  tried_word b r m = tried_row b r m

  -- and a row over these
  letters_row : (b : ℕ) (r : List ℕ) → Memᴰ r (take b rows) → Memᴰ r (rows_over (2 ^ degree p) (ascending (2 ^ degree p) cs) n)
  letters_row b r m =
      let (l, over) = (mem_rows (2 ^ degree p) cs n r).0 (tried_row b r m) in
      (mem_rows (2 ^ degree p) (ascending (2 ^ degree p) cs) n r).1 (l, λ a i. ((mem_ascending (2 ^ degree p) cs a).1 (over a i), (over a i).1))

  -- of two good rows that are tried, the first by the keys is before the other
  tried_before : (b : ℕ) (r s : List ℕ) → Memᴰ r (take b rows) → good r ≡ true → Memᴰ s (take b rows) → good s ≡ true → s ≢ r
      → ((key_of p n r < key_of p n s) ⊎ ((key_of p n r ≡ key_of p n s) × Earlier r s)) ↔ Before p n r s
  tried_before b r s m g i t =
      before_exactly hadamard_shape p n (ascending (2 ^ degree p) cs) (λ a j. ((mem_ascending (2 ^ degree p) cs a).0 j).1) (every_place Hadamard n)
      r s (letters_row b r m) g (letters_row b s i) t

  module _ (fits : (a : ℕ) → Memᴰ a cs → a < 2 ^ degree p) (b : ℕ) where
    -- a good row that is tried has both properties
    good_both : (r : List ℕ) → Memᴰ r (take b rows) → good r ≡ true → TriedBoth p n cs b r
    good_both r m g = record { is_tried = m; both = (suited_asks Hadamard p n cs r).0 (suited_of hadamard_shape p n cs fits r (tried_row b r m) g) }

    -- and only such rows have
    both_good : (r : List ℕ) → TriedBoth p n cs b r → good r ≡ true
    both_good r t = (of_suited hadamard_shape p n cs fits r ((suited_asks Hadamard p n cs r).1 t.both)).1

    -- the best row is the first of the rows tried with both properties
    pub walk_best : (r : List ℕ) → ((walk_of p n cs b).best ≡ found r) ↔ FirstOf (TriedBoth p n cs b) p n r
    walk_best r = (
      λ e.
          let d = (best_of_tried b r).0 e in
          record {
            has = good_both r d.is_row d.is_good;
            first = λ s t q. (tried_before b r s d.is_row d.is_good t.is_tried (both_good s t) q).0 (d.is_first s t.is_tried (both_good s t) q);
          },
      λ f.
          let g = both_good r f.has in
          (best_of_tried b r).1
          (record {
            is_row = f.has.is_tried;
            is_good = g;
            is_first = λ s i t q. (tried_before b r s f.has.is_tried g i t q).1 (f.first s (good_both s i t) q);
          }),
    )

    -- there is none exactly if none of the rows tried has both
    pub walk_none : ((walk_of p n cs b).best ≡ nothing) ↔ ((r : List ℕ) → TriedBoth p n cs b r → ⊥)
    walk_none = (
      λ e r t. true≢false (sym (both_good r t) ∙ (none_of_tried b).0 e r t.is_tried),
      λ h. (none_of_tried b).1 (λ r m. not_passed (good r) (λ g. h r (good_both r m g))),
    )

  -- a larger budget never worsens the best row
  pub larger_budget : (b c : ℕ) → b ≤ c → (r : List ℕ) → (walk_of p n cs b).best ≡ found r
      → (r' : List ℕ) × ((walk_of p n cs c).best ≡ found r') × ((r' ≡ r) ⊎ Before p n r' r)
  unfolding walk_of walk_over
  larger_budget b c l r e =
      let sorted = sorted_arrangements p n cs in
      let (r', q, f) = more_rows good (key_of p n) sorted b c l r e in
      let d = row_sorted good (key_of p n) (sorted_take b sorted) r e in
      let d' = row_sorted good (key_of p n) (sorted_take c sorted) r' q in
      (r', q, ⊎_elim (λ e. inl (sym e)) (λ k. inr ((tried_before c r' r d'.is_row d'.is_good (take_wider l rows r d.is_row) d.is_good (first_apart (key_of p n) r' r k)).0 k)) f)

  module _ (h : Modulus p) (o : SearchOrder n) where
    -- the entries of a good row differ
    good_unrepeated : (r : List ℕ) → Memᴰ r (rows_over (2 ^ degree p) cs n) → good r ≡ true → some_repeated r ≡ false
    unfolding rows_over
    good_unrepeated r m g =
        let (l, _) = (mem_words (ascending (2 ^ degree p) cs) n r).0 m in
        (repeated_exactly r).1 (λ i j a b. good_different p n h o r (word_in_field p n cs r m) g i j (rw l at a) (rw l at b))

    -- a finished walk's row is that of the search
    pub finished_lightest : (b : ℕ) → (walk_of p n cs b).finished ≡ true → (walk_of p n cs b).best ≡ lightest_row hadamard_shape p n cs
    unfolding walk_of walk_over arrangements lightest_row
    finished_lightest b e =
        ap (lightest good (key_of p n)) (take_all b rows (leb-true (length rows) b e))
        ∙ differing_suffices good (key_of p n) (sorted_rows (2 ^ degree p) cs n) good_unrepeated

    -- of the first rows, a moved one that is earlier is one of them
    moved_tried : (t : ℕ) → MovedAmong n (take t rows)
    unfolding rows_over
    moved_tried t m j r i earlier =
        let (w, e) = (mem_arrangements p n cs r).0 (take_mem t rows r i) in
        let (l, _) = (mem_words (ascending (2 ^ degree p) cs) n r).0 w in
        let size = moved_length n m r in
        let different = moved_different n m j r (λ i k a b. (repeated_exactly r).0 e i k (omega arith) (omega arith)) in
        take_down (sorted_arrangements p n cs) t (moved n m r) r
        ((mem_arrangements p n cs (moved n m r)).1 (
          moved_word n m j (ascending (2 ^ degree p) cs) r w,
          (repeated_exactly (moved n m r)).1 (λ i k a b. different i k (omega arith) (omega arith)),
        ))
        i earlier

    -- of the rows tried it is enough to keep canonical ones
    pub canonical_walked : (t : ℕ)
        → lightest (is_good hadamard_shape p n) (key_of p n) (take t (arrangements p n cs))
        ≡ lightest (λ r. canonical n r && is_good hadamard_shape p n r) (key_of p n) (take t (arrangements p n cs))
    canonical_walked t = canonical_among p n h o cs (sorted_take t (sorted_arrangements p n cs)) (moved_tried t) (tried_word t)
