-- The searches in a form that computes. For a Hadamard matrix of order 4: ascending rows only, a row tested only where its sum is 1 and it is lighter
-- than the row kept, and then by its blocks of size 1 and 2. For a circulant matrix: canonical rows only, a row tested only where it is lighter than
-- the row kept, and then by all its blocks. They answer what the searches answer. A walk at order 4: of the rows tried those that ascend, tested as
-- in the search.
-- Assumes nothing.
use mathlib.Core.Path.{◌≡◌, refl, sym, ap, ◌∙◌}
use mathlib.Core.Logic.{inl, ⊎_elim}
use mathlib.Core.Bool.{Bool, true, false, cond, ◌&&◌, and_assoc, false≢true}
use mathlib.Core.List.Memᴰ
use mathlib.Core.List.{List, [], ◌∷◌, ◌++◌, map, Memᴰ}
use Prim.Native.Nat.{ℕ, zero, suc, ◌^◌, ◌≤◌, ◌<◌, min}
use native.Mathlib.Nat.{min-eq_right}
use native.Mathlib.Omega.{arith}
use lib.Dec.{eqb, ltb, leb, lit≤}
use lib.ListN.{length, get_or, take}
use borrow.Author.Tests.{eqb-true, eq-eqb, ltb-true, lt-ltb, leb-true, le-leb}
use Rattle.algebra.specs.Matrix.{tabulate, up_to, before, words, sum, hadamard, circulant, skip, without, det, places_from, chosen, block}
use Rattle.algebra.proofs.Involution.{and_left, and_right}
use Rattle.algebra.proofs.Symmetry.{same_bool}
use Rattle.field.specs.Polynomial.{◌⊕◌, ◌⊗◌, digits_within, over_digits, degree, reduce, rem, product, ones_in_columns, xor_count, Modulus, first_below}
use lib.Count.{ones, ones_in}
use Rattle.field.specs.Table.{table}
use Rattle.field.proofs.Completeness.{table_sound}
use Rattle.field.specs.Steps.{every_below}
use Rattle.lines.specs.Numbers.{numbers, WordsInField}
use Rattle.lines.specs.Counts.{element_count, total}
use Rattle.lines.specs.Depths.{bit, ones_in_line, output_ones, depth_of, greatest, line_depth}
use Rattle.matrix.specs.Steps.Choice.{translated, is_least, is_looked_at}
use Rattle.matrix.specs.Steps.Regular.{is_regular_block, regular_of_size, regular_between}
use Rattle.matrix.proofs.Theorems.{mds_is_regular}
use Rattle.rows.specs.Lightest.{member, among, ascending, rows_over, Earlier, differs, agrees, Best, nothing, found, lighter, keep, keep_all, lightest}
use Rattle.rows.specs.Candidates.{some_repeated}
use Rattle.rows.specs.Walks.{differing, arrangements, Walked, walk_over, walk_of}
use Rattle.rows.specs.Steps.IndexMaps.{maps_of_four, moves, in_order, every_move, canonical}
use Rattle.rows.specs.Shape.{is_good, hadamard_shape, circulant_shape}
use Rattle.rows.specs.Steps.Orders.{CirculantOrder}
use Rattle.rows.specs.Steps.Around.{prime_places, place_below}
use Rattle.rows.specs.Keys.{sum_of, depth_of_row, key_of, lightest_row}
use Rattle.rows.proofs.Rows.{Sorted, end, then, earlier_cast, sorted_append, sorted_map, get_d_mem, mem_words, sorted_ascending, sorted_rows}
use Rattle.rows.proofs.Lightest.{same_lightest}
use Rattle.rows.proofs.Walk.{same_good}
use Rattle.rows.proofs.RowNumbers.{falling, arrangements_count}
use Rattle.rows.proofs.Walks.{tried_word, finished_lightest, canonical_walked}
use Rattle.rows.proofs.IndexMaps.{canonical_four}
use Rattle.rows.proofs.CirculantMaps.{canonical_around}
use Rattle.rows.proofs.CirculantRows.{good_circulant, circulant_below, canonical_circulant}
use Rattle.rows.proofs.HadamardRows.{good_sum, good_regular, word_in_field, canonical_lightest}

-- ---- fewer rows

-- where the rows left out are not good, the answer is the same
pub fewer_rows : (good : List ℕ → Bool) (key : List ℕ → ℕ) {rows fewer : List (List ℕ)} → Sorted Earlier rows → Sorted Earlier fewer
    → ((r : List ℕ) → Memᴰ r fewer → Memᴰ r rows) → ((r : List ℕ) → Memᴰ r rows → good r ≡ true → Memᴰ r fewer)
    → lightest good key rows ≡ lightest good key fewer
fewer_rows good key sorted sorted' among' kept =
    same_lightest good good key sorted sorted'
    (λ r d. record { is_row = kept r d.is_row d.is_good; is_good = d.is_good; is_first = λ s m. d.is_first s (among' s m) })
    (λ none r m. none r (among' r m))

-- ---- ascending rows

-- all rows of n letters in the order of the letters, none of them twice
unfoldable pub picks : List ℕ → ℕ → List (List ℕ)
picks letters zero = [] ∷ []
picks [] (suc n) = []
picks (a ∷ letters) (suc n) = map (λ w. a ∷ w) (picks letters n) ++ picks letters (suc n)

-- each of them is a word over the letters
pick_over : (letters : List ℕ) (n : ℕ) (r : List ℕ) → Memᴰ r (picks letters n) → (length r ≡ n) × ((a : ℕ) → Memᴰ a r → Memᴰ a letters)
unfolding picks
pick_over letters zero r m = let e : r ≡ [] = Memᴰ.eq_of_singleton m in rw e (refl, λ a i. absurd (Memᴰ.not-nil i))
pick_over [] (suc n) r m = absurd (Memᴰ.not-nil m)
pick_over (b ∷ letters) (suc n) r m =
    ⊎_elim
    (λ k.
    let (w, i, e) = Memᴰ.of_map (λ w. b ∷ w) (picks letters n) k in
    let (l, over) = pick_over letters n w i in
    rw (← e) (ap suc l, λ a j. ⊎_elim (λ q. Memᴰ.head q) (λ t. Memᴰ.tail (over a t)) (Memᴰ.cases_cons j)))
    (λ k. let (l, over) = pick_over letters (suc n) r k in (l, λ a j. Memᴰ.tail (over a j)))
    (Memᴰ.append_cases (map (λ w. b ∷ w) (picks letters n)) m)

-- they stand in dictionary order
sorted_picks : {letters : List ℕ} → Sorted ◌<◌ letters → (n : ℕ) → Sorted Earlier (picks letters n)
unfolding picks
sorted_picks s zero = then (λ y m. absurd (Memᴰ.not-nil m)) end
sorted_picks end (suc n) = end
sorted_picks (then {x = x} {xs = xs} p s) (suc n) =
    sorted_append (sorted_map (λ w. x ∷ w) (λ r s h. agrees refl h) earlier_cast (sorted_picks s n)) (sorted_picks s (suc n)) λ r q m k.
    let (w, i, e) = Memᴰ.of_map (λ w. x ∷ w) (picks xs n) m in
    rw (← e) (later q (pick_over xs (suc n) q k))
  where
    later : {w : List ℕ} (q : List ℕ) → (length q ≡ suc n) × ((a : ℕ) → Memᴰ a q → Memᴰ a xs) → Earlier (x ∷ w) q
    later [] h = absurd (omega (arith, h.0))
    later (b ∷ q) h = differs (p b (h.1 b (Memᴰ.head refl)))

-- an entry that is not the first letter is one of the others
other : (a b : ℕ) (letters : List ℕ) → a < b → Memᴰ b (a ∷ letters) → Memᴰ b letters
other a b letters h m = ⊎_elim (λ (q : b ≡ a). absurd (omega arith)) (λ k. k) (Memᴰ.cases_cons m)

-- every ascending row over ascending letters is one of them
picked : {letters r : List ℕ} → Sorted ◌<◌ letters → Sorted ◌<◌ r → ((a : ℕ) → Memᴰ a r → Memᴰ a letters) → Memᴰ r (picks letters (length r))
unfolding picks
picked s end over = Memᴰ.head refl
picked end (then {x = b} p t) over = absurd (Memᴰ.not-nil (over b (Memᴰ.head refl)))
picked (then {x = a} {xs = letters} q s) (then {x = b} {xs = r} p t) over =
    ⊎_elim
    (λ (e : b ≡ a).
    Memᴰ.append_left _ (Memᴰ.cast (ap (λ c. c ∷ r) e)
    (Memᴰ.map (λ w. a ∷ w) (picked s t (λ c i. other a c letters (omega (arith, p c i)) (over c (Memᴰ.tail i)))))))
    (λ k.
    Memᴰ.append_right (map (λ w. a ∷ w) (picks letters (length r)))
    (picked s (then p t) (λ c i. ⊎_elim (λ e. Memᴰ.cast e k) (λ j. other a c letters (omega (arith, p c j, q b k)) (over c i)) (Memᴰ.cases_cons i))))
    (Memᴰ.cases_cons (over b (Memᴰ.head refl)))

-- each of them ascends where the letters do
pick_ascends : {letters : List ℕ} → Sorted ◌<◌ letters → (n : ℕ) (r : List ℕ) → Memᴰ r (picks letters n) → Sorted ◌<◌ r
unfolding picks
pick_ascends s zero r m = let e : r ≡ [] = Memᴰ.eq_of_singleton m in rw e end
pick_ascends end (suc n) r m = absurd (Memᴰ.not-nil m)
pick_ascends (then {x = a} {xs = letters} p s) (suc n) r m =
    ⊎_elim
    (λ k.
    let (w, i, e) = Memᴰ.of_map (λ w. a ∷ w) (picks letters n) k in
    rw (← e) (then {x = a} (λ y j. p y ((pick_over letters n w i).1 y j)) (pick_ascends s n w i)))
    (λ k. pick_ascends {letters = letters} s (suc n) r k) (Memᴰ.append_cases (map (λ w. a ∷ w) (picks letters n)) m)

-- ---- canonical rows of four

-- a smaller number before an ascending row
rises : {a b : ℕ} {l : List ℕ} → a < b → Sorted ◌<◌ (b ∷ l) → Sorted ◌<◌ (a ∷ b ∷ l)
rises {a} {b} {l} h (then p s) = then {x = a} {xs = b ∷ l} (λ y m. ⊎_elim (λ (q : y ≡ b). omega arith) (λ k. omega (arith, p y k)) (Memᴰ.cases_cons m)) (then p s)

-- a row whose entries rise from place to place ascends
rising : (r : List ℕ) → ((i : ℕ) → suc i < length r → get_or r i 0 < get_or r (suc i) 0) → Sorted ◌<◌ r
rising [] h = end
rising (a ∷ []) h = then (λ y m. absurd (Memᴰ.not-nil m)) end
rising (a ∷ b ∷ l) h = rises (h 0 (omega arith)) (rising (b ∷ l) (λ i k. h (suc i) (omega arith)))

-- and the other way round
falls : {r : List ℕ} → Sorted ◌<◌ r → (i : ℕ) → suc i < length r → get_or r i 0 < get_or r (suc i) 0
falls end i h = absurd (omega arith)
falls (then {xs = r} p s) zero h = p (get_or r 0 0) (get_d_mem r 0 0 (omega arith))
falls (then p s) (suc i) h = falls s i (omega arith)

-- an ascending row of four is canonical
ascends_canonical : (r : List ℕ) → length r ≡ 4 → Sorted ◌<◌ r → canonical 4 r ≡ true
ascends_canonical r l s =
    rw (canonical_four r, lt-ltb _ _ (falls s 0 (omega arith)), lt-ltb _ _ (falls s 1 (omega arith)), lt-ltb _ _ (falls s 2 (omega arith)))

-- a canonical row of four ascends
canonical_ascends : (r : List ℕ) → length r ≡ 4 → canonical 4 r ≡ true → Sorted ◌<◌ r
canonical_ascends r l e = rising r (λ i k. at i (omega arith) (sym (canonical_four r) ∙ e))
  where
    less : ℕ → Bool
    less i = ltb (get_or r i 0) (get_or r (suc i) 0)

    at : (i : ℕ) → suc i < 4 → (less 0 && (less 1 && (less 2 && true))) ≡ true → get_or r i 0 < get_or r (suc i) 0
    at zero k t = ltb-true _ _ (and_left (less 0) _ t)
    at (suc zero) k t = ltb-true _ _ (and_left (less 1) _ (and_right (less 0) _ t))
    at (suc (suc zero)) k t = ltb-true _ _ (and_left (less 2) _ (and_right (less 1) _ (and_right (less 0) _ t)))
    at (suc (suc (suc i))) k t = absurd (omega arith)

-- ---- the search

-- the sum of a row of four is 1
abbrev sums_to_one : ℕ → List ℕ → Bool
sums_to_one p r = eqb (sum (numbers p) 4 (λ i. get_or r i 0)) 1

-- its blocks of size 1 and 2 whose columns no translation makes smaller are regular
abbrev blocks_pass : ℕ → List ℕ → Bool
blocks_pass p r = regular_between (numbers p) 4 (hadamard (numbers p) r) 1 0 2

-- the row kept after r, by an early test, the key, and a late test; they are made one after the other, each only where the one before passed
unfoldable pub try_row : (List ℕ → Bool) → (List ℕ → Bool) → (List ℕ → ℕ) → Best → List ℕ → Best
try_row early late key best r = elim (early r) [
  | true ↦ elim (lighter key best r) [ true ↦ elim (late r) [ true ↦ found r | false ↦ best ] | false ↦ best ]
  | false ↦ best
]

-- the row kept after all the rows
unfoldable pub try_all : (List ℕ → Bool) → (List ℕ → Bool) → (List ℕ → ℕ) → Best → List (List ℕ) → Best
try_all early late key best [] = best
try_all early late key best (r ∷ rows) = try_all early late key (try_row early late key best r) rows

-- the search for a Hadamard matrix at order 4, to compute with
unfoldable pub computed : ℕ → List ℕ → Best
computed p candidates = try_all (sums_to_one p) (blocks_pass p) (key_of p 4) nothing (picks (ascending (2 ^ degree p) candidates) 4)

-- three tests, one after the other or together
lazy : (a b c : Bool) (x y : Best)
    → elim a [ true ↦ elim b [ true ↦ elim c [ true ↦ x | false ↦ y ] | false ↦ y ] | false ↦ y ] ≡ cond ((a && c) && b) x y
lazy true true true x y = refl
lazy true true false x y = refl
lazy true false true x y = refl
lazy true false false x y = refl
lazy false b c x y = refl

-- the tests one after the other are the tests together
tests_together : (early late : List ℕ → Bool) (key : List ℕ → ℕ) (best : Best) (rows : List (List ℕ))
    → try_all early late key best rows ≡ keep_all (λ r. early r && late r) key best rows
unfolding try_all try_row keep_all keep
tests_together early late key best [] = refl
tests_together early late key best (r ∷ rows) =
    rw (lazy (early r) (lighter key best r) (late r) (found r) best) (tests_together early late key (keep (λ r. early r && late r) key best r) rows)

-- they decide on goodness
good_tests : (p : ℕ) → Modulus p → (r : List ℕ) → WordsInField p 4 r → is_good hadamard_shape p 4 r ≡ (sums_to_one p r && blocks_pass p r)
good_tests p h r below = go (sums_to_one p r) refl
  where
    go : (t : Bool) → sums_to_one p r ≡ t → is_good hadamard_shape p 4 r ≡ (t && blocks_pass p r)
    go true e = good_regular p 4 h (inl refl) r below (eqb-true _ 1 e)
    go false e = same_bool _ false (λ g. sym e ∙ eq-eqb _ 1 (good_sum p 4 h (inl refl) r below g)) (λ f. absurd (false≢true f))

-- it answers what the search answers
pub lightest_computed : (p : ℕ) → Modulus p → (candidates : List ℕ) → lightest_row hadamard_shape p 4 candidates ≡ computed p candidates
unfolding computed lightest rows_over
lightest_computed p h candidates =
    let letters = ascending (2 ^ degree p) candidates in
    let ascends = sorted_ascending (2 ^ degree p) candidates in
    canonical_lightest p 4 h (inl refl) candidates
    ∙ fewer_rows (λ r. canonical 4 r && is_good hadamard_shape p 4 r) (key_of p 4) (sorted_rows (2 ^ degree p) candidates 4) (sorted_picks ascends 4)
    (λ r m. (mem_words letters 4 r).1 (pick_over letters 4 r m))
    (λ r m g.
    let (l, over) = (mem_words letters 4 r).0 m in
    rw l at (picked ascends (canonical_ascends r l (and_left (canonical 4 r) _ g)) over))
    ∙ same_good _ _ (key_of p 4) nothing (picks letters 4) (λ r m.
    let (l, over) = pick_over letters 4 r m in
    rw (ascends_canonical r l (pick_ascends ascends 4 r m))
    (good_tests p h r (word_in_field p 4 candidates r ((mem_words letters 4 r).1 (l, over)))))
    ∙ sym (tests_together (sums_to_one p) (blocks_pass p) (key_of p 4) nothing (picks letters 4))

-- ---- the walk

-- the best of the rows that a walk at order 4 tries, to compute with
unfoldable pub computed_walk : ℕ → List ℕ → ℕ → Best
computed_walk p candidates budget =
    try_all (λ r. canonical 4 r && sums_to_one p r) (blocks_pass p) (key_of p 4) nothing (take budget (arrangements p 4 candidates))

-- it is the best of the walk
pub walk_computed : (p : ℕ) → Modulus p → (candidates : List ℕ) (budget : ℕ) → (walk_of p 4 candidates budget).best ≡ computed_walk p candidates budget
unfolding walk_of walk_over computed_walk lightest
walk_computed p h candidates budget =
    let rows = take budget (arrangements p 4 candidates) in
    canonical_walked p 4 candidates h (inl refl) budget
    ∙ same_good _ (λ r. (canonical 4 r && sums_to_one p r) && blocks_pass p r) (key_of p 4) nothing rows (λ r m.
    ap (λ t. canonical 4 r && t) (good_tests p h r (word_in_field p 4 candidates r (tried_word p 4 candidates budget r m)))
    ∙ sym (and_assoc (canonical 4 r) (sums_to_one p r) (blocks_pass p r)))
    ∙ sym (tests_together (λ r. canonical 4 r && sums_to_one p r) (blocks_pass p) (key_of p 4) nothing rows)

-- where a walk stands
abbrev pub stands : ℕ → Bool → Best → Walked
stands tried over kept = record { rows_tried = tried; finished = over; best = kept }

pub walk_stands : {p : ℕ} → Modulus p → (candidates : List ℕ) (budget tried : ℕ) (over : Bool) (kept : Best)
    → min budget (length (arrangements p 4 candidates)) ≡ tried → leb (length (arrangements p 4 candidates)) budget ≡ over → computed_walk p candidates budget ≡ kept
    → walk_of p 4 candidates budget ≡ stands tried over kept
unfolding walk_of walk_over
walk_stands {p} h candidates budget tried over kept e f g = rw (e, f, walk_computed p h candidates budget ∙ g)

-- a finished walk, whose row the search has
pub walk_ends : {p : ℕ} → Modulus p → (candidates : List ℕ) (budget tried : ℕ) (kept : Best) → length (arrangements p 4 candidates) ≡ tried → tried ≤ budget
    → lightest_row hadamard_shape p 4 candidates ≡ kept → walk_of p 4 candidates budget ≡ stands tried true kept
unfolding walk_of walk_over
walk_ends {p} h candidates budget tried kept e l g =
    let over = le-leb (length (arrangements p 4 candidates)) budget (omega arith) in
    rw (over, min-eq_right (leb-true _ _ over), e, finished_lightest p 4 candidates h (inl refl) budget over ∙ g)

-- ---- the search for a circulant matrix

-- all blocks of a row's circulant matrix are regular
abbrev all_pass : ℕ → ℕ → List ℕ → Bool
all_pass p n r = regular_between (numbers p) n (circulant (numbers p) n r) 0 0 n

-- the search, to compute with
unfoldable pub computed_around : ℕ → ℕ → List ℕ → Best
computed_around p n candidates = try_all (canonical_around n) (all_pass p n) (key_of p n) nothing (words (ascending (2 ^ degree p) candidates) n)

-- it answers what the search answers
pub circulant_computed : (p n : ℕ) → Modulus p → CirculantOrder n → (candidates : List ℕ) → lightest_row circulant_shape p n candidates ≡ computed_around p n candidates
unfolding computed_around lightest
circulant_computed p n h o candidates =
    canonical_circulant p n h o candidates
    ∙ same_good _ _ (key_of p n) nothing (words (ascending (2 ^ degree p) candidates) n) (λ r m.
    let below = circulant_below p n h r (word_in_field p n candidates r m) in
    ap (λ t. canonical_around n r && t) (good_circulant p n r ∙ mds_is_regular p h n (circulant (numbers p) n r) below (omega (arith, o.0))))
    ∙ sym (tests_together (canonical_around n) (all_pass p n) (key_of p n) nothing (words (ascending (2 ^ degree p) candidates) n))

-- ---- the searches of document 01 over 19, computed

pub nineteen : Modulus 19
unfolding table
nineteen = record { low = omega arith; high = omega arith; irreducible = table_sound 3 (omega arith) }

pub thirty_one : Modulus 31
unfolding table
thirty_one = record { low = omega arith; high = omega arith; irreducible = table_sound 5 (omega arith) }

pub sixty_seven : Modulus 67
unfolding table
sixty_seven = record { low = omega arith; high = omega arith; irreducible = table_sound 12 (omega arith) }

pub seven : Modulus 7
unfolding table
seven = record { low = omega arith; high = omega arith; irreducible = table_sound 0 (omega arith) }

pub two_eighty_three : Modulus 283
unfolding table
two_eighty_three = record { low = omega arith; high = omega arith; irreducible = table_sound 39 (omega arith) }

by_computing : {p : ℕ} → Modulus p → (candidates : List ℕ) (best : Best) → computed p candidates ≡ best → lightest_row hadamard_shape p 4 candidates ≡ best
by_computing {p} h candidates best e = lightest_computed p h candidates ∙ e

-- no row over 1 2 4 8, over 1 3 8 11 and over 1 4 9; the row 1 4 9 13 over these four and over all fifteen
pub over_nineteen : (lightest_row hadamard_shape 19 4 (1 ∷ 2 ∷ 4 ∷ 8 ∷ []) ≡ nothing)
    × (lightest_row hadamard_shape 19 4 (1 ∷ 3 ∷ 8 ∷ 11 ∷ []) ≡ nothing)
    × (lightest_row hadamard_shape 19 4 (1 ∷ 4 ∷ 9 ∷ []) ≡ nothing)
    × (lightest_row hadamard_shape 19 4 (1 ∷ 4 ∷ 9 ∷ 13 ∷ []) ≡ found (1 ∷ 4 ∷ 9 ∷ 13 ∷ []))
    × (lightest_row hadamard_shape 19 4 (1 ∷ 2 ∷ 3 ∷ 4 ∷ 5 ∷ 6 ∷ 7 ∷ 8 ∷ 9 ∷ 10 ∷ 11 ∷ 12 ∷ 13 ∷ 14 ∷ 15 ∷ []) ≡ found (1 ∷ 4 ∷ 9 ∷ 13 ∷ []))
unfolding computed try_all try_row picks ascending up_to among member tabulate lighter key_of sum_of depth_of_row element_count line_depth greatest depth_of first_below output_ones ones_in_line bit total sum hadamard regular_between regular_of_size is_looked_at is_least translated is_regular_block every_below det without skip block chosen places_from xor_count ones_in_columns ones ones_in product rem reduce degree over_digits digits_within ◌⊗◌ ◌⊕◌
over_nineteen = (
  by_computing nineteen _ _ refl,
  by_computing nineteen _ _ refl,
  by_computing nineteen _ _ refl,
  by_computing nineteen _ _ refl,
  by_computing nineteen _ _ refl,
)

-- where the depth decides: all fifteen over 31, and eleven of them; and where the count decides before it: six over 67
pub by_depth_rows : (lightest_row hadamard_shape 31 4 (1 ∷ 2 ∷ 3 ∷ 4 ∷ 5 ∷ 6 ∷ 7 ∷ 8 ∷ 9 ∷ 10 ∷ 11 ∷ 12 ∷ 13 ∷ 14 ∷ 15 ∷ []) ≡ found (1 ∷ 2 ∷ 13 ∷ 15 ∷ []))
    × (lightest_row hadamard_shape 31 4 (1 ∷ 2 ∷ 3 ∷ 4 ∷ 6 ∷ 7 ∷ 8 ∷ 9 ∷ 10 ∷ 12 ∷ 14 ∷ []) ≡ found (1 ∷ 4 ∷ 8 ∷ 12 ∷ []))
    × (lightest_row hadamard_shape 67 4 (1 ∷ 8 ∷ 16 ∷ 24 ∷ 49 ∷ 57 ∷ []) ≡ found (1 ∷ 8 ∷ 49 ∷ 57 ∷ []))
unfolding computed try_all try_row picks ascending up_to among member tabulate lighter key_of sum_of depth_of_row element_count line_depth greatest depth_of first_below output_ones ones_in_line bit total sum hadamard regular_between regular_of_size is_looked_at is_least translated is_regular_block every_below det without skip block chosen places_from xor_count ones_in_columns ones ones_in product rem reduce degree over_digits digits_within ◌⊗◌ ◌⊕◌
by_depth_rows = (by_computing thirty_one _ _ refl, by_computing thirty_one _ _ refl, by_computing sixty_seven _ _ refl)

-- circulant matrices (document 02, Six): order 2 over 7, order 3 over 19, order 4 over 283, each with an entry that may stand several times but where it
-- may not; and no row of one element, of order 2 over 7
pub around_rows : (lightest_row circulant_shape 7 2 (3 ∷ 2 ∷ []) ≡ found (2 ∷ 3 ∷ []))
    × (lightest_row circulant_shape 19 3 (1 ∷ 2 ∷ 3 ∷ 4 ∷ []) ≡ found (1 ∷ 1 ∷ 2 ∷ []))
    × (lightest_row circulant_shape 283 4 (1 ∷ 2 ∷ 3 ∷ []) ≡ found (1 ∷ 1 ∷ 2 ∷ 3 ∷ []))
    × (lightest_row circulant_shape 7 2 (1 ∷ []) ≡ nothing)
unfolding computed_around try_all try_row words before canonical_around place_below prime_places ascending up_to among member tabulate lighter key_of sum_of depth_of_row element_count line_depth greatest depth_of first_below output_ones ones_in_line bit total sum circulant regular_between regular_of_size is_looked_at is_least translated is_regular_block every_below det without skip block chosen places_from xor_count ones_in_columns ones ones_in product rem reduce degree over_digits digits_within ◌⊗◌ ◌⊕◌
around_rows = (
  circulant_computed 7 2 seven (omega arith, omega arith) _ ∙ refl,
  circulant_computed 19 3 nineteen (omega arith, omega arith) _ ∙ refl,
  circulant_computed 283 4 two_eighty_three (omega arith, omega arith) _ ∙ refl,
  circulant_computed 7 2 seven (omega arith, omega arith) _ ∙ refl,
)

-- walks (document 02, Seven) over 19 and over 31: 1 4 9 13 is the first row of its candidates; none of the first 23 rows of 1 2 4 8 is good; over 31
-- row 1 2 13 15, the ninth of six candidates, has the count of 1 2 4 6, the first, and less depth
pub walked_rows : (walk_of 19 4 (1 ∷ 4 ∷ 9 ∷ 13 ∷ []) 0 ≡ stands 0 false nothing)
    × (walk_of 19 4 (1 ∷ 4 ∷ 9 ∷ 13 ∷ []) 1 ≡ stands 1 false (found (1 ∷ 4 ∷ 9 ∷ 13 ∷ [])))
    × (walk_of 19 4 (1 ∷ 4 ∷ 9 ∷ 13 ∷ []) 24 ≡ stands 24 true (found (1 ∷ 4 ∷ 9 ∷ 13 ∷ [])))
    × (walk_of 19 4 (1 ∷ 2 ∷ 4 ∷ 8 ∷ []) 23 ≡ stands 23 false nothing)
    × (walk_of 19 4 (1 ∷ 2 ∷ 4 ∷ 8 ∷ []) 24 ≡ stands 24 true nothing)
    × (walk_of 19 4 (1 ∷ 4 ∷ 9 ∷ []) 0 ≡ stands 0 true nothing)
    × (walk_of 19 4 (3 ∷ 1 ∷ 4 ∷ 9 ∷ 13 ∷ []) 0 ≡ stands 0 false nothing)
    × (walk_of 31 4 (15 ∷ 1 ∷ 13 ∷ 2 ∷ 4 ∷ 6 ∷ []) 8 ≡ stands 8 false (found (1 ∷ 2 ∷ 4 ∷ 6 ∷ [])))
    × (walk_of 31 4 (15 ∷ 1 ∷ 13 ∷ 2 ∷ 4 ∷ 6 ∷ []) 9 ≡ stands 9 false (found (1 ∷ 2 ∷ 13 ∷ 15 ∷ [])))
unfolding computed_walk arrangements differing rows_over words before some_repeated canonical every_move in_order moves maps_of_four try_all try_row ascending up_to among member tabulate lighter key_of sum_of depth_of_row element_count line_depth greatest depth_of first_below output_ones ones_in_line bit total sum hadamard regular_between regular_of_size is_looked_at is_least translated is_regular_block every_below det without skip block chosen places_from xor_count ones_in_columns ones ones_in product rem reduce degree over_digits digits_within ◌⊗◌ ◌⊕◌
walked_rows = (
  walk_stands nineteen _ 0 _ _ _ refl refl refl,
  walk_stands nineteen _ 1 _ _ _ refl refl refl,
  walk_stands nineteen _ 24 _ _ _ refl refl refl,
  walk_stands nineteen _ 23 _ _ _ refl refl refl,
  walk_stands nineteen _ 24 _ _ _ refl refl refl,
  walk_stands nineteen _ 0 _ _ _ refl refl refl,
  walk_stands nineteen _ 0 _ _ _ refl refl refl,
  walk_stands thirty_one _ 8 _ _ _ refl refl refl,
  walk_stands thirty_one _ 9 _ _ _ refl refl refl,
)

-- all fifteen elements have 15·14·13·12 rows of different entries
pub fifteen_walked : (walk_of 19 4 (1 ∷ 2 ∷ 3 ∷ 4 ∷ 5 ∷ 6 ∷ 7 ∷ 8 ∷ 9 ∷ 10 ∷ 11 ∷ 12 ∷ 13 ∷ 14 ∷ 15 ∷ []) 999999 ≡ stands 32760 true (found (1 ∷ 4 ∷ 9 ∷ 13 ∷ [])))
    × (walk_of 31 4 (1 ∷ 2 ∷ 3 ∷ 4 ∷ 5 ∷ 6 ∷ 7 ∷ 8 ∷ 9 ∷ 10 ∷ 11 ∷ 12 ∷ 13 ∷ 14 ∷ 15 ∷ []) 32760 ≡ stands 32760 true (found (1 ∷ 2 ∷ 13 ∷ 15 ∷ [])))
unfolding falling ascending up_to among member tabulate degree over_digits digits_within
fifteen_walked = (
  walk_ends nineteen _ 999999 32760 _ (arrangements_count 19 4 _) (lit≤ tt) over_nineteen.4,
  walk_ends thirty_one _ 32760 32760 _ (arrangements_count 31 4 _) (lit≤ tt) by_depth_rows.0,
)
