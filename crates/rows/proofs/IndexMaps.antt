-- The index maps of order 4 and 8: each is its own inverse, affine over the index bits, and moves a row that violates its
-- inequality to an earlier row over the same letters. So only the canonical rows need be tried.
-- Assumes nothing.
use mathlib.Core.Path.{◌≡◌, refl, sym, ap, ◌∙◌}
use mathlib.Core.Logic.{⊎_elim}
use mathlib.Core.Bool.{Bool, true, false, cond, ◌&&◌, true≢false, false≢true}
use mathlib.Core.List.Memᴰ
use mathlib.Core.List.{List, [], ◌∷◌, Memᴰ}
use Prim.Native.Nat.{ℕ, ◌<◌, ◌≤◌}
use native.Mathlib.Omega.{arith}
use native.Mathlib.Decide.{dec_lt}
use lib.Bits.{bit_xor}
use lib.Dec.{ltb, eqb}
use lib.ListN.{length, get_or}
use borrow.Author.Tests.{ltb-true, ltb-false, eqb-true}
use Rattle.algebra.specs.Matrix.{words}
use Rattle.algebra.proofs.Words.{length_tabulate, get_d_tabulate, mem_tabulate}
use Rattle.algebra.specs.Places.{Inverse}
use Rattle.algebra.proofs.Sums.{own}
use Rattle.field.specs.Steps.{every_below}
use Rattle.matrix.proofs.Squares.{every_each}
use Rattle.rows.specs.Lightest.{Earlier, lightest}
use Rattle.rows.specs.Steps.IndexMaps.{Move, from, maps_of_four, maps_of_eight, moves, moved, in_order, every_move, canonical, lowers, turns_back, affine, sound}
use Rattle.rows.proofs.Rows.{Sorted, earlier_at, mem_words, get_d_mem}
use Rattle.rows.proofs.Lightest.{canonical_suffices}

-- ---- the computed test of the table

-- every move of order 4 and of order 8 passes the test
table_four : every_move (sound 4) maps_of_four ≡ true
unfolding every_move sound lowers turns_back affine every_below from maps_of_four
table_four = refl

table_eight : every_move (sound 8) maps_of_eight ≡ true
unfolding every_move sound lowers turns_back affine every_below from maps_of_eight
table_eight = refl

-- what holds of the moves of order 4, of those of order 8, and of none, holds of the moves of any order
moves_ind : (Q : ℕ → List Move → Type 0) → Q 4 maps_of_four → Q 8 maps_of_eight → ((n : ℕ) → Q n []) → (n : ℕ) → Q n (moves n)
unfolding moves
moves_ind Q four eight other n = go (eqb n 4) (eqb n 8) refl refl
  where
    go : (a b : Bool) → eqb n 4 ≡ a → eqb n 8 ≡ b → Q n (cond a maps_of_four (cond b maps_of_eight []))
    go true b e f = rw (eqb-true n 4 e) four
    go false true e f = rw (eqb-true n 8 f) eight
    go false false e f = other n

-- both of two tests pass
pub and_split : (a b : Bool) → (a && b) ≡ true → (a ≡ true) × (b ≡ true)
and_split true b e = (refl, e)
and_split false b e = absurd (false≢true e)

-- a test that passes at every move passes at each
every_move_at : (test : Move → Bool) (ms : List Move) (m : Move) → every_move test ms ≡ true → Memᴰ m ms → test m ≡ true
unfolding every_move
every_move_at test [] m e i = absurd (Memᴰ.not-nil i)
every_move_at test (x ∷ ms) m e i =
    let (h, k) = and_split (test x) (every_move test ms) e in
    ⊎_elim (λ (q : m ≡ x). ap test q ∙ h) (λ j. every_move_at test ms m k j) (Memᴰ.cases_cons i)

-- what the test shows of a move
pub record Sound (n : ℕ) (m : Move) : Type 0 where
  pub ordered : m.low < m.high
  pub inside : m.high < n
  pub sends : from m m.low ≡ m.high
  pub fixes : (i : ℕ) → i < m.low → from m i ≡ i
  pub below : (i : ℕ) → i < n → from m i < n
  pub back : (i : ℕ) → i < n → from m (from m i) ≡ i
  pub bits : (i j : ℕ) → i < n → j < n → from m (bit_xor i j) ≡ bit_xor (bit_xor (from m i) (from m j)) (from m 0)

-- the test, read as statements
sound_facts : (n : ℕ) (m : Move) → sound n m ≡ true → Sound n m
unfolding sound lowers turns_back affine
sound_facts n m e =
    let (lt, bits) = and_split (lowers n m && turns_back n m) (affine n m) e in
    let (l, turns) = and_split (lowers n m) (turns_back n m) lt in
    let (l₃, fixed) = and_split (ltb m.low m.high && ltb m.high n && eqb (from m m.low) m.high) (every_below m.low (λ i. eqb (from m i) i)) l in
    let (l₂, sent) = and_split (ltb m.low m.high && ltb m.high n) (eqb (from m m.low) m.high) l₃ in
    let (l₁, high) = and_split (ltb m.low m.high) (ltb m.high n) l₂ in
    let turn : (i : ℕ) → i < n → (ltb (from m i) n ≡ true) × (eqb (from m (from m i)) i ≡ true) = λ i h. and_split _ _ (every_each n _ turns i h) in
    record {
      ordered = ltb-true m.low m.high l₁;
      inside = ltb-true m.high n high;
      sends = eqb-true _ _ sent;
      fixes = λ i h. eqb-true _ _ (every_each m.low _ fixed i h);
      below = λ i h. ltb-true (from m i) n (turn i h).0;
      back = λ i h. eqb-true (from m (from m i)) i (turn i h).1;
      bits = λ i j h k. eqb-true _ _ (every_each n _ (every_each n _ bits i h) j k);
    }

-- every move of the table passed the test
pub moves_sound : (n : ℕ) (m : Move) → Memᴰ m (moves n) → Sound n m
unfolding every_move
moves_sound n m i =
    sound_facts n m (every_move_at (sound n) (moves n) m (moves_ind (λ n ms. every_move (sound n) ms ≡ true) table_four table_eight (λ n. refl) n) i)

-- it undoes itself
pub moves_inverse : (n : ℕ) (m : Move) → Memᴰ m (moves n) → Inverse n (from m) (from m)
moves_inverse n m i = let ok = moves_sound n m i in own n (from m) ok.below ok.back

-- ---- a moved row

-- it has n entries
pub moved_length : (n : ℕ) (m : Move) (row : List ℕ) → length (moved n m row) ≡ n
unfolding moved
moved_length n m row = length_tabulate n _

-- its entry at a place
pub moved_entry : (n : ℕ) (m : Move) (row : List ℕ) (i : ℕ) → i < n → get_or (moved n m row) i 0 ≡ get_or row (from m i) 0
unfolding moved
moved_entry n m row i h = get_d_tabulate n _ i 0 h

module _ (n : ℕ) (m : Move) (in_table : Memᴰ m (moves n)) where
  -- its members are members of the row
  moved_from : (row : List ℕ) → length row ≡ n → (a : ℕ) → Memᴰ a (moved n m row) → Memᴰ a row
  unfolding moved
  moved_from row entries a i =
      let (k, h, e) = mem_tabulate n _ a i in
      Memᴰ.cast e (get_d_mem row (from m k) 0 (omega (arith, (moves_sound n m in_table).below k h)))

  -- so it is a word over the same letters
  pub moved_word : (letters row : List ℕ) → Memᴰ row (words letters n) → Memᴰ (moved n m row) (words letters n)
  moved_word letters row i =
      let (l, over) = (mem_words letters n row).0 i in
      (mem_words letters n (moved n m row)).1 (moved_length n m row, λ a h. over a (moved_from row l a h))

  -- its entries differ where those of the row do
  pub moved_different : (row : List ℕ) → ((i j : ℕ) → i < n → j < n → get_or row i 0 ≡ get_or row j 0 → i ≡ j)
      → (i j : ℕ) → i < n → j < n → get_or (moved n m row) i 0 ≡ get_or (moved n m row) j 0 → i ≡ j
  moved_different row different i j l k e =
      let ok = moves_sound n m in_table in
      sym (ok.back i l)
      ∙ ap (from m) (different (from m i) (from m j) (ok.below i l) (ok.below j k) (sym (moved_entry n m row i l) ∙ e ∙ moved_entry n m row j k))
      ∙ ok.back j k

  module _ (row : List ℕ) (entries : length row ≡ n) where
    -- it is earlier than a row that violates the inequality
    pub moved_earlier : get_or row m.high 0 < get_or row m.low 0 → Earlier (moved n m row) row
    moved_earlier less =
        let ok = moves_sound n m in_table in
        let low : m.low < n = omega arith in
        earlier_at (moved n m row) row m.low (omega (arith, moved_length n m row)) (omega arith)
        (λ k h. moved_entry n m row k (omega arith) ∙ ap (λ p. get_or row p 0) (ok.fixes k h))
        (rw (moved_entry n m row m.low low, ok.sends) less)

-- ---- the canonical rows

-- the entry at place i is smaller than that at place j
abbrev less : List ℕ → ℕ → ℕ → Bool
less row i j = ltb (get_or row i 0) (get_or row j 0)

-- order 4: h0 < h1 < h2 < h3
pub canonical_four : (row : List ℕ) → canonical 4 row ≡ (less row 0 1 && (less row 1 2 && (less row 2 3 && true)))
unfolding canonical every_move in_order moves maps_of_four
canonical_four row = refl

-- order 8: h0 < h1 < h2 < h3, h2 < h4, h4 < h5, h4 < h6 and h4 < h7
pub canonical_eight : (row : List ℕ)
    → canonical 8 row ≡ (less row 0 1 && (less row 1 2 && (less row 2 3 && (less row 2 4 && (less row 4 5 && (less row 4 6 && (less row 4 7 && true)))))))
unfolding canonical every_move in_order moves maps_of_eight
canonical_eight row = refl

-- where not every move passes, one fails
every_move_false : (test : Move → Bool) (ms : List Move) → every_move test ms ≡ false → (m : Move) × Memᴰ m ms × (test m ≡ false)
unfolding every_move
every_move_false test [] e = absurd (true≢false e)
every_move_false test (m ∷ ms) e = go (test m) refl e (every_move_false test ms)
  where
    go : (t : Bool) → test m ≡ t → (t && every_move test ms) ≡ false → (every_move test ms ≡ false → (m : Move) × Memᴰ m ms × (test m ≡ false))
        → (m' : Move) × Memᴰ m' (m ∷ ms) × (test m' ≡ false)
    go true q e f = let (m', i, h) = f e in (m', Memᴰ.tail i, h)
    go false q e f = (m, Memᴰ.head refl, q)

-- a row of different entries that is not canonical violates one of the inequalities strictly
pub violated : (n : ℕ) (row : List ℕ) → ((i j : ℕ) → i < n → j < n → get_or row i 0 ≡ get_or row j 0 → i ≡ j) → canonical n row ≡ false
    → (m : Move) × Memᴰ m (moves n) × (get_or row m.high 0 < get_or row m.low 0)
unfolding canonical in_order
violated n row different e =
    let (m, i, h) = every_move_false (in_order row) (moves n) e in
    let ok = moves_sound n m i in
    let le : get_or row m.high 0 ≤ get_or row m.low 0 = ltb-false (get_or row m.low 0) (get_or row m.high 0) h in
    let apart : get_or row m.low 0 ≡ get_or row m.high 0 → ⊥ = λ q. omega (arith, different m.low m.high (omega arith) ok.inside q) in
    (m, i, elim (dec_lt (get_or row m.high 0) (get_or row m.low 0)) [ yes l ↦ l | no l ↦ absurd (apart (omega arith)) ])

-- a row stays among the rows where a move makes it earlier
abbrev pub MovedAmong : ℕ → List (List ℕ) → Type 0
MovedAmong n rows = (m : Move) → Memᴰ m (moves n) → (r : List ℕ) → Memᴰ r rows → Earlier (moved n m r) r → Memᴰ (moved n m r) rows

-- of rows in dictionary order among which the moved rows are, where good ones have different entries, and a move keeps goodness and key, the
-- canonical rows are enough
pub canonical_rows : (good : List ℕ → Bool) (key : List ℕ → ℕ) {rows : List (List ℕ)} → Sorted Earlier rows → (n : ℕ) → MovedAmong n rows
    → ((r : List ℕ) → Memᴰ r rows → length r ≡ n)
    → ((r : List ℕ) → Memᴰ r rows → good r ≡ true → (i j : ℕ) → i < n → j < n → get_or r i 0 ≡ get_or r j 0 → i ≡ j)
    → ((m : Move) → Memᴰ m (moves n) → (r : List ℕ) → Memᴰ r rows → good r ≡ true → (good (moved n m r) ≡ true) × (key (moved n m r) ≤ key r))
    → lightest good key rows ≡ lightest (λ r. canonical n r && good r) key rows
canonical_rows good key sorted n among entries different keeps =
    canonical_suffices good (canonical n) key sorted λ r i g e.
    let (m, j, less) = violated n r (different r i g) e in
    let (g', k) = keeps m j r i g in
    let earlier = moved_earlier n m j r (entries r i) less in
    (moved n m r, among m j r i earlier, g', k, earlier)
