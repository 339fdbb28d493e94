-- The index maps of circulant rows of orders 2 to 8: rotation by d, and multiplication by a d that is prime to the order. Each is a permutation
-- that carries the circulant matrix of the moved row to the matrix with lines and columns moved, and moves a row that violates its inequality to
-- an earlier row over the same letters. So only the canonical rows need be tried. Assumes nothing.
use mathlib.Core.Path.{◌≡◌, refl, ap, ◌∙◌}
use mathlib.Core.Bool.{Bool, true, false, cond, ◌&&◌, ◌||◌}
use mathlib.Core.List.Memᴰ
use mathlib.Core.List.{List, Memᴰ}
use Prim.Native.Nat.{ℕ, ◌+◌, ◌-◌, ◌*◌, ◌%◌, ◌≤◌, ◌<◌}
use native.Mathlib.Omega.{arith}
use lib.Dec.{eqb, leb, ltb}
use lib.ListN.{length, get_or}
use borrow.Author.Tests.{ltb-true, leb-false, eqb-true, le-ltb}
use Rattle.algebra.specs.Matrix.{words}
use Rattle.algebra.specs.Places.{Inverse}
use Rattle.algebra.proofs.Words.{length_tabulate, get_d_tabulate, mem_tabulate}
use Rattle.algebra.specs.Matrix.{tabulate}
use Rattle.field.specs.Polynomial.{first_below}
use Rattle.field.specs.Steps.{every_below}
use Rattle.matrix.proofs.Squares.{every_each, every_fails}
use Rattle.rows.specs.Lightest.{Earlier, lightest}
use Rattle.rows.specs.Steps.Orders.{CirculantOrder}
use Rattle.rows.specs.Steps.Around.{prime_places, place_below}
use Rattle.rows.proofs.Rows.{Sorted, earlier_at, sorted_words, mem_words, get_d_mem}
use Rattle.rows.proofs.Lightest.{canonical_suffices}
use Rattle.rows.proofs.IndexMaps.{and_split}

-- ---- the maps

-- the places of the columns: d times k where the entry at d is compared with the second, k + d where it is compared with the first
unfoldable pub column_from : ℕ → ℕ → ℕ → ℕ
column_from n d k = cond (eqb (place_below n d) 1) (d * k % n) ((k + d) % n)

-- the places of the lines
unfoldable pub line_from : ℕ → ℕ → ℕ → ℕ
line_from n d k = cond (eqb (place_below n d) 1) (d * k % n) k

-- the number that a map sends to k
unfoldable pub back_from : ℕ → (ℕ → ℕ) → ℕ → ℕ
back_from n f k = first_below n (λ j. eqb (f j) k)

-- ---- the computed test

-- the map is a permutation of the numbers below n
unfoldable permutes : ℕ → (ℕ → ℕ) → Bool
permutes n f =
    every_below n (λ k. ltb (f k) n && ltb (back_from n f k) n && eqb (back_from n f (f k)) k && eqb (f (back_from n f k)) k)

-- the place at a moved line and a moved column is the moved place
unfoldable carries : ℕ → ℕ → Bool
carries n d =
    every_below n (λ i. every_below n (λ j. eqb ((column_from n d j + (n - line_from n d i)) % n) (column_from n d ((j + (n - i)) % n))))

-- the place that is compared is below n and stays behind none that moves; the entry at d comes to it
unfoldable lowers : ℕ → ℕ → Bool
lowers n d =
    ltb (place_below n d) n
    && eqb (column_from n d (place_below n d)) d
    && every_below (place_below n d) (λ i. eqb (column_from n d i) i)

unfoldable sound : ℕ → ℕ → Bool
sound n d = permutes n (column_from n d) && permutes n (line_from n d) && carries n d && lowers n d

-- every map of the orders 2 to 8 passes the test
every_sound : every_below 9 (λ n. ltb n 2 || every_below n (sound n)) ≡ true
unfolding every_below sound permutes carries lowers column_from line_from back_from first_below place_below prime_places
every_sound = refl

-- what it shows
pub record Sound (n d : ℕ) : Type 0 where
  pub columns : Inverse n (column_from n d) (back_from n (column_from n d))
  pub lines : Inverse n (line_from n d) (back_from n (line_from n d))
  pub carried : (i j : ℕ) → i < n → j < n → (column_from n d j + (n - line_from n d i)) % n ≡ column_from n d ((j + (n - i)) % n)
  pub inside : place_below n d < n
  pub sends : column_from n d (place_below n d) ≡ d
  pub fixes : (i : ℕ) → i < place_below n d → column_from n d i ≡ i

permutes_inverse : (n : ℕ) (f : ℕ → ℕ) → permutes n f ≡ true → Inverse n f (back_from n f)
unfolding permutes
permutes_inverse n f e =
    record {
      there = λ i l. ltb-true (f i) n (parts i l).0;
      back = λ i l. ltb-true (back_from n f i) n (parts i l).1;
      back_there = λ i l. eqb-true (back_from n f (f i)) i (parts i l).2;
      there_back = λ i l. eqb-true (f (back_from n f i)) i (parts i l).3;
    }
  where
    parts : (i : ℕ) → i < n → (ltb (f i) n ≡ true) × (ltb (back_from n f i) n ≡ true) × (eqb (back_from n f (f i)) i ≡ true) × (eqb (f (back_from n f i)) i ≡ true)
    parts i l =
        let (abc, d) = and_split (ltb (f i) n && ltb (back_from n f i) n && eqb (back_from n f (f i)) i) _ (every_each n _ e i l) in
        let (ab, c) = and_split (ltb (f i) n && ltb (back_from n f i) n) _ abc in
        let (a, b) = and_split (ltb (f i) n) _ ab in
        (a, b, c, d)

pub map_sound : (n d : ℕ) → CirculantOrder n → d < n → Sound n d
unfolding sound carries lowers
map_sound n d (least, most) l =
    let here = every_each 9 (λ n. ltb n 2 || every_below n (sound n)) every_sound n (omega arith) in
    let (pqc, low) = and_split (permutes n (column_from n d) && permutes n (line_from n d) && carries n d) (lowers n d) (every_each n (sound n) (ap (λ t. t || every_below n (sound n)) (sym_test (ltb n 2) (le-ltb n 2 least)) ∙ here) d l) in
    let (pq, c) = and_split (permutes n (column_from n d) && permutes n (line_from n d)) (carries n d) pqc in
    let (p, q) = and_split (permutes n (column_from n d)) (permutes n (line_from n d)) pq in
    let (ab, fixed) = and_split (ltb (place_below n d) n && eqb (column_from n d (place_below n d)) d) _ low in
    let (a, b) = and_split (ltb (place_below n d) n) _ ab in
    record {
      columns = permutes_inverse n (column_from n d) p;
      lines = permutes_inverse n (line_from n d) q;
      carried = λ i j u v. eqb-true _ _ (every_each n _ (every_each n _ c i u) j v);
      inside = ltb-true (place_below n d) n a;
      sends = eqb-true _ _ b;
      fixes = λ i u. eqb-true _ _ (every_each (place_below n d) _ fixed i u);
    }
  where
    sym_test : (t : Bool) → t ≡ false → false ≡ t
    sym_test t e = rw e refl

-- ---- a moved row

-- the row whose entry at place k is the entry at the place that the map of d gives
unfoldable pub moved_around : ℕ → ℕ → List ℕ → List ℕ
moved_around n d row = tabulate n (λ k. get_or row (column_from n d k) 0)

pub around_length : (n d : ℕ) (row : List ℕ) → length (moved_around n d row) ≡ n
unfolding moved_around
around_length n d row = length_tabulate n _

pub around_entry : (n d : ℕ) (row : List ℕ) (k : ℕ) → k < n → get_or (moved_around n d row) k 0 ≡ get_or row (column_from n d k) 0
unfolding moved_around
around_entry n d row k l = get_d_tabulate n _ k 0 l

module _ (n d : ℕ) (o : CirculantOrder n) (inside : d < n) (row : List ℕ) (entries : length row ≡ n) where
  -- its members are members of the row
  around_from : (a : ℕ) → Memᴰ a (moved_around n d row) → Memᴰ a row
  unfolding moved_around
  around_from a i =
      let (k, l, e) = mem_tabulate n _ a i in
      Memᴰ.cast e (get_d_mem row (column_from n d k) 0 (omega (arith, (map_sound n d o inside).columns.there k l)))

  -- it is earlier than a row that violates the inequality
  around_earlier : get_or row d 0 < get_or row (place_below n d) 0 → Earlier (moved_around n d row) row
  around_earlier less =
      let ok = map_sound n d o inside in
      earlier_at (moved_around n d row) row (place_below n d) (omega (arith, ok.inside, around_length n d row)) (omega (arith, ok.inside))
      (λ k l. around_entry n d row k (omega (arith, ok.inside)) ∙ ap (λ (j : ℕ). get_or row j 0) (ok.fixes k l))
      (rw (around_entry n d row (place_below n d) ok.inside, ok.sends) less)

-- ---- the canonical rows

-- no entry is smaller than the one that it is compared with
unfoldable pub canonical_around : ℕ → List ℕ → Bool
canonical_around n row = every_below n (λ d. leb (get_or row (place_below n d) 0) (get_or row d 0))

-- where a moved row is as good and as light, the canonical rows are enough
pub canonical_around_holds : (good : List ℕ → Bool) (key : List ℕ → ℕ) {letters : List ℕ} → Sorted ◌<◌ letters → (n : ℕ) → CirculantOrder n
    → ((d : ℕ) → d < n → (r : List ℕ) → Memᴰ r (words letters n) → good r ≡ true → (good (moved_around n d r) ≡ true) × (key (moved_around n d r) ≤ key r))
    → lightest good key (words letters n) ≡ lightest (λ r. canonical_around n r && good r) key (words letters n)
unfolding canonical_around
canonical_around_holds good key {letters} ascends n o keeps =
    canonical_suffices good (canonical_around n) key (sorted_words ascends n) λ r i g e.
    let (l, over) = (mem_words letters n r).0 i in
    let (d, inside, less) = every_fails n (λ d. leb (get_or r (place_below n d) 0) (get_or r d 0)) e in
    let (g', k) = keeps d inside r i g in (
      moved_around n d r,
      (mem_words letters n (moved_around n d r)).1 (around_length n d r, λ a h. over a (around_from n d o inside r l a h)),
      g',
      k,
      around_earlier n d o inside r l (leb-false _ _ less),
    )
