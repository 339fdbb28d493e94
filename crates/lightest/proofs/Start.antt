-- The start of the walk: the letters are the candidates, ascending, and what the walk keeps at the end is the lightest row.
-- Assumes nothing.
use mathlib.Core.Path.{◌≡◌, refl, sym, ap, subst, ◌∙◌}
use mathlib.Core.Bool.{false, cond}
use mathlib.Core.List.Memᴰ
use mathlib.Core.List.{List, [], ◌++◌, Memᴰ}
use Prim.Native.Nat.{ℕ, ◌+◌, ◌-◌, ◌≤◌, ◌<◌, ◌^◌}
use native.Mathlib.Omega.{arith}
use lib.ListN.{length, get_or, take, drop, replicate, length-replicate, replicate-append-replicate, get_or-append}
use lib.Seq.{drop_at, length-take-le}
use Rattle.std.specs.Prelude.{Option, Some, None}
use Rattle.algebra.specs.Matrix.{words}
use Rattle.algebra.proofs.Words.{tabulate_cong}
use Rattle.algebra.proofs.Symmetry.{same_bool}
use Rattle.field.specs.Polynomial.{Modulus, degree, xor_count}
use Rattle.field.proofs.Calls.{not_too_large, elements_most}
use Rattle.lines.specs.Numbers.{WordsInField}
use Rattle.lines.specs.Counts.{total, element_count}
use Rattle.rows.specs.Lightest.{Best, nothing, found, keep_all, lightest, member, ascending}
use Rattle.rows.specs.Shape.{Shape, is_good}
use Rattle.rows.specs.Keys.{key_of, lightest_row}
use Rattle.cuts.specs.Steps.Cuts.{Cuts, tried}
use Rattle.rows.specs.Steps.Walk.{completions}
use Rattle.rows.proofs.Rows.{member_mem, mem_ascending, mem_rows, sorted_rows, get_d_mem}
use Rattle.rows.proofs.Lightest.{row_sorted}
use Rattle.rows.proofs.Walk.{extend_all}
use Rattle.lightest.specs.declared.Best.{Best as Kept}
use Rattle.rows.specs.Candidates.{some_too_large, some_bad}
use Rattle.lightest.specs.Steps.Prefix.{kept, best_as, Long, Brief, Reached}
use Rattle.lightest.specs.Steps.Letters.{count_in, count_table, known, least_count}
use Rattle.lightest.proofs.LetterCounts.{member_fits, member_nonzero, known_ascending}

-- the places behind the row
zeros : (n : ℕ) → n ≤ 8 → drop n (replicate {A = ℕ} 8 0) ≡ replicate (8 - n) 0
zeros n most =
    let all : n + (8 - n) ≡ 8 = omega arith in
    ap (drop n) (sym (replicate-append-replicate n (8 - n) 0 ∙ ap (λ (m : ℕ). replicate m 0) all))
    ∙ drop_at (replicate n 0) (replicate (8 - n) 0) n (length-replicate n 0)

module _ (p n : ℕ) (h : Modulus p) (cs : List ℕ) (fits : some_too_large p cs ≡ false) (fair : some_bad cs ≡ false) where
  -- the candidates, ascending
  abbrev letters : List ℕ
  letters = ascending (2 ^ degree p) cs

  -- they have the same members
  member_same : (a : ℕ) → member a cs ≡ member a letters
  member_same a =
      same_bool (member a cs) (member a letters)
      (λ e. let m = (member_mem a cs).0 e in (member_mem a letters).1 ((mem_ascending (2 ^ degree p) cs a).1 (m, not_too_large p a (member_fits p cs fits a m))))
      (λ e. (member_mem a cs).1 ((mem_ascending (2 ^ degree p) cs a).0 ((member_mem a letters).0 e)).0)

  -- and the same table
  pub table_same : count_table p cs ≡ count_table p letters
  unfolding count_table count_in
  table_same = tabulate_cong 256 _ _ (λ a l. ap (λ t. cond t (xor_count p a) 255) (member_same a))

  module _ (counts : List ℕ) (list : List ℕ) (bound least : ℕ) (table : counts ≡ count_table p cs) (size : bound ≡ 2 ^ degree p) (are : list ≡ known counts bound)
      (lowest : least ≡ least_count counts list) where
    letters_are : list ≡ letters
    letters_are =
        are
        ∙ ap (λ c. known c bound) table ∙ ap (known (count_table p cs)) size ∙ known_ascending p h cs (2 ^ degree p) (elements_most p h)

    -- what the search goes by
    pub start_brief : (cuts : Cuts) → cuts.Order n → n ≤ 8 → Brief cuts p n list counts least
    start_brief cuts order most =
        record {
          modulus = h;
          order = order;
          most = most;
          below = λ a m. ((mem_ascending (2 ^ degree p) cs a).0 (subst (Memᴰ a) letters_are m)).1;
          positive = λ a m. let some = member_nonzero cs fair a ((mem_ascending (2 ^ degree p) cs a).0 (subst (Memᴰ a) letters_are m)).0 in omega arith;
          table = table ∙ table_same ∙ ap (count_table p) (sym letters_are);
          lowest = lowest;
        }

    -- what is kept at the end, where the rows that are tried are enough
    pub start_answer : (cuts : Cuts) → lightest_row cuts.shape p n cs ≡ lightest (tried cuts p n) (key_of p n) (words letters n) → (b : Option Kept)
        → b ≡ kept p n (keep_all (tried cuts p n) (key_of p n) (best_as n None) (completions list (take 0 (replicate 8 0)) (n - 0)))
        → b ≡ kept p n (lightest_row cuts.shape p n cs)
    unfolding best_as
    start_answer cuts enough b k =
        k
        ∙ ap (kept p n)
        (ap (λ (m : ℕ). keep_all (tried cuts p n) (key_of p n) nothing (completions list [] m)) (omega arith)
        ∙ ap (λ l. keep_all (tried cuts p n) (key_of p n) nothing (completions l [] n)) letters_are
        ∙ extend_all (tried cuts p n) (key_of p n) letters n
        ∙ sym enough)

-- the search starts at the prefix without entries, and no row is kept
pub start_reached : (cuts : Cuts) (p n : ℕ) (list : List ℕ) → n ≤ 8 → Reached cuts p n list 0 (replicate 8 0) 0
unfolding element_count total
start_reached cuts p n list most =
    record { eight = refl; over = λ a m. absurd (Memᴰ.not-nil m); stands = λ d l. absurd (omega arith); counted = refl; rest = zeros n most }

pub none_kept : (p n : ℕ) → ◌≡◌ {A = Option Kept} None (kept p n (best_as n None))
unfolding best_as kept
none_kept p n = refl

pub none_long : (n : ℕ) → Long n (best_as n None)
unfolding best_as
none_long n r e = absurd (let z : ◌≡◌ {A = ℕ} 0 1 = cc in omega arith)

-- an array of eight entries holds n of them
pub best_long : (n : ℕ) (b : Kept) → length b.row ≡ 8 → n ≤ 8 → Long n (best_as n (Some b))
unfolding best_as
best_long n b eight most r e = let same : take n b.row ≡ r = cc in ap length (sym same) ∙ length-take-le n b.row (omega arith)

-- ---- the answer

-- the row of a search has n entries, each of them an element
module _ (shape : Shape) (p n : ℕ) (cs : List ℕ) where
  row_is : (r : List ℕ) → lightest_row shape p n cs ≡ found r → (length r ≡ n) × ((a : ℕ) → Memᴰ a r → a < 2 ^ degree p)
  unfolding lightest_row
  row_is r e =
      let (l, over) = (mem_rows (2 ^ degree p) cs n r).0 (row_sorted (is_good shape p n) (key_of p n) (sorted_rows (2 ^ degree p) cs n) r e).is_row in
      (l, λ a m. (over a m).1)

  pub row_long : Long n (lightest_row shape p n cs)
  row_long r e = (row_is r e).0

  -- so is the array of the row kept
  pub row_in_field : n ≤ 8 → (b : Kept) → Some b ≡ kept p n (lightest_row shape p n cs) → WordsInField p n b.row
  unfolding WordsInField
  row_in_field most b e j l = go (lightest_row shape p n cs) refl e
    where
      go : (best : Best) → lightest_row shape p n cs ≡ best → Some b ≡ kept p n best → get_or b.row j 0 < 2 ^ degree p
      go nothing q k = unfold kept in (absurd (let z : ◌≡◌ {A = ℕ} 0 1 = cc in omega arith))
      go (found r) q k =
          let (long, below) = row_is r q in
          let is : b.row ≡ r ++ replicate (8 - n) 0 = unfold kept in cc in
          rw (is, get_or-append r (replicate (8 - n) 0) 0 j (omega arith)) (below (get_or r j 0) (get_d_mem r j 0 (omega arith)))
