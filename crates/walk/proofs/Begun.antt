-- The walk of a brief: its letters, its start, and what it answers where it stands. Assumes nothing.
use mathlib.Core.Path.{◌≡◌, refl, sym, ap, subst, ◌∙◌}
use mathlib.Core.Bool.{false}
use mathlib.Core.List.{List, Memᴰ}
use Prim.Native.Nat.{ℕ, suc, ◌+◌, ◌-◌, ◌^◌, ◌≤◌, ◌<◌, min}
use native.Mathlib.Omega.{arith}
use native.Mathlib.Decide.{dec_lt}
use lib.ListN.{length, get_or, take}
use Rattle.algebra.specs.Matrix.{tabulate}
use Rattle.algebra.proofs.Words.{length_tabulate, tabulate_mem}
use Rattle.field.specs.Polynomial.{Modulus, degree}
use Rattle.field.proofs.Calls.{elements_most}
use Rattle.lines.specs.Numbers.{WordsInField}
use Rattle.rows.specs.Lightest.{lightest, keep_all}
use Rattle.rows.specs.Candidates.{some_too_large, some_bad}
use Rattle.rows.specs.Walks.{lower_bound}
use Rattle.rows.specs.Steps.Orders.{SearchOrder}
use Rattle.rows.proofs.Rows.{mem_ascending, get_d_mem}
use Rattle.std.specs.Prelude.{Option, None}
use Rattle.lightest.specs.declared.letters.Letters.{Letters}
use Rattle.lightest.specs.Steps.Letters.{count_table, known, listed}
use Rattle.lightest.specs.Steps.Prefix.{kept}
use Rattle.lightest.proofs.LetterCounts.{known_ascending, listed_take, member_nonzero}
use Rattle.lightest.proofs.Start.{table_same}
use Rattle.walk.specs.declared.Position.{Position}
use Rattle.walk.specs.declared.Walk.{Walk}
use Rattle.walk.specs.Steps.Successors.{Ascend, FirstIs}
use Rattle.walk.specs.Steps.Bound.{bound_of}
use Rattle.walk.specs.Steps.Positions.{rows_of, next_after, position_at, Lettered, IsWalk, walk_at}
use Rattle.walk.proofs.Successors.{places_le, sorted_different}
use Rattle.walk.proofs.Ranks.{sorted_ascend}
use Rattle.walk.proofs.EightSmallest.{bound_of_holds}
use Rattle.walk.proofs.Positions.{letters_own, letters_sorted, letters_below, letters_bytes, as_position, first_is, position_tried, position_stands, same_position}

-- ---- the letters of a brief

-- those that the table of the candidates' counts knows
pub brief_lettered : (p n : ℕ) → Modulus p → SearchOrder n → (cs : List ℕ) → some_too_large p cs ≡ false → some_bad cs ≡ false
    → Lettered p n (known (count_table p cs) (2 ^ degree p)) (count_table p cs)
brief_lettered p n h o cs fits fair =
    let same = known_ascending p h cs (2 ^ degree p) (elements_most p h) in
    record {
      modulus = h;
      order = o;
      table = table_same p n h cs fits fair ∙ ap (count_table p) (sym same);
      listed = refl;
      positive = λ a m. let some = member_nonzero cs fair a ((mem_ascending (2 ^ degree p) cs a).0 (subst (Memᴰ a) same m)).0 in omega arith;
    }

-- the list that the code makes of the table
pub letters_taken : (counts : List ℕ) (r : Letters) (p bound : ℕ) → bound ≡ 2 ^ degree p → r ≡ listed (known counts bound) → take r.count r.list ≡ known counts (2 ^ degree p)
letters_taken counts r p bound e is = listed_take r (known counts bound) is ∙ ap (known counts) e

module _ {p n : ℕ} {letters counts : List ℕ} (b : Lettered p n letters counts) where
  pub letters_ascend : Ascend letters
  letters_ascend = sorted_ascend (letters_sorted b)

  -- at most 255, since 0 is none of them
  pub letters_few : length letters ≤ 255
  letters_few =
      let most = places_le letters (tabulate 255 suc) (length letters) (λ i l. byte i l) (sorted_different (letters_sorted b)) in
      omega (arith, most, length_tabulate 255 suc)
    where
      byte : (i : ℕ) → i < length letters → Memᴰ (get_or letters i 0) (tabulate 255 suc)
      byte i l =
          let m = get_d_mem letters i 0 l in
          let some = b.positive (get_or letters i 0) m in
          let less = letters_bytes b (get_or letters i 0) m in
          let is : suc (get_or letters i 0 - 1) ≡ get_or letters i 0 = omega arith in
          subst (λ (a : ℕ). Memᴰ a (tabulate 255 suc)) is (tabulate_mem 255 suc (get_or letters i 0 - 1) (omega arith))

  pub letters_words : WordsInField p (length letters) letters
  unfolding WordsInField
  letters_words j l = letters_below b (get_or letters j 0) (get_d_mem letters j 0 l)

  -- the bound over the letters
  pub letters_bound : bound_of p n letters ≡ lower_bound p n letters
  letters_bound = ap (bound_of p n) (letters_own b) ∙ sym (bound_of_holds p n letters)

  -- before the first row
  pub first_position : (row : Option (List ℕ)) → FirstIs letters n row → as_position b row 0 None ≡ position_at p n letters 0
  unfolding position_at kept lightest keep_all
  first_position row first =
      let none : 0 ≡ min 0 (length (rows_of letters n)) = omega arith in
      ap (λ (r : Option (List ℕ)). as_position b r 0 None) (first_is b row first)
      ∙ ap (λ (k : ℕ). as_position b (next_after n (rows_of letters n) 0) k None) none

-- ---- the struct of a walk

abbrev as_walk : ℕ → ℕ → List ℕ → Position → Walk
as_walk p n counts position = record { polynomial = p; order = n; counts = counts; position = position }

-- the walk of a brief starts before its first row
pub walk_starts : {p n : ℕ} {table : List ℕ} → Lettered p n (known table (2 ^ degree p)) table → (counts l : List ℕ) (row : Option (List ℕ)) → counts ≡ table
    → l ≡ known table (2 ^ degree p) → FirstIs l n row → as_walk p n counts (record { row = row; tried = 0; best = None }) ≡ walk_at p n table 0
unfolding walk_at
walk_starts {p} {n} {table} b counts l row e d f =
    ap (λ (c : List ℕ). as_walk p n c (record { row = row; tried = 0; best = None })) e
    ∙ ap (as_walk p n table) (first_position b row (subst (λ (l : List ℕ). FirstIs l n row) d f))

-- the walk after t rows is a walk
pub walk_at_holds : {p n : ℕ} {table : List ℕ} → Lettered p n (known table (2 ^ degree p)) table → (walk : Walk) (t : ℕ) → walk ≡ walk_at p n table t → IsWalk walk
unfolding walk_at
walk_at_holds {p} {n} {table} b walk t e =
    subst IsWalk (sym e) (record { lettered = b; standing = position_stands b (position_at p n (known table (2 ^ degree p)) t) t refl })

-- the walk goes on
pub walk_runs : (p n : ℕ) (counts l : List ℕ) → l ≡ known counts (2 ^ degree p) → (t : ℕ) (position : Position) → position ≡ position_at p n l t → as_walk p n counts position ≡ walk_at p n counts t
unfolding walk_at
walk_runs p n counts l e t position d = ap (as_walk p n counts) (d ∙ ap (λ (l : List ℕ). position_at p n l t) e)

-- from the start on it stands after the rows of the budget
pub walk_begun : {p n : ℕ} {table : List ℕ} → Lettered p n (known table (2 ^ degree p)) table → (first : Walk) → first ≡ walk_at p n table 0 → (budget : ℕ) (walk : Walk)
    → walk ≡ walk_at first.polynomial first.order first.counts (first.position.tried + budget) → walk ≡ walk_at p n table budget
walk_begun {p} {n} {table} b first e budget walk d =
    d ∙ ap (λ (x : Walk). walk_at x.polynomial x.order x.counts (x.position.tried + budget)) e ∙ start ∙ ap (walk_at p n table) (omega arith)
  where
    start : walk_at (walk_at p n table 0).polynomial (walk_at p n table 0).order (walk_at p n table 0).counts ((walk_at p n table 0).position.tried + budget)
        ≡ walk_at p n table (min 0 (length (rows_of (known table (2 ^ degree p)) n)) + budget)
    start = unfold walk_at position_at in refl

-- to go on from where a walk stands is to have the summed budget: the walk is fixed by its brief and the rows tried
pub walk_goes_on : {p n : ℕ} {table : List ℕ} → Lettered p n (known table (2 ^ degree p)) table → (t c : ℕ)
    → walk_at p n table ((walk_at p n table t).position.tried + c) ≡ walk_at p n table (t + c)
unfolding walk_at
walk_goes_on {p} {n} {table} b t c =
    let letters = known table (2 ^ degree p) in
    let tried = position_tried b t in
    ap (as_walk p n table)
    (elim (dec_lt (length (rows_of letters n)) t) [
      | yes h ↦ same_position b ((position_at p n letters t).tried + c) (t + c) (omega arith) (omega arith)
      | no h ↦ let same : (position_at p n letters t).tried + c ≡ t + c = omega arith in ap (position_at p n letters) same
    ])
