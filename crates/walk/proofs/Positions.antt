-- Where a walk stands: one step leads from the position after t rows to that after t + 1, and behind the last row nothing moves.
-- Assumes nothing.
use mathlib.Core.Path.{◌≡◌, refl, sym, ap, subst, ◌∙◌}
use mathlib.Core.Bool.{true≢false}
use mathlib.Core.List.{List, [], ◌∷◌, Memᴰ}
use Prim.Native.Nat.{ℕ, zero, suc, ◌+◌, ◌-◌, ◌^◌, ◌≤◌, ◌<◌, min}
use native.Mathlib.Omega.{arith}
use native.Mathlib.Decide.{dec_lt}
use lib.ListN.{length, get_or, take, drop, replicate, length-replicate, get_or-replicate, get_or-append, get_or-eq_default}
use lib.Seq.{take_at, drop_at, take_all}
use Rattle.std.specs.Prelude.{Option, None, Some, slice_get}
use Rattle.std.specs.Option.{option_map, unwrap_or, is_some}
use Rattle.std.proofs.lemmas.Option.{slice_get-get_or}
use Rattle.algebra.specs.Matrix.{words}
use Rattle.field.specs.Polynomial.{degree}
use Rattle.field.proofs.Calls.{elements_most}
use Rattle.lines.specs.Numbers.{WordsInField}
use Rattle.lines.specs.Steps.Figures.{CountsOf}
use Rattle.rows.specs.Lightest.{Best, ascending, rows_over, Earlier, lightest, keep}
use Rattle.rows.specs.Shape.{is_good, hadamard_shape}
use Rattle.rows.specs.Keys.{key_of}
use Rattle.rows.specs.Walks.{differing, arrangements}
use Rattle.rows.proofs.Rows.{Sorted, sorted_ascending, mem_ascending, get_d_mem, member_mem}
use Rattle.rows.proofs.Lightest.{row_sorted}
use Rattle.rows.proofs.Arrangements.{sorted_arrangements, sorted_take, take_mem, arranged_fits}
use Rattle.rows.proofs.Walks.{tried_keeps}
use Rattle.cuts.specs.Steps.Cuts.{tried}
use Rattle.cuts.specs.Steps.Families.{hadamard_cuts}
use Rattle.cuts.proofs.HadamardCuts.{order_most, order_least}
use Rattle.cuts.proofs.WalkCuts.{tried_walked}
use Rattle.lightest.specs.Steps.Letters.{known}
use Rattle.lightest.specs.Steps.Prefix.{kept, best_as, Long}
use Rattle.lightest.proofs.LetterCounts.{known_ascending, table_count}
use Rattle.lightest.proofs.Prefixes.{best_is, kept_own}
use Rattle.lightest.specs.declared.Best.{Best as Kept}
use Rattle.walk.specs.declared.Position.{Position}
use Rattle.walk.specs.Steps.Successors.{Ranked, rank_table, row_behind, BehindIs, FirstIs, eight}
use Rattle.walk.specs.Steps.Judging.{Judging}
use Rattle.walk.specs.Steps.Positions.{rows_of, next_after, position_at, Lettered, Tabled, StandsAt}
use Rattle.walk.proofs.Successors.{Arranged}
use Rattle.walk.proofs.Ranks.{sorted_ascend}
use Rattle.walk.proofs.Behind.{mem_rows_of, row_behind_holds, get_d_inside, row_first, rows_none, rows_some}

-- there is nothing behind the end of a list
past : {A : Type 0} (l : List A) (i : ℕ) → length l ≤ i → slice_get l i ≡ None
past [] i h = refl
past (x ∷ l) zero h = absurd (omega arith)
past (x ∷ l) (suc i) h = past l i (omega arith)

module _ {p n : ℕ} {letters counts : List ℕ} (b : Lettered p n letters counts) where
  -- ---- the letters

  pub letters_own : letters ≡ ascending (2 ^ degree p) letters
  letters_own = b.listed ∙ ap (λ (c : List ℕ). known c (2 ^ degree p)) b.table ∙ known_ascending p b.modulus letters (2 ^ degree p) (elements_most p b.modulus)

  pub letters_sorted : Sorted ◌<◌ letters
  letters_sorted = subst (λ (l : List ℕ). Sorted ◌<◌ l) (sym letters_own) (sorted_ascending (2 ^ degree p) letters)

  pub letters_below : (a : ℕ) → Memᴰ a letters → a < 2 ^ degree p
  letters_below a m = ((mem_ascending (2 ^ degree p) letters a).0 (subst (Memᴰ a) letters_own m)).1

  pub letters_bytes : (a : ℕ) → Memᴰ a letters → a < 256
  letters_bytes a m = omega (arith, letters_below a m, elements_most p b.modulus)

  pub letters_ranked : (ranks : List ℕ) → ranks ≡ rank_table letters → Ranked letters ranks
  letters_ranked ranks e = record { ascend = sorted_ascend letters_sorted; table = e }

  -- ---- the rows

  pub rows_are : rows_of letters n ≡ arrangements p n letters
  unfolding rows_of arrangements rows_over
  rows_are = ap (λ (l : List ℕ). differing (words l n)) letters_own

  -- fewer than 2^64
  pub rows_fit : length (rows_of letters n) < 2 ^ 64
  unfolding rows_of
  rows_fit = arranged_fits letters_sorted (λ a m. (b.positive a m, letters_bytes a m)) n (order_most n b.order)

  most : n ≤ 8
  most = order_most n b.order

  -- row t: its entries are letters
  abbrev pub row_at : ℕ → List ℕ
  row_at t = get_or (rows_of letters n) t (replicate n 0)

  pub row_arranged : (t : ℕ) → t < length (rows_of letters n) → Arranged letters n (get_or (rows_of letters n) t (replicate n 0))
  row_arranged t h = (mem_rows_of letters n _).0 (get_d_mem (rows_of letters n) t (replicate n 0) h)

  module _ (t : ℕ) (h : t < length (rows_of letters n)) (row : List ℕ) (is : row ≡ eight n (get_or (rows_of letters n) t (replicate n 0))) where
    pub row_take : take n row ≡ get_or (rows_of letters n) t (replicate n 0)
    row_take = ap (take n) is ∙ take_at (row_at t) (replicate (8 - n) 0) n (row_arranged t h).entries

    pub row_rest : drop n row ≡ replicate (8 - n) 0
    row_rest = ap (drop n) is ∙ drop_at (row_at t) (replicate (8 - n) 0) n (row_arranged t h).entries

    row_entry : (j : ℕ) → j < n → get_or row j 0 ≡ get_or (get_or (rows_of letters n) t (replicate n 0)) j 0
    row_entry j l = ap (λ (r : List ℕ). get_or r j 0) is ∙ get_or-append (row_at t) (replicate (8 - n) 0) 0 j (omega (arith, (row_arranged t h).entries))

    pub row_letter : (j : ℕ) → j < n → Memᴰ (get_or row j 0) letters
    row_letter j l = subst (λ (a : ℕ). Memᴰ a letters) (sym (row_entry j l)) ((row_arranged t h).over j l)

    pub row_words : WordsInField p n row
    unfolding WordsInField
    row_words j l = letters_below (get_or row j 0) (row_letter j l)

    pub row_counts : CountsOf p n counts row
    unfolding CountsOf
    row_counts j l =
        ap (λ (c : List ℕ). get_or c (get_or row j 0) 0) b.table
        ∙ table_count p letters (get_or row j 0) (letters_bytes _ (row_letter j l)) ((member_mem (get_or row j 0) letters).1 (row_letter j l))

    -- its first entry is not 0
    pub row_nonzero : get_or row 0 0 ≡ 0 → ⊥
    row_nonzero e = omega (arith, b.positive _ (row_letter 0 (order_least n b.order)))

  -- ---- the array of the next row

  pub next_there : (t : ℕ) → t < length (rows_of letters n) → next_after n (rows_of letters n) t ≡ Some (eight n (get_or (rows_of letters n) t (replicate n 0)))
  next_there t h = ap (option_map (eight n)) (slice_get-get_or (rows_of letters n) t (replicate n 0) h)

  pub next_none : (t : ℕ) → length (rows_of letters n) ≤ t → next_after n (rows_of letters n) t ≡ None
  next_none t h = ap (option_map (eight n)) (past (rows_of letters n) t h)

  zeros_at : (i : ℕ) → i < n → get_or (eight n (replicate n 0)) i 0 ≡ 0
  zeros_at i l =
      get_or-append (replicate n 0) (replicate (8 - n) 0) 0 i (omega (arith, length-replicate {A = ℕ} n 0)) ∙ get_or-replicate {A = ℕ} n i 0 0 l

  -- what is found behind row t
  pub next_is : (t : ℕ) → t < length (rows_of letters n) → (row : List ℕ) → row ≡ eight n (get_or (rows_of letters n) t (replicate n 0))
      → (found : Option (List ℕ)) → BehindIs letters n (take n row) found → found ≡ next_after n (rows_of letters n) (suc t)
  next_is t h row is found e = go found e
    where
      same : row_behind letters n (take n row) ≡ row_at (suc t)
      same = ap (row_behind letters n) (row_take t h row is) ∙ row_behind_holds letters_sorted b.positive n t h

      go : (found : Option (List ℕ)) → BehindIs letters n (take n row) found → found ≡ next_after n (rows_of letters n) (suc t)
      go None e = sym (next_none (suc t) (elim (dec_lt (suc t) (length (rows_of letters n))) [
        | yes l ↦
            absurd
            (row_nonzero (suc t) l (eight n (row_at (suc t))) refl
            (ap (λ (r : List ℕ). get_or (eight n r) 0 0) (sym same ∙ e) ∙ zeros_at 0 (order_least n b.order)))
        | no l ↦ omega arith
      ]))
      go (Some r) (e, (i, l, some)) = elim (dec_lt (suc t) (length (rows_of letters n))) [
        | yes k ↦ ap Some (e ∙ ap (eight n) same) ∙ sym (next_there (suc t) k)
        | no k ↦
            absurd
            (let zero = ap (λ (q : List ℕ). get_or q i 0) (e ∙ ap (eight n) (same ∙ get_or-eq_default (rows_of letters n) (replicate n 0) {n = suc t} (omega arith))) ∙ zeros_at i l in
            omega arith)
      ]

  -- and before the first row
  pub first_is : (found : Option (List ℕ)) → FirstIs letters n found → found ≡ next_after n (rows_of letters n) 0
  first_is None h = sym (next_none 0 (omega (arith, ap length (rows_none letters_sorted b.positive n h))))
  first_is (Some r) (enough, e) =
      ap Some (e ∙ ap (eight n) (row_first letters_sorted b.positive n)) ∙ sym (next_there 0 (rows_some letters_sorted b.positive n enough))

  -- a next row is there: so are rows that are not tried
  pub some_left : (t : ℕ) (row : List ℕ) → Some row ≡ next_after n (rows_of letters n) t → t < length (rows_of letters n)
  some_left t row e = elim (dec_lt t (length (rows_of letters n))) [
    | yes h ↦ h
    | no h ↦ absurd (true≢false (ap is_some (e ∙ next_none t (omega arith))))
  ]

  -- none is there: all are tried
  pub none_left : (t : ℕ) → next_after n (rows_of letters n) t ≡ None → length (rows_of letters n) ≤ t
  none_left t e = elim (dec_lt t (length (rows_of letters n))) [
    | yes h ↦ absurd (true≢false (ap is_some (sym (next_there t h) ∙ e)))
    | no h ↦ omega arith
  ]

  -- ---- the best row

  abbrev pub best_after : ℕ → Best
  best_after t = lightest (is_good hadamard_shape p n) (key_of p n) (take t (rows_of letters n))

  -- a best row has n entries
  pub best_long : (t : ℕ) → Long n (best_after t)
  best_long t r e =
      ((mem_rows_of letters n r).0
      (take_mem t (rows_of letters n) r (row_sorted (is_good hadamard_shape p n) (key_of p n) (sorted_take t rows_sorted) r e).is_row)).entries
    where
      rows_sorted : Sorted Earlier (rows_of letters n)
      rows_sorted = subst (λ (l : List (List ℕ)). Sorted Earlier l) (sym rows_are) (sorted_arrangements p n letters)

  -- the canonical rows are enough, after every row
  best_tried : (t : ℕ) → best_after t ≡ lightest (tried (hadamard_cuts p n) p n) (key_of p n) (take t (rows_of letters n))
  best_tried t =
      subst (λ (l : List (List ℕ)). lightest (is_good hadamard_shape p n) (key_of p n) (take t l) ≡ lightest (tried (hadamard_cuts p n) p n) (key_of p n) (take t l))
      (sym rows_are) (tried_walked p n b.modulus b.order letters t)

  -- one row more
  pub best_more : (t : ℕ) → t < length (rows_of letters n)
      → keep (tried (hadamard_cuts p n) p n) (key_of p n) (best_after t) (get_or (rows_of letters n) t (replicate n 0)) ≡ best_after (suc t)
  best_more t h =
      ap (λ (x : Best). keep (tried (hadamard_cuts p n) p n) (key_of p n) x (get_or (rows_of letters n) t (replicate n 0))) (best_tried t)
      ∙ ap (keep (tried (hadamard_cuts p n) p n) (key_of p n) _) (get_d_inside (rows_of letters n) t (replicate n 0) [] h)
      ∙ sym (tried_keeps (tried (hadamard_cuts p n) p n) (key_of p n) (rows_of letters n) t h)
      ∙ sym (best_tried (suc t))

  -- ---- the position

  abbrev pub as_position : Option (List ℕ) → ℕ → Option Kept → Position
  as_position row tried best = record { row = row; tried = tried; best = best }

  -- after one row more
  pub next_position : (t : ℕ) → t < length (rows_of letters n) → (row : List ℕ) → row ≡ eight n (row_at t) → (best : Option Kept) → best ≡ kept p n (best_after t)
      → (behind : Option (List ℕ)) → BehindIs letters n (take n row) behind → (held : Option Kept)
      → held ≡ kept p n (keep (tried (hadamard_cuts p n) p n) (key_of p n) (best_as n best) (take n row))
      → as_position behind (t + 1) held ≡ position_at p n letters (suc t)
  unfolding position_at
  next_position t h row is best holds behind e held d =
      let more : t + 1 ≡ min (suc t) (length (rows_of letters n)) = omega arith in
      let new : held ≡ kept p n (best_after (suc t)) =
      d
      ∙ ap (λ (x : Best). kept p n (keep (tried (hadamard_cuts p n) p n) (key_of p n) x (take n row))) (best_is p n best (best_after t) (best_long t) holds)
      ∙ ap (λ (r : List ℕ). kept p n (keep (tried (hadamard_cuts p n) p n) (key_of p n) (best_after t) r)) (row_take t h row is)
      ∙ ap (kept p n) (best_more t h) in
      ap (λ (r : Option (List ℕ)). as_position r (t + 1) held) (next_is t h row is behind e)
      ∙ ap (λ (k : ℕ). as_position (next_after n (rows_of letters n) (suc t)) k held) more
      ∙ ap (λ (x : Option Kept). as_position (next_after n (rows_of letters n) (suc t)) (min (suc t) (length (rows_of letters n))) x) new

  -- behind the last row it does not move
  pub same_position : (t u : ℕ) → length (rows_of letters n) ≤ t → length (rows_of letters n) ≤ u → position_at p n letters t ≡ position_at p n letters u
  same_position t u h k = end_position t h ∙ sym (end_position u k)
    where
      end_position : (t : ℕ) → length (rows_of letters n) ≤ t → position_at p n letters t ≡ position_at p n letters (length (rows_of letters n))
      end_position t h = unfold position_at in (
          ap (λ (r : Option (List ℕ)). as_position r (min t (length (rows_of letters n))) (kept p n (best_after t)))
          (next_none t h ∙ sym (next_none (length (rows_of letters n)) (omega arith)))
          ∙ ap (λ (k : ℕ). as_position (next_after n (rows_of letters n) (length (rows_of letters n))) k (kept p n (best_after t))) (omega arith)
          ∙ ap (λ (l : List (List ℕ)). as_position (next_after n (rows_of letters n) (length (rows_of letters n))) (min (length (rows_of letters n)) (length (rows_of letters n)))
          (kept p n (lightest (is_good hadamard_shape p n) (key_of p n) l)))
          (take_all t (rows_of letters n) h ∙ sym (take_all (length (rows_of letters n)) (rows_of letters n) (omega arith)))
          )

  -- the rows tried, of a position
  pub position_tried : (t : ℕ) → (position_at p n letters t).tried ≡ min t (length (rows_of letters n))
  unfolding position_at
  position_tried t = refl

  pub position_row : (t : ℕ) → (position_at p n letters t).row ≡ next_after n (rows_of letters n) t
  unfolding position_at
  position_row t = refl

  pub position_best : (t : ℕ) → (position_at p n letters t).best ≡ kept p n (best_after t)
  unfolding position_at
  position_best t = refl

-- ---- one step

-- what a step requires of the functions that it calls, at a position with a next row
module _ {p ones n : ℕ} {letters counts ranks : List ℕ} (tables : Tabled p ones n letters counts ranks)
    (at : Position) (stands : StandsAt p n letters at) (row : List ℕ) (is : at.row ≡ Some row) where
  stands_next : Some row ≡ next_after n (rows_of letters n) at.tried
  unfolding StandsAt
  stands_next = sym is ∙ ap (λ (x : Position). x.row) stands.1 ∙ position_row tables.lettered at.tried

  pub left : at.tried < length (rows_of letters n)
  left = some_left tables.lettered at.tried row stands_next

  pub stands_row : row ≡ eight n (get_or (rows_of letters n) at.tried (replicate n 0))
  stands_row = ap (λ (o : Option (List ℕ)). unwrap_or o []) (stands_next ∙ next_there tables.lettered at.tried left)

  stands_best : at.best ≡ kept p n (best_after tables.lettered at.tried)
  unfolding StandsAt
  stands_best = ap (λ (x : Position). x.best) stands.1 ∙ position_best tables.lettered at.tried

  pub step_judging : Judging p n row
  step_judging =
      record {
        modulus = tables.lettered.modulus;
        order = tables.lettered.order;
        in_field = row_words tables.lettered at.tried left row stands_row;
        rest = row_rest tables.lettered at.tried left row stands_row;
      }

  pub step_holds : at.best ≡ kept p n (best_as n at.best)
  step_holds = kept_own p n at.best (best_after tables.lettered at.tried) (best_long tables.lettered at.tried) stands_best

  pub step_ends : (behind : Option (List ℕ)) → BehindIs letters n (take n row) behind → (held : Option Kept)
      → held ≡ kept p n (keep (tried (hadamard_cuts p n) p n) (key_of p n) (best_as n at.best) (take n row))
      → as_position tables.lettered behind (at.tried + 1) held ≡ position_at p n letters (suc at.tried)
  step_ends = next_position tables.lettered at.tried left row stands_row at.best stands_best

-- ---- many steps

module _ {p n : ℕ} {letters counts : List ℕ} (b : Lettered p n letters counts) (here : Position) (t : ℕ) (is : here ≡ position_at p n letters t) where
  tried_is : here.tried ≡ min t (length (rows_of letters n))
  tried_is = ap (λ (x : Position). x.tried) is ∙ position_tried b t

  row_is : here.row ≡ next_after n (rows_of letters n) t
  row_is = ap (λ (x : Position). x.row) is ∙ position_row b t

  -- it stands after the rows that it has tried
  pub position_stands : StandsAt p n letters here
  unfolding StandsAt
  position_stands =
      let e = tried_is in (
        omega arith,
        elim (dec_lt t (length (rows_of letters n))) [
          | yes h ↦ let same : t ≡ here.tried = omega arith in is ∙ ap (position_at p n letters) same
          | no h ↦ is ∙ same_position b t here.tried (omega arith) (omega arith)
        ],
      )

  -- a next row is there: the rows tried are t
  pub position_left : (row : List ℕ) → here.row ≡ Some row → here.tried ≡ t
  position_left row e = let left = some_left b t row (sym e ∙ row_is) in let same = tried_is in omega arith

  -- no next row is there: it does not move
  pub position_end : (u : ℕ) → t ≤ u → here.row ≡ None → here ≡ position_at p n letters u
  position_end u l e = let over = none_left b t (sym row_is ∙ e) in is ∙ same_position b t u over (omega arith)
