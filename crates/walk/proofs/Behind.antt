-- The list of all rows of different letters: the code's first row is its first, and the row that the code finds behind a row is the next of the list.
-- Assumes nothing.
use mathlib.Core.Path.{◌≡◌, refl, sym, ap, ◌∙◌}
use mathlib.Core.Logic.{◌↔◌}
use mathlib.Core.List.Memᴰ
use mathlib.Core.List.{List, [], ◌∷◌, Memᴰ}
use Prim.Native.Nat.{ℕ, zero, suc, ◌≤◌, ◌<◌}
use native.Mathlib.Decide.{dec_lt}
use native.Mathlib.Omega.{arith}
use lib.ListN.{length, get_or, replicate, get_or-eq_default}
use Rattle.rows.specs.Lightest.{Earlier}
use Rattle.rows.proofs.Rows.{Sorted, get_d_mem, mem_at}
use Rattle.rows.proofs.Arrangements.{mem_arranged, repeated_exactly, sorted_arranged, sorted_first, sorted_next, sorted_last, few_arranged}
use Rattle.walk.specs.Steps.Successors.{row_behind, first_row}
use Rattle.walk.specs.Steps.Positions.{rows_of}
use Rattle.walk.proofs.Successors.{Arranged, Behind, one_behind, none_behind, behind, first_arranged, first_least, first_none}

-- an entry of a list, whatever stands for one that is not there
pub get_d_inside : {A : Type 0} (l : List A) (i : ℕ) (d e : A) → i < length l → get_or l i d ≡ get_or l i e
get_d_inside [] i d e h = absurd (omega arith)
get_d_inside (x ∷ l) zero d e h = refl
get_d_inside (x ∷ l) (suc i) d e h = get_d_inside l i d e (omega arith)

-- the rows of the list are those of different letters
pub mem_rows_of : (letters : List ℕ) (n : ℕ) (r : List ℕ) → Memᴰ r (rows_of letters n) ↔ Arranged letters n r
unfolding rows_of
mem_rows_of letters n r = (
  λ m.
      let (l, over, different) = (mem_arranged letters n r).0 m in
      record {
        entries = l;
        over = λ i h. over (get_or r i 0) (get_d_mem r i 0 (omega arith));
        different = λ i j h k. (repeated_exactly r).0 different i j (omega arith) (omega arith);
      },
  λ a. (mem_arranged letters n r).1 (
    a.entries,
    λ x m. let (i, h, e) = mem_at r x m in Memᴰ.cast (sym e) (a.over i (omega (arith, a.entries))),
    (repeated_exactly r).1 (λ i j h k. a.different i j (omega (arith, a.entries)) (omega (arith, a.entries))),
  ),
)

module _ {letters : List ℕ} (ascends : Sorted ◌<◌ letters) (positive : (a : ℕ) → Memᴰ a letters → 0 < a) (n : ℕ) where
  abbrev zeros : List ℕ
  zeros = replicate n 0

  sorted_rows_of : Sorted Earlier (rows_of letters n)
  unfolding rows_of
  sorted_rows_of = sorted_arranged ascends n

  -- the row behind row t is row t + 1, all zeros behind the last
  pub row_behind_holds : (t : ℕ) → t < length (rows_of letters n) → row_behind letters n (get_or (rows_of letters n) t (replicate n 0)) ≡ get_or (rows_of letters n) (suc t) (replicate n 0)
  row_behind_holds t h = go (row_behind letters n row) (behind ascends positive ((mem_rows_of letters n row).0 (get_d_mem (rows_of letters n) t zeros h)))
    where
      row : List ℕ
      row = get_or (rows_of letters n) t zeros

      here : get_or (rows_of letters n) t [] ≡ row
      here = get_d_inside (rows_of letters n) t [] zeros h

      go : (s : List ℕ) → Behind letters n row s → s ≡ get_or (rows_of letters n) (suc t) zeros
      go s (one_behind b) =
          let (l, e) = sorted_next sorted_rows_of t row h here s ((mem_rows_of letters n s).1 b.arranged) b.later (λ x m. b.between x ((mem_rows_of letters n x).0 m)) in
          sym e ∙ get_d_inside (rows_of letters n) (suc t) [] zeros l
      go s (none_behind e none) =
          let l = sorted_last sorted_rows_of t row h here (λ x m. none x ((mem_rows_of letters n x).0 m)) in
          e ∙ sym (get_or-eq_default (rows_of letters n) zeros {n = suc t} (omega arith))

  -- there is no row where there are fewer letters than places, and else there is one
  pub rows_none : length letters < n → rows_of letters n ≡ []
  rows_none h = unfold rows_of in few_arranged letters n h

  rows_first : n ≤ length letters → (0 < length (rows_of letters n)) × (get_or (rows_of letters n) 0 [] ≡ first_row letters n)
  rows_first enough =
      sorted_first sorted_rows_of (first_row letters n) ((mem_rows_of letters n _).1 (first_arranged ascends positive n enough)) (λ x m. first_least ascends positive n enough x ((mem_rows_of letters n x).0 m))

  pub rows_some : n ≤ length letters → 0 < length (rows_of letters n)
  rows_some enough = (rows_first enough).0

  -- the first row is row 0, all zeros where there is none
  pub row_first : first_row letters n ≡ get_or (rows_of letters n) 0 (replicate n 0)
  row_first = elim (dec_lt (length letters) n) [
    | yes h ↦
        (first_none ascends positive n h).0
        ∙ sym (ap (λ (l : List (List ℕ)). get_or l 0 zeros) (rows_none h))
    | no h ↦
        let (l, e) = rows_first (omega arith) in
        sym e ∙ get_d_inside (rows_of letters n) 0 [] zeros l
  ]
