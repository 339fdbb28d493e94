-- What a walk answers where it stands. Assumes nothing.
use mathlib.Core.Path.{◌≡◌, refl, sym, ap, ap₂, subst, ◌∙◌}
use mathlib.Core.Bool.{Bool, true, false, not, not-not, cond, ◌&&◌}
use mathlib.Core.List.{List, [], ◌∷◌, ◌++◌}
use Prim.Native.Nat.{ℕ, ◌+◌, ◌-◌, ◌^◌, ◌≤◌, min}
use native.Mathlib.Nat.{add-zero}
use native.Mathlib.Decide.{dec_lt}
use native.Mathlib.Omega.{arith}
use lib.ListN.{length, get_or, take, replicate}
use lib.Seq.{get_or-take}
use borrow.Author.Tests.{le-leb, lt-leb}
use Rattle.std.specs.Prelude.{Option, None, Some}
use Rattle.std.specs.Option.{is_some}
use Rattle.refusal.specs.Refusals.{fault, answer_after}
use Rattle.algebra.specs.Matrix.{words}
use Rattle.field.specs.Polynomial.{Modulus, degree}
use Rattle.field.proofs.Calls.{elements_most}
use Rattle.lines.specs.Counts.{addition_count, row_count}
use Rattle.lines.proofs.Tallies.{element_count_le, addition_count_cong}
use Rattle.rows.specs.Lightest.{Best, ascending, rows_over}
use Rattle.rows.specs.Shape.{is_good, hadamard_shape}
use Rattle.rows.specs.Keys.{sum_of, key_of}
use Rattle.rows.specs.Walks.{differing, arrangements, Walked, walk_over, walk_of, lower_bound}
use Rattle.rows.proofs.Walks.{rows_tried_holds, walk_on}
use Rattle.lightest.specs.declared.Best.{Best as Kept}
use Rattle.lightest.specs.Steps.Prefix.{kept, best_as}
use Rattle.lightest.specs.Steps.Letters.{count_table, known}
use Rattle.lightest.proofs.LetterCounts.{known_ascending}
use Rattle.lightest.proofs.Prefixes.{best_is}
use Rattle.search.specs.Answer.{is_none}
use Rattle.walk.specs.declared.Position.{Position}
use Rattle.walk.specs.declared.Walk.{Walk}
use Rattle.walk.specs.Answer.{best_count, best_row, WalkFound, no_walk, walk_found}
use Rattle.walk.specs.Steps.Bound.{bound_of}
use Rattle.walk.specs.Steps.Positions.{rows_of, position_at, Lettered, StandsAt, letters_of, walked_of, IsWalk, walk_at}
use Rattle.walk.proofs.Filling.{eight_zeros}
use Rattle.walk.proofs.Positions.{best_long, next_there, next_none, position_row, position_best}
use Rattle.walk.proofs.EightSmallest.{bound_of_holds}
use Rattle.walk.proofs.Begun.{letters_bound}

-- the numbers of an answer
abbrev pub as_found : ℕ → ℕ → ℕ → ℕ → List ℕ → WalkFound
as_found finished tried count bound row = record { finished = finished; tried = tried; count = count; bound = bound; row = row }

-- ---- the count of the best row

module _ (p n : ℕ) (best : Option Kept) (holds : best ≡ kept p n (best_as n best)) (b : Kept) (is : best ≡ Some b) where
  own : ◌≡◌ {A = Option Kept} (Some b) (kept p n (best_as n (Some b)))
  own = subst (λ (x : Option Kept). x ≡ kept p n (best_as n x)) is holds

  sum_kept : b.count ≡ sum_of p n (take n b.row)
  unfolding kept best_as
  sum_kept = let e = own in cc

  pub kept_small : Modulus p → n ≤ 8 → b.count ≤ 448
  unfolding sum_of
  kept_small h l = omega (arith, sum_kept, element_count_le p n (λ j. get_or (take n b.row) j 0) h)

  pub count_kept : (additions : ℕ) → additions ≡ addition_count p n (λ j. get_or b.row j 0) → b.count + additions ≡ best_count p n (best_as n best)
  unfolding sum_of row_count best_as
  count_kept additions a =
      rw is (ap₂ ◌+◌ sum_kept (a ∙ sym (addition_count_cong p n (λ j. get_or (take n b.row) j 0) (λ j. get_or b.row j 0) (λ j l. get_or-take n b.row j 0 l))))

  -- the array of the best row
  pub row_kept : b.row ≡ best_row n (best_as n best) ++ replicate (8 - n) 0
  unfolding kept best_as
  row_kept = let e = own in rw is cc

-- no row is kept
module _ (p n : ℕ) (best : Option Kept) (is : best ≡ None) where
  pub count_none : 999999 ≡ best_count p n (best_as n best)
  unfolding best_as
  count_none = rw is refl

  pub row_none : n ≤ 8 → replicate 8 0 ≡ best_row n (best_as n best) ++ replicate (8 - n) 0
  unfolding best_as
  row_none l = rw is (eight_zeros n l)

-- ---- where a walk stands

-- what the library's test for nothing tells
pub none_tells : {A : Type 0} (o : Option A) (none : Bool) → is_some o ≡ not none → none ≡ not (is_some o)
none_tells o true e = sym (ap not e)
none_tells o false e = sym (ap not e)

module _ (walk : Walk) (w : IsWalk walk) where
  abbrev at : Position
  at = walk.position

  stands_best : at.best ≡ kept walk.polynomial walk.order (walked_of walk).best
  unfolding StandsAt walk_over
  stands_best = ap (λ (x : Position). x.best) w.standing.1 ∙ position_best w.lettered at.tried

  pub best_told : best_as walk.order at.best ≡ (walked_of walk).best
  unfolding walk_over
  best_told = best_is walk.polynomial walk.order at.best _ (best_long w.lettered at.tried) stands_best

  pub best_holds : at.best ≡ kept walk.polynomial walk.order (best_as walk.order at.best)
  best_holds = stands_best ∙ ap (kept walk.polynomial walk.order) (sym best_told)

  pub tried_told : at.tried ≡ (walked_of walk).rows_tried
  unfolding StandsAt walk_over
  tried_told = let l = w.standing.0 in omega arith

  -- finished exactly if no row is left
  pub finished_told : not (is_some at.row) ≡ (walked_of walk).finished
  unfolding StandsAt walk_over
  finished_told =
      let next = ap (λ (x : Position). x.row) w.standing.1 ∙ position_row w.lettered at.tried in
      elim (dec_lt at.tried (length (rows_of (letters_of walk) walk.order))) [
        | yes h ↦
            ap (λ (o : Option (List ℕ)). not (is_some o)) (next ∙ next_there w.lettered at.tried h)
            ∙ sym (lt-leb (length (rows_of (letters_of walk) walk.order)) at.tried h)
        | no h ↦
            ap (λ (o : Option (List ℕ)). not (is_some o)) (next ∙ next_none w.lettered at.tried (omega arith))
            ∙ sym (le-leb (length (rows_of (letters_of walk) walk.order)) at.tried (omega arith))
      ]

  -- no row is kept exactly if there is no best row
  none_told : not (is_some at.best) ≡ is_none (walked_of walk).best
  none_told = go at.best ∙ ap is_none best_told
    where
      go : (best : Option Kept) → not (is_some best) ≡ is_none (best_as walk.order best)
      go None = unfold best_as in refl
      go (Some b) = unfold best_as in refl

  -- and a row is kept exactly if there is one
  pub some_told : is_some at.best ≡ not (is_none (walked_of walk).best)
  some_told = sym (not-not (is_some at.best)) ∙ ap not none_told

  pub ends_told : (not (is_some at.row) && not (is_some at.best)) ≡ ((walked_of walk).finished && is_none (walked_of walk).best)
  ends_told = ap₂ ◌&&◌ finished_told none_told

  -- the numbers of its answer
  pub numbers_told : (finished : Bool) (count bound : ℕ) (row : List ℕ) → finished ≡ not (is_some at.row)
      → count ≡ best_count walk.polynomial walk.order (best_as walk.order at.best) → bound ≡ bound_of walk.polynomial walk.order (letters_of walk)
      → row ≡ best_row walk.order (best_as walk.order at.best) ++ replicate (8 - walk.order) 0
      → as_found (cond finished 1 0) at.tried count bound row ≡ walk_found walk.polynomial walk.order (letters_of walk) (walked_of walk)
  unfolding walk_found
  numbers_told finished count bound row f c b r =
      ap (λ (t : Bool). as_found (cond t 1 0) at.tried count bound row) (f ∙ finished_told)
      ∙ ap (λ (k : ℕ). as_found (cond (walked_of walk).finished 1 0) k count bound row) tried_told
      ∙ ap (λ (k : ℕ). as_found (cond (walked_of walk).finished 1 0) (walked_of walk).rows_tried k bound row) (c ∙ ap (best_count walk.polynomial walk.order) best_told)
      ∙ ap (λ (k : ℕ). as_found (cond (walked_of walk).finished 1 0) (walked_of walk).rows_tried (best_count walk.polynomial walk.order (walked_of walk).best) k row)
      (b ∙ letters_bound w.lettered)
      ∙ ap (as_found (cond (walked_of walk).finished 1 0) (walked_of walk).rows_tried (best_count walk.polynomial walk.order (walked_of walk).best) (lower_bound walk.polynomial walk.order (letters_of walk)))
      (r ∙ ap (λ (x : Best). best_row walk.order x ++ replicate (8 - walk.order) 0) best_told)

-- ---- the walk of a brief

module _ (p n : ℕ) (cs : List ℕ) (h : Modulus p) (b : Lettered p n (known (count_table p cs) (2 ^ degree p)) (count_table p cs)) (budget : ℕ) (walk : Walk)
    (is : walk ≡ walk_at p n (count_table p cs) budget) where
  abbrev letters : List ℕ
  letters = known (count_table p cs) (2 ^ degree p)

  letters_are : letters ≡ ascending (2 ^ degree p) cs
  letters_are = known_ascending p h cs (2 ^ degree p) (elements_most p h)

  -- it stands where the definition says
  abbrev walked_to : List ℕ → ℕ → Walked
  walked_to l t = walk_over (is_good hadamard_shape p n) (key_of p n) (rows_of l n) t

  pub walked_is : walked_of walk ≡ walk_of p n cs budget
  walked_is =
      ap walked_of is
      ∙ start
      ∙ ap (λ (l : List ℕ). walked_to l (min budget (length (rows_of l n)))) letters_are
      ∙ same
    where
      start : walked_of (walk_at p n (count_table p cs) budget) ≡ walked_to letters (min budget (length (rows_of letters n)))
      start = unfold walk_at position_at in refl

      same : walked_to (ascending (2 ^ degree p) cs) (min budget (length (rows_of (ascending (2 ^ degree p) cs) n))) ≡ walk_of p n cs budget
      same =
          unfold walk_of rows_of arrangements rows_over in
          (ap (walk_over (is_good hadamard_shape p n) (key_of p n) (differing (words (ascending (2 ^ degree p) cs) n)))
          (sym (rows_tried_holds p n cs budget) ∙ sym (add-zero (walk_of p n cs budget).rows_tried))
          ∙ sym (walk_on p n cs budget 0) ∙ ap (walk_of p n cs) (add-zero budget))

  bound_is : lower_bound p n letters ≡ lower_bound p n cs
  bound_is = sym (letters_bound b) ∙ ap (bound_of p n) letters_are ∙ sym (bound_of_holds p n cs)

  -- what is told of it is what is told of the brief
  pub brief_told : answer_after no_walk (fault 9 ((walked_of walk).finished && is_none (walked_of walk).best) ∷ [])
      (walk_found walk.polynomial walk.order (letters_of walk) (walked_of walk))
      ≡ answer_after no_walk (fault 9 ((walk_of p n cs budget).finished && is_none (walk_of p n cs budget).best) ∷ []) (walk_found p n cs (walk_of p n cs budget))
  brief_told =
      ap (λ (w : Walked). answer_after no_walk (fault 9 (w.finished && is_none w.best) ∷ []) (walk_found walk.polynomial walk.order (letters_of walk) w)) walked_is
      ∙ ap (answer_after no_walk (fault 9 ((walk_of p n cs budget).finished && is_none (walk_of p n cs budget).best) ∷ [])) (own ∙ bounded)
    where
      own : walk_found walk.polynomial walk.order (letters_of walk) (walk_of p n cs budget) ≡ walk_found p n letters (walk_of p n cs budget)
      own = ap (λ (x : Walk). walk_found x.polynomial x.order (letters_of x) (walk_of p n cs budget)) is ∙ (unfold walk_at in refl)

      bounded : walk_found p n letters (walk_of p n cs budget) ≡ walk_found p n cs (walk_of p n cs budget)
      bounded = unfold walk_found in (rw bound_is refl)
