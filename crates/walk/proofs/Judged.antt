-- What the tests of one row say of it, and which row is kept after it. Assumes nothing.
use mathlib.Core.Path.{◌≡◌, refl, sym, ap, ap₂, ◌∙◌}
use mathlib.Core.Logic.{⊎_elim}
use mathlib.Core.Bool.{Bool, true, false, cond, not, ◌&&◌, ◌||◌, or-true, and-false, true≢false}
use mathlib.Core.List.{List, foldl}
use Prim.Native.Nat.{ℕ, ◌-◌, ◌≤◌, ◌<◌}
use native.Mathlib.Omega.{arith}
use lib.Dec.{eqb, leb, ltb}
use lib.ListN.{length, get_or, take}
use lib.Seq.{take-take, get_or-take}
use borrow.Author.Tests.{eqb-true, eq-eqb, ne_eqb, lt-ltb, le-ltb, le-leb, lt-leb}
use Rattle.std.specs.Prelude.{Option, Some}
use Rattle.field.specs.Polynomial.{◌⊕◌}
use Rattle.field.specs.Steps.{every_below}
use Rattle.matrix.proofs.Squares.{each_every, every_each}
use Rattle.rows.specs.Lightest.{Best, nothing, found, lighter, keep}
use Rattle.rows.specs.Shape.{is_good, hadamard_shape}
use Rattle.rows.specs.Keys.{sum_of, depth_of_row, key_of}
use Rattle.rows.proofs.Rows.{not_passed}
use Rattle.rows.proofs.Keys.{Less, LessOrSame, compare_pairs, key_lt, key_le}
use Rattle.cuts.specs.Steps.Hadamard.{is_next, planes_pass, last_letter}
use Rattle.cuts.specs.Steps.Cuts.{may_stand, passes, tried, Whole}
use Rattle.cuts.specs.Steps.Families.{hadamard_cuts}
use Rattle.cuts.proofs.Pruning.{stand_own, all_next, all_blocks, stands_front, tried_stands, tried_ends}
use Rattle.cuts.proofs.HadamardCuts.{order_least, order_most, planes_back, last_one}
use Rattle.lightest.specs.declared.Best.{Best as Kept}
use Rattle.lightest.specs.Steps.Prefix.{kept, best_as, is_heavy}
use Rattle.walk.specs.Steps.Judging.{Judging}

-- ---- the tests of a row

module _ {p n : ℕ} {row : List ℕ} (at : Judging p n row) where
  -- the last entry, of the row and of the array
  end_front : (hadamard_cuts p n).may_end (take (n - 1) (take n row)) (get_or (take n row) (n - 1) 0)
      ≡ (hadamard_cuts p n).may_end (take (n - 1) row) (get_or row (n - 1) 0)
  end_front =
      let some = order_least n at.order in
      ap₂ (hadamard_cuts p n).may_end (take-take (n - 1) n row (omega arith)) (get_or-take n row (n - 1) 0 (omega arith))

  -- a row that is tried is whole
  pub tried_whole : tried (hadamard_cuts p n) p n (take n row) ≡ true → Whole (hadamard_cuts p n) p n row
  tried_whole t =
      record {
        modulus = at.modulus;
        order = at.order;
        in_field = at.in_field;
        stands = λ d l.
            ap₂ (may_stand (hadamard_cuts p n)) (sym (take-take d n row (omega arith))) (sym (get_or-take n row d 0 l))
            ∙ tried_stands (hadamard_cuts p n) p n (take n row) t d l;
        ends = sym end_front ∙ tried_ends (hadamard_cuts p n) p n (take n row) t;
        rest = at.rest;
      }

  -- a whole row is tried where it is good
  pub whole_tried : Whole (hadamard_cuts p n) p n row → tried (hadamard_cuts p n) p n (take n row) ≡ is_good hadamard_shape p n (take n row)
  unfolding tried passes
  whole_tried w =
      ap (λ t. t && is_good hadamard_shape p n (take n row))
      (ap₂ ◌&&◌
      (each_every n (λ d. may_stand (hadamard_cuts p n) (take d (take n row)) (get_or (take n row) d 0)) (stands_front (hadamard_cuts p n) n row w.stands))
      (end_front ∙ w.ends))

  -- a row is not tried where a whole row cannot be
  not_tried : (Whole (hadamard_cuts p n) p n row → ⊥) → false ≡ tried (hadamard_cuts p n) p n (take n row)
  not_tried h = sym (not_passed (tried (hadamard_cuts p n) p n (take n row)) (λ t. h (tried_whole t)))

  -- the last entry is not the last letter
  pub not_last : (a : ℕ) → a ≡ last_letter (take (n - 1) row) → (a ≡ get_or row (n - 1) 0 → ⊥) → false ≡ tried (hadamard_cuts p n) p n (take n row)
  not_last a is e = not_tried (λ w. e (is ∙ sym (eqb-true _ _ w.ends)))

  module _ (eight : length row ≡ 8) where
    fits : n ≤ length row
    fits = omega (arith, order_most n at.order)

    -- an entry does not come next
    pub not_next : every_below n (λ d. is_next (take d row) (get_or row d 0)) ≡ false → false ≡ tried (hadamard_cuts p n) p n (take n row)
    not_next e =
        not_tried λ w.
        true≢false (sym (each_every n (λ d. is_next (take d row) (get_or row d 0)) (all_next (hadamard_cuts p n) (planes_back p n) n row fits w.stands)) ∙ e)

    -- a plane does not pass
    pub not_planes : every_below n (planes_pass p n row) ≡ false → false ≡ tried (hadamard_cuts p n) p n (take n row)
    not_planes e =
        not_tried λ w.
        true≢false (sym (each_every n (planes_pass p n row) (all_blocks (hadamard_cuts p n) (planes_back p n) n row fits w.stands)) ∙ e)

    -- where all of these pass, the row is whole
    pub all_whole : every_below n (λ d. is_next (take d row) (get_or row d 0)) ≡ true → every_below n (planes_pass p n row) ≡ true
        → (a : ℕ) → a ≡ last_letter (take (n - 1) row) → a ≡ get_or row (n - 1) 0 → Whole (hadamard_cuts p n) p n row
    all_whole next planes a is e =
        record {
          modulus = at.modulus;
          order = at.order;
          in_field = at.in_field;
          stands = λ d l.
              stand_own (hadamard_cuts p n) (planes_back p n) row d (omega (arith, fits))
              ∙ ap₂ ◌&&◌ (every_each n (λ d. is_next (take d row) (get_or row d 0)) next d l) (every_each n (planes_pass p n row) planes d l);
          ends = eq-eqb _ _ (sym e ∙ is);
          rest = at.rest;
        }

    -- its exclusive or is 1
    pub whole_one : Whole (hadamard_cuts p n) p n row → foldl ◌⊕◌ 0 (take n row) ≡ 1
    whole_one w = last_one row n (order_least n at.order) fits w.ends

-- ---- the row kept

-- the test of two pairs: it passes where the first is less or the same, and fails where the second is less
abbrev not_less : ℕ → ℕ → ℕ → ℕ → Bool
not_less a d b e = ltb a b || (eqb a b && leb d e)

pairs_pass_holds : (a d b e : ℕ) → LessOrSame a d b e → not_less a d b e ≡ true
pairs_pass_holds a d b e h =
    ⊎_elim (λ (l : a < b). rw (lt-ltb a b l) refl)
    (λ (q : (a ≡ b) × (d ≤ e)). rw (eq-eqb a b q.0, le-leb d e q.1) (or-true (ltb a b))) h

pairs_fail : (a d b e : ℕ) → Less b e a d → not_less a d b e ≡ false
pairs_fail a d b e h =
    ⊎_elim (λ (l : b < a). rw (le-ltb a b (omega arith), ne_eqb a b (λ q. omega arith)) refl)
    (λ (q : (b ≡ a) × (e < d)). rw (le-ltb a b (omega (arith, q.0)), lt-leb d e q.1) (and-false (eqb a b))) h

-- a row is lighter than the row kept exactly where the test of its sum and its depth fails
lighter_exactly : (p n : ℕ) (best : Best) (r : List ℕ) → lighter (key_of p n) best r ≡ not (is_heavy (kept p n best) (sum_of p n r) (depth_of_row p n r))
unfolding lighter is_heavy kept
lighter_exactly p n nothing r = refl
lighter_exactly p n (found b) r =
    let s = sum_of p n r in
    let d = depth_of_row p n r in
    let u = sum_of p n b in
    let e = depth_of_row p n b in
    ⊎_elim (λ (l : Less s d u e). lt-ltb _ _ (key_lt p n r b l) ∙ ap not (sym (pairs_fail u e s d l)))
    (λ (l : LessOrSame u e s d). le-ltb _ _ (key_le p n b r l) ∙ ap not (sym (pairs_pass_holds u e s d l))) (compare_pairs s d u e)

module _ (good : List ℕ → Bool) (p n : ℕ) (b : Option Kept) (holds : b ≡ kept p n (best_as n b)) (r : List ℕ) where
  -- the row kept after r
  abbrev kept_after : Best
  kept_after = keep good (key_of p n) (best_as n b) r

  -- r is not good
  pub keeps_bad : good r ≡ false → b ≡ kept p n kept_after
  unfolding keep
  keeps_bad e = holds ∙ ap (λ t. kept p n (cond (t && lighter (key_of p n) (best_as n b) r) (found r) (best_as n b))) (sym e)

  module _ (t : good r ≡ true) (new : Kept) (is : Some new ≡ kept p n (found r)) where
    -- it is lighter where the test fails
    lighter_own : lighter (key_of p n) (best_as n b) r ≡ not (is_heavy b new.count new.depth)
    unfolding kept
    lighter_own =
        let count : sum_of p n r ≡ new.count = cc in
        let depth : depth_of_row p n r ≡ new.depth = cc in
        lighter_exactly p n (best_as n b) r
        ∙ ap (λ (x : Option Kept). not (is_heavy x (sum_of p n r) (depth_of_row p n r))) (sym holds)
        ∙ ap₂ (λ (s d : ℕ). not (is_heavy b s d)) count depth

    keep_own : kept_after ≡ cond (not (is_heavy b new.count new.depth)) (found r) (best_as n b)
    unfolding keep
    keep_own = ap₂ (λ u v. cond (u && v) (found r) (best_as n b)) t lighter_own

    -- it is heavier than the row kept, or as heavy and not shallower
    pub keeps_heavy : is_heavy b new.count new.depth ≡ true → b ≡ kept p n kept_after
    keeps_heavy e = holds ∙ ap (kept p n) (sym (keep_own ∙ ap (λ u. cond (not u) (found r) (best_as n b)) e))

    -- it is lighter, or as heavy and shallower
    pub keeps_light : is_heavy b new.count new.depth ≡ false → Some new ≡ kept p n kept_after
    keeps_light e = is ∙ ap (kept p n) (sym (keep_own ∙ ap (λ u. cond (not u) (found r) (best_as n b)) e))
