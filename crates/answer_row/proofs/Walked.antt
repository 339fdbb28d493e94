-- What a walk answers, as lines. Assumes nothing.
use mathlib.Core.Path.{◌≡◌, refl, sym, ap, subst, ◌∙◌}
use mathlib.Core.Bool.{Bool, true, false, cond, ◌&&◌}
use mathlib.Core.List.{List, [], ◌∷◌}
use Prim.Native.Nat.{ℕ, zero, suc, ◌-◌, ◌^◌, ◌≤◌, min, zero-le}
use native.Mathlib.Omega.{arith}
use lib.Dec.{lit≤}
use lib.ListN.{length, get_or, take, replicate, length-replicate}
use lib.Seq.{take_at}
use Rattle.refusal.specs.Refusals.{number_of, fault, first_number, Answer, answer}
use Rattle.refusal.specs.declared.Refusal.{Refusal}
use Rattle.refusal.proofs.Faults.{number_not_zero, after_none, after_number, after_number_is}
use Rattle.field.specs.Polynomial.{Modulus, degree}
use Rattle.field.proofs.Calls.{elements_most}
use Rattle.lines.proofs.Tallies.{row_count_le}
use Rattle.rows.specs.declared.Family.TheVariants.{Hadamard}
use Rattle.rows.specs.Lightest.{Best, nothing, found, ascending}
use Rattle.rows.specs.Walks.{Walked, walk_of, lower_bound}
use Rattle.rows.proofs.Rows.{mem_words, mem_ascending}
use Rattle.rows.proofs.Walks.{rows_tried_holds, best_of_tried, tried_word}
use Rattle.cuts.proofs.Families.{family_most}
use Rattle.search.specs.Answer.{is_none}
use Rattle.search.proofs.Refusals.{BriefPassed, brief_passed, brief_parts}
use Rattle.walk.specs.Answer.{walk_faults, best_count, best_row, WalkFound, no_walk, walk_found, walk_answer}
use Rattle.walk.proofs.EightSmallest.{bound_most, bound_of_holds}
use Rattle.text.specs.Text.{SixDigits}
use Rattle.text.specs.Reading.{values_from}
use Rattle.text.proofs.Form.{six_none, six_more}
use Rattle.reply.specs.Due.{request_with, walk_lines, walk, due_to}
use Rattle.answer_row.proofs.Found.{small_entries, brief_kept}

-- ---- the numbers of a walk

-- the best row that is told has n entries, none of them above 255
pub row_told : (p n : ℕ) (values : List ℕ) (budget : ℕ) → Modulus p → (best : Best) → (walk_of p n values budget).best ≡ best
    → (length (best_row n best) ≡ n) × ((j : ℕ) → get_or (best_row n best) j 0 ≤ 255)
row_told p n values budget h nothing e = (length-replicate n 0, λ j. zeros n j)
  where
    zeros : (n j : ℕ) → get_or (replicate n 0) j 0 ≤ 255
    zeros zero j = zero-le
    zeros (suc n) zero = zero-le
    zeros (suc n) (suc j) = zeros n j
row_told p n values budget h (found row) e =
    let word = tried_word p n values budget row ((best_of_tried p n values budget row).0 e).is_row in
    let (long, over) = (mem_words (ascending (2 ^ degree p) values) n row).0 word in
    (long, small_entries 255 row (λ a m. omega (arith, ((mem_ascending (2 ^ degree p) values a).0 (over a m)).1, elements_most p h)))

count_told : (p n : ℕ) (best : Best) → Modulus p → n ≤ 8 → best_count p n best ≤ 999999
count_told p n nothing h u = lit≤ tt
count_told p n (found row) h u = omega (arith, row_count_le p n (λ j. get_or row j 0) h u)

finished_told : (b : Bool) → ◌≤◌ (cond b 1 0) 999999
finished_told true = lit≤ tt
finished_told false = lit≤ tt

-- each has at most six digits
pub six_walk : (p n : ℕ) (values : List ℕ) (budget : ℕ) → Modulus p → n ≤ 8 → budget ≤ 999999
    → let w = walk_of p n values budget in SixDigits (0 ∷ cond w.finished 1 0 ∷ w.rows_tried ∷ best_count p n w.best ∷ lower_bound p n values ∷ [])
six_walk p n values budget h u six =
    let w = walk_of p n values budget in
    six_more _ zero-le (six_more _ (finished_told w.finished) (six_more _ (omega (arith, rows_tried_holds p n values budget))
    (six_more _ (count_told p n w.best h u) (six_more _ (omega (arith, bound_of_holds p n values, bound_most p h n (ascending (2 ^ degree p) values) u)) six_none))))

-- ---- what is due, from what the walk says

-- what is due to the values that are kept is due to all
pub walk_kept : (p n budget : ℕ) (s : List ℕ) (count : ℕ) → due_to walk (request_with p n budget (values_from s 0 (min count 256))) ≡ due_to walk (request_with p n budget (values_from s 0 count))
unfolding due_to walk walk_faults
walk_kept p n budget s count =
    brief_kept Hadamard p n (λ values. let w = walk_of p n values budget in fault 9 (w.finished && is_none w.best) ∷ []) (λ values. walk_lines p n values (walk_of p n values budget)) s count

module _ (p n : ℕ) (values : List ℕ) (budget : ℕ) where
  abbrev w : Walked
  w = walk_of p n values budget

  says_number : (a : Answer WalkFound) → a ≡ walk_answer p n values budget → first_number (walk_faults p n values w) ≡ a.number
  unfolding walk_answer
  says_number a e = sym (ap (λ (x : Answer WalkFound). x.number) e ∙ after_number_is no_walk _ (walk_faults p n values w))

  -- it is refused
  pub walk_refused : (r : Refusal) → answer (number_of r) no_walk ≡ walk_answer p n values budget → answer (number_of r) [] ≡ due_to walk (request_with p n budget values)
  unfolding due_to walk
  walk_refused r e = after_number [] _ (walk_faults p n values w) (number_of r) (says_number _ e) (number_not_zero r)

  module _ (t : WalkFound) (e : answer 0 t ≡ walk_answer p n values budget) where
    none : first_number (walk_faults p n values w) ≡ 0
    none = says_number _ e

    pub walk_passed : BriefPassed Hadamard p n values
    unfolding walk_faults
    walk_passed = brief_passed Hadamard p n values (brief_parts Hadamard p n values _ none).0

    most : n ≤ 8
    most = family_most Hadamard n walk_passed.order

    told : answer 0 t ≡ answer 0 (walk_found p n values w)
    unfolding walk_answer
    told = e ∙ sym (after_none no_walk _ (walk_faults p n values w) none)

    -- its lines are those of the numbers told
    lines_told : (0 ∷ t.finished ∷ t.tried ∷ t.count ∷ t.bound ∷ []) ∷ take n t.row ∷ [] ≡ walk_lines p n values w
    unfolding walk_found walk_lines
    lines_told =
        ap (λ (x : Answer WalkFound). (0 ∷ x.value.finished ∷ x.value.tried ∷ x.value.count ∷ x.value.bound ∷ []) ∷ take n x.value.row ∷ []) told
        ∙ ap (λ (l : List ℕ). (0 ∷ cond w.finished 1 0 ∷ w.rows_tried ∷ best_count p n w.best ∷ lower_bound p n values ∷ []) ∷ l ∷ [])
        (take_at (best_row n w.best) (replicate (8 - n) 0) n (row_told p n values budget walk_passed.modulus w.best refl).0)

    pub walk_due : answer 0 ((0 ∷ t.finished ∷ t.tried ∷ t.count ∷ t.bound ∷ []) ∷ take n t.row ∷ []) ≡ due_to walk (request_with p n budget values)
    unfolding due_to walk
    walk_due = ap (answer 0) lines_told ∙ after_none [] _ (walk_faults p n values w) none

    pub six_told : budget ≤ 999999 → SixDigits (0 ∷ t.finished ∷ t.tried ∷ t.count ∷ t.bound ∷ [])
    unfolding walk_found
    six_told six =
        subst (λ (x : Answer WalkFound). SixDigits (0 ∷ x.value.finished ∷ x.value.tried ∷ x.value.count ∷ x.value.bound ∷ [])) (sym told)
        (six_walk p n values budget walk_passed.modulus most six)
