-- The tests of what a search is given, the first of them that tells, and the row kept as an answer.
-- Assumes nothing.
use mathlib.Core.Path.{◌≡◌, refl, sym, ap, ap₂, subst, ◌∙◌}
use mathlib.Core.Logic.{◌⊎◌, inl, inr}
use mathlib.Core.Bool.{Bool, true, false, cond, not, ◌||◌, or-false, true≢false}
use mathlib.Core.List.{List, [], ◌∷◌, ◌++◌}
use Prim.Native.Nat.{ℕ, suc, ◌+◌, ◌-◌, ◌≤◌, ◌<◌}
use native.Mathlib.Numerals.{add-one}
use native.Mathlib.Omega.{arith}
use lib.Dec.{eqb, ltb}
use lib.ListN.{length, get_or, take, drop, length-drop, drop_of_length-le}
use lib.Seq.{drop-cons, take_all}
use Rattle.std.specs.Prelude.{None, Some}
use Rattle.std.specs.List.{list_any}
use Rattle.std.proofs.lemmas.Option.{none-some, same_Some}
use Rattle.std.proofs.lemmas.Grind.{common_steps}
use borrow.Author.Tests.{eqb-true, ne_eqb, ltb-false}
use Rattle.refusal.specs.declared.Refusal.{Refusal}
use Rattle.refusal.specs.Refusals.{number_of, Fault, fault, first_number, Answer, answer, answer_after}
use Rattle.refusal.specs.declared.Refusal.TheVariants.{NoRow}
use Rattle.refusal.proofs.Faults.{numbered, first_later, first_passed, first_parts, after_taken, after_left, after_later, after_empty, after_number_is, refused_before}
use Rattle.refusal.proofs.Tests.{or_none}
use Rattle.field.specs.Polynomial.{Modulus}
use Rattle.field.specs.Faults.{is_too_large, polynomial_faults}
use Rattle.field.proofs.Calls.{modulus_number, modulus_parts}
use Rattle.rows.specs.declared.Family.{Family}
use Rattle.rows.specs.declared.Family.TheVariants.{Hadamard, Circulant}
use Rattle.rows.specs.Lightest.{Best, nothing, found, member}
use Rattle.cuts.specs.Steps.Families.{OrderOf}
use Rattle.lightest.specs.declared.Best.{Best as Kept}
use Rattle.rows.specs.Candidates.{some_too_large, some_repeated, some_bad}
use Rattle.search.specs.Answer.{is_wrong_search_order, is_wrong_search_count, is_wrong_circulant_order, is_wrong_circulant_count, is_wrong_order_for, is_wrong_count_for, brief_faults, is_none, RowFound, no_row, row_found}
use Rattle.lightest.specs.Steps.Prefix.{kept}

-- ---- a test of every value

-- what a loop over the values knows before value i: the test of all comes to the test of those from i on
module _ (all : List ℕ → Bool) (none : all [] ≡ false) (values : List ℕ) (i : ℕ) (before : all values ≡ all (drop i values)) where
  -- no value is left
  pub test_none : length values ≤ i → false ≡ all values
  test_none l = sym (before ∙ ap all (drop_of_length-le values l) ∙ none)

  module _ (t : Bool) (here : all (drop i values) ≡ (t || all (drop (suc i) values))) where
    -- value i passes
    pub test_found : t ≡ true → true ≡ all values
    test_found e = sym (before ∙ here ∙ ap (λ t. t || all (drop (suc i) values)) e)

    -- it does not
    pub test_next : t ≡ false → all values ≡ all (drop (i + 1) values)
    test_next e = rw add-one (before ∙ here ∙ ap (λ t. t || all (drop (suc i) values)) e)

-- the test of the values from i on is that of value i, or that of the values behind it
module _ (values : List ℕ) (i : ℕ) (l : i < length values) where
  pub large_here : (p : ℕ) → some_too_large p (drop i values) ≡ (is_too_large p (get_or values i 0) || some_too_large p (drop (suc i) values))
  unfolding some_too_large
  large_here p = rw (drop-cons values i 0 l)

  pub repeated_here : some_repeated (drop i values) ≡ (member (get_or values i 0) (drop (suc i) values) || some_repeated (drop (suc i) values))
  unfolding some_repeated
  repeated_here = rw (drop-cons values i 0 l)

-- whether a slice contains a value
same_either_way : (a b : ℕ) → eqb a b ≡ eqb b a
same_either_way a b = grind (arith, common_steps)

pub contains_member : (x : ℕ) (values : List ℕ) → list_any (λ y. eqb y x) values ≡ member x values
unfolding member
contains_member x [] = refl
contains_member x (y ∷ ys) = ap₂ ◌||◌ (same_either_way y x) (contains_member x ys)

-- the values behind value i, as a part of the slice
pub contains_rest : (values : List ℕ) (i : ℕ) {r : Bool} → r ≡ list_any (λ y. eqb y (get_or values i 0)) (take (length values - (i + 1)) (drop (i + 1) values))
    → r ≡ member (get_or values i 0) (drop (suc i) values)
contains_rest values i e =
    e
    ∙ contains_member (get_or values i 0) _
    ∙ ap (member (get_or values i 0)) (take_all (length values - (i + 1)) (drop (i + 1) values) (omega (arith, length-drop (i + 1) values)))
    ∙ ap (λ (m : ℕ). member (get_or values i 0) (drop m values)) (add-one i)

pub large_none : (p : ℕ) → some_too_large p [] ≡ false
unfolding some_too_large
large_none p = refl

pub repeated_none : some_repeated [] ≡ false
unfolding some_repeated
repeated_none = refl

-- ---- order and count

-- an order that is not wrong
pub order_of_holds : (n : ℕ) → is_wrong_search_order n ≡ false → (n ≡ 4) ⊎ (n ≡ 8)
unfolding is_wrong_search_order
order_of_holds n e = go (eqb n 4) (eqb n 8) refl refl e
  where
    go : (a b : Bool) → eqb n 4 ≡ a → eqb n 8 ≡ b → not (a || b) ≡ false → (n ≡ 4) ⊎ (n ≡ 8)
    go true b p q f = inl (eqb-true n 4 p)
    go false true p q f = inr (eqb-true n 8 q)
    go false false p q f = absurd (true≢false f)

pub circulant_order_of : (n : ℕ) → is_wrong_circulant_order n ≡ false → (2 ≤ n) × (n ≤ 8)
unfolding is_wrong_circulant_order
circulant_order_of n e = let (low, high) = or_none (ltb n 2) (ltb 8 n) e in (ltb-false n 2 low, ltb-false 8 n high)

-- by the family of its matrices
pub family_order : (family : Family) (n : ℕ) → is_wrong_order_for family n ≡ false → OrderOf family n
family_order Hadamard n e = order_of_holds n e
family_order Circulant n e = circulant_order_of n e

pub circulant_count_other : (count : ℕ) → (count ≡ 0 → ⊥) → ltb 8 count ≡ is_wrong_circulant_count count
unfolding is_wrong_circulant_count
circulant_count_other count e = rw (ne_eqb count 0 e)

pub count_four : (n count : ℕ) → (count ≡ 0 → ⊥) → n ≡ 4 → ltb 255 count ≡ is_wrong_search_count n count
unfolding is_wrong_search_count
count_four n count e f = rw (ne_eqb count 0 e, f, or-false)

pub count_eight : (n count : ℕ) → (count ≡ 0 → ⊥) → n ≡ 8 → ltb 16 count ≡ is_wrong_search_count n count
unfolding is_wrong_search_count
count_eight n count e f = rw (ne_eqb count 0 e, f)

-- ---- candidates

pub bad_zero : (values : List ℕ) → member 0 values ≡ true → true ≡ some_bad values
unfolding some_bad
bad_zero values e = rw e refl

pub bad_repeated : (values : List ℕ) (r : Bool) → member 0 values ≡ false → r ≡ some_repeated values → r ≡ some_bad values
unfolding some_bad
bad_repeated values r e f = rw e f

-- ---- the row kept as an answer

module _ (p n : ℕ) where
  -- what is answered where nothing is refused before 9
  abbrev pub nine : Best → Answer RowFound
  nine best = answer_after no_row (fault 9 (is_none best) ∷ []) (row_found p n best)

  -- a row was found
  pub says_found : (best : Best) (b : Kept) → Some b ≡ kept p n best → answer 0 (record { sum = b.count; row = b.row }) ≡ nine best
  unfolding kept
  says_found nothing b e = absurd (none-some b (sym e))
  says_found (found row) b e =
      ap (λ (k : Kept). answer 0 (record { sum = k.count; row = k.row })) (same_Some b _ e)
      ∙ after_empty no_row _
      ∙ after_left no_row _ 9 false [] refl

  -- none was
  pub says_none : (best : Best) → None ≡ kept p n best → answer 9 no_row ≡ nine best
  unfolding kept
  says_none nothing e = after_taken no_row no_row NoRow true [] refl
  says_none (found row) e = absurd (none-some _ e)

-- ---- a brief

-- a reason that the polynomial is refused for is the brief's
pub brief_before : (family : Family) (p n : ℕ) (values : List ℕ) (r : Refusal) → number_of r ≡ first_number (polynomial_faults p) → number_of r ≡ first_number (brief_faults family p n values)
brief_before family p n values r e =
    ap (λ (a : Answer ℕ). a.number) (refused_before 0 0 (polynomial_faults p) _ r e) ∙ after_number_is 0 0 (brief_faults family p n values)

-- where the polynomial passes, the first of the tests that fails tells
pub brief_first : (family : Family) (p n : ℕ) (values : List ℕ) {q : ℕ} → Modulus q → q ≡ p → {o c l b : Bool}
    → is_wrong_order_for family n ≡ o → is_wrong_count_for family n (length values) ≡ c → some_too_large q values ≡ l → some_bad values ≡ b
    → cond o 5 (cond c 6 (cond l 7 (cond b 8 0))) ≡ first_number (brief_faults family p n values)
unfolding first_number polynomial_faults numbered
brief_first family p n values h e order count large bad =
    rw (sym order, sym count, sym large, sym bad, e)
    (sym (first_later (polynomial_faults p) (fault 5 (is_wrong_order_for family n) ∷ fault 6 (is_wrong_count_for family n (length values)) ∷ fault 7 (some_too_large p values) ∷ fault 8 (some_bad values) ∷ []) refl (modulus_number p (subst Modulus e h))))

-- ---- a brief that is not refused

-- what holds where none of 3 to 8 applies
pub record BriefPassed (family : Family) (p n : ℕ) (values : List ℕ) : Type 0 where
  pub modulus : Modulus p
  pub order : OrderOf family n
  pub large : some_too_large p values ≡ false
  pub bad : some_bad values ≡ false

module _ (family : Family) (p n : ℕ) (values : List ℕ) where
  brief_numbered : numbered (brief_faults family p n values) ≡ true
  unfolding polynomial_faults numbered
  brief_numbered = refl

  module _ (none : first_number (brief_faults family p n values) ≡ 0) where
    pub brief_passed : BriefPassed family p n values
    brief_passed =
        let (modulus, e₄) = modulus_parts p _ none in
        let (order, e₅) = first_passed 5 0 (is_wrong_order_for family n) _ (λ h. omega arith) e₄ in
        let (count, e₆) = first_passed 6 0 (is_wrong_count_for family n (length values)) _ (λ h. omega arith) e₅ in
        let (large, e₇) = first_passed 7 0 (some_too_large p values) _ (λ h. omega arith) e₆ in
        let (bad, e₈) = first_passed 8 0 (some_bad values) [] (λ h. omega arith) e₇ in
        record { modulus = modulus; order = family_order family n order; large = large; bad = bad }

    -- then what is looked at behind decides
    pub brief_behind : {A : Type 0} (empty value : A) (more : List Fault) → answer_after empty more value ≡ answer_after empty (brief_faults family p n values ++ more) value
    brief_behind empty value more = after_later empty value (brief_faults family p n values) more brief_numbered none

  -- and a list that passes with more behind passes both
  pub brief_parts : (more : List Fault) → first_number (brief_faults family p n values ++ more) ≡ 0 → (first_number (brief_faults family p n values) ≡ 0) × (first_number more ≡ 0)
  brief_parts more e = first_parts (brief_faults family p n values) more brief_numbered e
