-- The reference lines of document 01 hold of the definitions, all together. The searches are computed on the twin of crate search,
-- all else from the definitions.
-- Assumes nothing.
use mathlib.Core.Path.{◌≡◌, refl, sym, ap, ◌∙◌}
use mathlib.Core.Bool.{Bool, true, false, ◌&&◌}
use mathlib.Core.Logic.{◌≢◌}
use mathlib.Core.List.{List, [], ◌∷◌, ◌++◌}
use Prim.Native.Nat.{ℕ, ◌≤◌}
use native.Mathlib.Omega.{arith}
use lib.Dec.{leb, eqb, lit≤}
use Prim.Native.String.{String}
use lib.ListN.{length, get_or}
use borrow.Author.Tests.{leb-true, eqb-true}
use Rattle.refusal.specs.Refusals.{fault, first_number, Answer, answer, unless_refused, answer_after}
use Rattle.refusal.proofs.Faults.{after_left, after_number_is}
use Rattle.algebra.specs.Matrix.{tabulate, up_to, before, words, sum, apply, skip, without, circulant, det, weight, activity, least_activity, branch_number, is_mds, same_words, gives_back, is_involution}
use Rattle.algebra.proofs.Involution.{and_left, and_right}
use lib.Count.{ones, ones_in}
use Rattle.field.specs.Polynomial.{◌⊕◌, ◌⊗◌, digits_within, over_digits, degree, reduce, rem, product, ones_in_columns, xor_count, some_below, Irreducible, is_irreducible, Modulus, first_below}
use Rattle.field.specs.Doubling.{xtime, doubled, sum_after}
use Rattle.field.proofs.Irreducibility.{irreducible_to}
use Rattle.field.proofs.Calls.{modulus_passed}
use Rattle.field.specs.Table.{polynomials, passing}
use Rattle.field.specs.Faults.{is_outside, is_too_large, polynomial_faults, inverse_faults}
use Rattle.lines.specs.Numbers.{elements}
use Rattle.lines.specs.Counts.{total, element_count, addition_count, row_count, matrix_count}
use Rattle.lines.specs.Depths.{bit, ones_in_line, output_ones, depth_of, greatest, line_depth}
use Rattle.checks.specs.Answers.{check_of, is_wrong_order, is_wrong_halved_order, some_word_too_large, some_entry_too_large, determinant_faults, matrix_faults, halved_faults}
use Rattle.gates.specs.Gates.{is_input, inputs_of, outputs, joining, gates_of, carrier_of, gates_from, carriers_from, gates_of_matrix, carriers_of_matrix}
use Rattle.gates.specs.Wires.{wires, carried_bit, evaluate}
use Rattle.rows.specs.Lightest.{member, among, ascending, Best, nothing, found}
use Rattle.rows.specs.Walks.{Walked, walk_of, inserted, sorted, sum_of_all, lower_bound}
use Rattle.rows.specs.declared.Family.{Family}
use Rattle.rows.specs.declared.Family.TheVariants.{Hadamard, Circulant}
use Rattle.rows.specs.Shape.{shape_of}
use Rattle.rows.specs.Keys.{sum_of, depth_of_row, lightest_row}
use Rattle.rows.proofs.Executable.{two_eighty_three, over_nineteen, by_depth_rows, around_rows, walked_rows, fifteen_walked}
use Rattle.rows.proofs.Rows.{not_passed}
use Rattle.rows.specs.Candidates.{some_too_large, some_repeated, some_bad}
use Rattle.search.specs.Answer.{is_wrong_search_order, is_wrong_search_count, is_wrong_circulant_order, is_wrong_circulant_count, search_faults, is_wrong_order_for, is_wrong_count_for, is_none}
use Rattle.walk.specs.Answer.{walk_faults}
use Rattle.text.specs.Reading.{number_at, value_at, values_from, numbers_from, kind_of, polynomial_of, order_of, count_of, further_of, budget_of, line_one_length, values_of, rewritten, same_bytes, in_form}
use Rattle.text.specs.Text.{column_byte, column, columns, line_text, line_end, value_text, further_numbers, request_text, answer_text, SixDigits}
use Rattle.text.proofs.Lengths.{length_request, further_le}
use Rattle.text.proofs.Form.{six_none, six_more}
use Rattle.text.proofs.Requests.{ReadAs, written_read}
use Rattle.reply.specs.Due.{Kind, request, request_with, search_number, row_lines, best_lines, search, check_faults, entries_of, check_lines, check, survey_faults, survey_line, survey_lines, survey, gate_lines, gates, walk_lines, walk, kinds, kind_among, due_to, kind_in, request_in, faults_of, due}
use Rattle.reply.specs.Answered.{text_of}
use Rattle.reply.proofs.DueFrom.{kind_search, kind_walk, text_refused}
use Rattle.answer.proofs.EveryKind.{form_not_one}
use Rattle.answer.specs.Reference.{ReferenceLine, texts, power, ReferenceSays, AllReferenceSay, all_none, ◌and◌, element_lines, product_steps, searches, depth_lines, checks, surveys, survey_texts, gate_lists, gate_texts, circulant_lines, circulant_texts, line_one_texts, budget_lines, budget_texts, refusals, from_one, limits, bytes_of, example, reference_lines}

-- ---- from the numbers of a request to its text

-- all have at most six digits
unfoldable pub all_six : List ℕ → Bool
all_six [] = true
all_six (v ∷ vs) = leb v 999999 && all_six vs

-- then they do
six_all : (vs : List ℕ) → all_six vs ≡ true → SixDigits vs
unfolding all_six
six_all [] e = six_none
six_all (v ∷ vs) e = six_more vs (leb-true v 999999 (and_left _ _ e)) (six_all vs (and_right (leb v 999999) _ e))

-- the numbers of a request fit its text
unfoldable pub fits : ℕ → ℕ → ℕ → List ℕ → List ℕ → Bool
fits kind polynomial order further values =
    all_six (kind ∷ polynomial ∷ order ∷ length values ∷ further ++ values) && (leb (length values) 670 && eqb (length further) (further_numbers kind))

-- then they are read back
read_request : (kind polynomial order : ℕ) (further values : List ℕ) → fits kind polynomial order further values ≡ true
    → (in_form (request_text kind polynomial order further values) ≡ true) × ReadAs (request_text kind polynomial order further values) kind polynomial order further values
unfolding fits
read_request k p o fs vs e =
    let right = and_right (all_six (k ∷ p ∷ o ∷ length vs ∷ fs ++ vs)) _ e in
    let few : length vs ≤ 670 = leb-true (length vs) 670 (and_left _ _ right) in
    let many = eqb-true (length fs) (further_numbers k) (and_right (leb (length vs) 670) _ right) in
    written_read k p o fs vs many (six_all (k ∷ p ∷ o ∷ length vs ∷ fs ++ vs) (and_left _ _ e)) (omega (arith, length_request k p o fs vs, many, further_le k))

-- what is due to the text is what is due to the numbers
due_numbers : (kind polynomial order : ℕ) (further values : List ℕ) → fits kind polynomial order further values ≡ true
    → due (request_text kind polynomial order further values) ≡ due_to (kind_among kinds kind) (request_with polynomial order (get_or further 0 0) values)
unfolding due due_to faults_of kind_in request_in budget_of
due_numbers k p o fs vs e =
    let (form, r) = read_request k p o fs vs e in
    rw (form, r.kind_is, r.polynomial_is, r.order_is, r.further_is, r.values_are) (sym (after_left [] _ 1 false _ refl))

-- without further numbers
pub due_request : (kind polynomial order : ℕ) (values : List ℕ) → fits kind polynomial order [] values ≡ true
    → due (request_text kind polynomial order [] values) ≡ due_to (kind_among kinds kind) (request polynomial order values)
due_request k p o vs e = due_numbers k p o [] vs e

-- ---- searches

-- what is due where this row, or none, is the lightest
search_due : (family : Family) (p n : ℕ) (candidates : List ℕ) (best : Best) → lightest_row (shape_of family) p n candidates ≡ best
    → due_to (kind_among kinds (search_number family)) (request p n candidates) ≡ unless_refused [] (first_number (search_faults family p n candidates best)) (best_lines p n best)
unfolding due_to kinds kind_among search check survey gates walk answer_after
search_due Hadamard p n candidates best e = rw e
search_due Circulant p n candidates best e = rw e

-- the same over a polynomial that is known to pass, which is not tested
passed_due : (family : Family) (p n : ℕ) (candidates : List ℕ) (best : Best) → Modulus p → lightest_row (shape_of family) p n candidates ≡ best
    → due_to (kind_among kinds (search_number family)) (request p n candidates)
    ≡ answer_after [] (fault 5 (is_wrong_order_for family n) ∷ fault 6 (is_wrong_count_for family n (length candidates)) ∷ fault 7 (some_too_large p candidates) ∷ fault 8 (some_bad candidates) ∷ fault 9 (is_none best) ∷ []) (best_lines p n best)
unfolding due_to search search_faults polynomial_faults
passed_due family p n candidates best h e =
    ap (λ (k : Kind). due_to k (request p n candidates)) (sym (kind_search (search_number family) family refl))
    ∙ (rw e (sym (modulus_passed [] (best_lines p n best) p _ h)))

-- ---- walks

-- what is due where a walk stands so
walk_due : (p n : ℕ) (candidates : List ℕ) (budget : ℕ) (w : Walked) → fits 6 p n (budget ∷ []) candidates ≡ true → walk_of p n candidates budget ≡ w
    → due (request_text 6 p n (budget ∷ []) candidates) ≡ answer_after [] (walk_faults p n candidates w) (walk_lines p n candidates w)
unfolding due_to walk
walk_due p n candidates budget w fit e =
    due_numbers 6 p n (budget ∷ []) candidates fit
    ∙ ap (λ (k : Kind). due_to k (request_with p n budget candidates)) (sym (kind_walk 6 refl))
    ∙ ap (λ (w : Walked). answer_after [] (walk_faults p n candidates w) (walk_lines p n candidates w)) e

-- a walk that is refused, whatever it finds
walk_refused : (p n : ℕ) (candidates : List ℕ) (budget : ℕ) (d : Answer (List (List ℕ))) → fits 6 p n (budget ∷ []) candidates ≡ true
    → ((w : Walked) → answer_after [] (walk_faults p n candidates w) (walk_lines p n candidates w) ≡ d) → due (request_text 6 p n (budget ∷ []) candidates) ≡ d
walk_refused p n candidates budget d fit h = walk_due p n candidates budget _ fit refl ∙ h (walk_of p n candidates budget)

-- ---- the table

-- two tables behind each other
all_append : {l r : List ReferenceLine} → AllReferenceSay l → AllReferenceSay r → AllReferenceSay (l ++ r)
all_append all_none k = k
all_append (h and rest) k = h and all_append rest k

-- whole texts
and_texts : {question reply : List String} {rest : List ReferenceLine} (d : Answer (List (List ℕ))) → due (bytes_of question) ≡ d
    → text_of d.number d.value ≡ bytes_of reply → AllReferenceSay rest → AllReferenceSay (texts question reply ∷ rest)
unfolding ReferenceSays
and_texts d h e rest = ◌and◌ {line = texts _ _} (ap (λ (d : Answer (List (List ℕ))). text_of d.number d.value) h ∙ e) rest

-- the elements, the searches, the example and the checks, line by line
elements_hold : AllReferenceSay element_lines
unfolding ReferenceSays element_lines power det sum without skip entries_of matrix_count row_count element_count addition_count total weight tabulate xor_count ones_in_columns ones ones_in product rem reduce degree over_digits digits_within ◌⊗◌ ◌⊕◌
elements_hold = refl and refl and refl and refl and refl and refl and refl and refl and refl and refl and all_none

product_steps_hold : AllReferenceSay product_steps
unfolding ReferenceSays product_steps tabulate doubled sum_after xtime bit product rem reduce degree over_digits digits_within ◌⊗◌ ◌⊕◌
product_steps_hold = refl and refl and refl and refl and refl and refl and refl and refl and refl and refl and all_none

searches_hold : AllReferenceSay searches
unfolding ReferenceSays searches fits all_six further_numbers is_outside is_irreducible some_below search_faults polynomial_faults first_number is_wrong_search_order is_wrong_search_count some_too_large is_too_large some_bad some_repeated member sum_of row_lines row_count element_count addition_count total weight tabulate xor_count ones_in_columns ones ones_in product rem reduce degree over_digits digits_within ◌⊗◌ ◌⊕◌
searches_hold =
    let (powers, three, few, four, fifteen) = over_nineteen in
    (due_request 1 19 4 _ refl ∙ search_due Hadamard 19 4 _ _ powers)
    and refl
    and refl
    and refl
    and (due_request 1 19 4 _ refl ∙ search_due Hadamard 19 4 _ _ three)
    and (due_request 1 19 4 _ refl ∙ search_due Hadamard 19 4 _ _ few)
    and (due_request 1 19 4 _ refl ∙ search_due Hadamard 19 4 _ _ fifteen)
    and all_none

depths_hold : AllReferenceSay depth_lines
unfolding ReferenceSays depth_lines fits all_six further_numbers is_outside is_irreducible some_below search_faults polynomial_faults first_number is_wrong_search_order is_wrong_search_count some_too_large is_too_large some_bad some_repeated member sum_of row_lines row_count element_count addition_count total weight tabulate xor_count ones_in_columns ones ones_in product rem reduce degree over_digits digits_within ◌⊗◌ ◌⊕◌ depth_of first_below depth_of_row line_depth greatest output_ones ones_in_line bit
depths_hold =
    let (fifteen, eleven, six) = by_depth_rows in
    refl
    and refl
    and refl
    and refl
    and refl
    and refl
    and refl
    and (due_request 1 31 4 _ refl ∙ search_due Hadamard 31 4 _ _ fifteen)
    and (due_request 1 31 4 _ refl ∙ search_due Hadamard 31 4 _ _ eleven)
    and refl
    and refl
    and (due_request 1 67 4 _ refl ∙ search_due Hadamard 67 4 _ _ six)
    and all_none

example_holds : AllReferenceSay example
unfolding ReferenceSays example fits all_six further_numbers is_outside is_irreducible some_below search_faults polynomial_faults first_number is_wrong_search_order is_wrong_search_count some_too_large is_too_large some_bad some_repeated member sum_of row_lines row_count element_count addition_count total weight tabulate xor_count ones_in_columns ones ones_in product rem reduce degree over_digits digits_within ◌⊗◌ ◌⊕◌ request_text answer_text line_text columns column column_byte value_text line_end bytes_of
example_holds =
    let worked = due_request 1 19 4 (1 ∷ 4 ∷ 9 ∷ 13 ∷ []) refl ∙ search_due Hadamard 19 4 _ _ over_nineteen.3 in
    let seventeen = due_request 1 19 8 (from_one 17) refl ∙ search_due Hadamard 19 8 _ _ refl in
    worked and and_texts _ worked refl (and_texts _ seventeen refl all_none)

checks_hold : AllReferenceSay checks
unfolding ReferenceSays checks fits all_six further_numbers due_to kinds kind_among search check answer_after first_number check_faults polynomial_faults is_wrong_order check_lines check_of entries_of matrix_count row_count element_count addition_count total is_outside is_irreducible some_below some_too_large is_too_large branch_number least_activity activity weight words before tabulate up_to elements apply sum is_mds is_involution gives_back same_words xor_count ones_in_columns ones ones_in product rem reduce degree over_digits digits_within ◌⊗◌ ◌⊕◌
checks_hold =
    due_request 2 7 2 _ refl
    and due_request 2 7 1 _ refl
    and due_request 2 7 2 _ refl
    and all_none

surveys_hold : AllReferenceSay surveys
unfolding ReferenceSays surveys fits all_six further_numbers due_to kinds kind_among search check survey answer_after first_number survey_faults survey_lines survey_line polynomials passing is_irreducible some_below total xor_count ones_in_columns ones ones_in product rem reduce degree over_digits digits_within ◌⊗◌ ◌⊕◌
surveys_hold = due_request 3 2 0 [] refl and due_request 3 3 0 [] refl and due_request 3 4 0 [] refl and all_none

survey_texts_hold : AllReferenceSay survey_texts
unfolding ReferenceSays survey_texts fits all_six further_numbers due_to kinds kind_among search check survey answer_after first_number survey_faults survey_lines survey_line polynomials passing tabulate is_irreducible some_below total xor_count ones_in_columns ones ones_in product rem reduce degree over_digits digits_within ◌⊗◌ ◌⊕◌ request_text answer_text line_text columns column column_byte value_text line_end bytes_of
survey_texts_hold = and_texts _ (due_request 3 3 0 [] refl) refl all_none

gate_lists_hold : AllReferenceSay gate_lists
unfolding ReferenceSays gate_lists fits all_six further_numbers due_to kinds kind_among search check survey gates walk answer_after first_number check_faults polynomial_faults is_wrong_order is_outside is_irreducible some_below some_too_large is_too_large gate_lines entries_of gates_of_matrix carriers_of_matrix outputs inputs_of is_input bit gates_from carriers_from gates_of carrier_of joining passing tabulate evaluate carried_bit wires product rem reduce degree over_digits digits_within ◌⊗◌ ◌⊕◌
gate_lists_hold =
    due_request 4 7 2 _ refl
    and due_request 4 7 1 _ refl
    and due_request 4 7 1 _ refl
    and due_request 4 11 2 _ refl
    and refl
    and refl
    and refl
    and due_request 4 3 1 _ refl
    and due_request 4 5 1 _ refl
    and due_request 4 7 0 _ refl
    and due_request 4 7 9 _ refl
    and due_request 4 7 2 _ refl
    and due_request 4 7 1 _ refl
    and due_request 9 7 1 _ refl
    and all_none

gate_texts_hold : AllReferenceSay gate_texts
unfolding ReferenceSays gate_texts fits all_six further_numbers due_to kinds kind_among search check survey gates walk answer_after first_number check_faults polynomial_faults is_wrong_order is_outside is_irreducible some_below some_too_large is_too_large gate_lines entries_of gates_of_matrix carriers_of_matrix outputs inputs_of is_input bit gates_from carriers_from gates_of carrier_of joining passing tabulate product rem reduce degree over_digits digits_within ◌⊗◌ ◌⊕◌ request_text answer_text line_text columns column column_byte value_text line_end bytes_of
gate_texts_hold =
    let d : Answer (List (List ℕ)) = answer 0 ((0 ∷ 1 ∷ []) ∷ (0 ∷ 1 ∷ []) ∷ (2 ∷ []) ∷ (0 ∷ []) ∷ []) in
    and_texts d (due_request 4 7 1 (3 ∷ []) refl) refl all_none

refusals_hold : AllReferenceSay refusals
unfolding ReferenceSays refusals first_number inverse_faults determinant_faults matrix_faults halved_faults polynomial_faults is_outside is_irreducible is_too_large is_wrong_order is_wrong_halved_order some_entry_too_large some_word_too_large some_below degree over_digits digits_within ◌⊗◌ ◌⊕◌
refusals_hold = refl and refl and refl and refl and refl and refl and refl and refl and all_none

-- a check over a polynomial with two factors
with_factors : (p n : ℕ) (values : List ℕ) → is_outside p ≡ false → (a b : ℕ) → 2 ≤ a → 2 ≤ b → a ⊗ b ≡ p
    → due_to (kind_among kinds 2) (request p n values) ≡ answer 4 []
unfolding due_to kinds kind_among search check answer_after first_number check_faults polynomial_faults
with_factors p n values inside a b l m e =
    let reducible = not_passed (is_irreducible p) (λ t. unfold Irreducible in irreducible_to p t a b l m e) in rw (inside, reducible) refl

-- a search that is not refused with 6, whatever row is the lightest
not_six : (family : Family) (p n : ℕ) (candidates : List ℕ) → fits (search_number family) p n [] candidates ≡ true
    → ((best : Best) → first_number (search_faults family p n candidates best) ≢ 6) → (due (request_text (search_number family) p n [] candidates)).number ≢ 6
unfolding search due_to
not_six family p n candidates fit passes e =
    let best = lightest_row (shape_of family) p n candidates in
    passes best
    (sym (after_number_is {A = List (List ℕ)} [] (best_lines p n best) (search_faults family p n candidates best))
    ∙ ap (λ (k : Kind). (due_to k (request p n candidates)).number) (kind_search (search_number family) family refl)
    ∙ sym (ap (λ (d : Answer (List (List ℕ))). d.number) (due_request (search_number family) p n candidates fit)) ∙ e)

-- sixteen candidates at order 8; eight of a circulant search
sixteen : (best : Best) → first_number (search_faults Hadamard 37 8 (from_one 16) best) ≢ 6
unfolding first_number search_faults polynomial_faults is_outside is_irreducible some_below is_wrong_search_order is_wrong_search_count some_too_large is_too_large some_bad some_repeated member degree over_digits digits_within ◌⊗◌ ◌⊕◌ tabulate
sixteen nothing e = omega arith
sixteen (found row) e = omega arith

eight : (best : Best) → first_number (search_faults Circulant 19 8 (from_one 8) best) ≢ 6
unfolding first_number search_faults polynomial_faults is_outside is_irreducible some_below is_wrong_circulant_order is_wrong_circulant_count some_too_large is_too_large some_bad some_repeated member degree over_digits digits_within ◌⊗◌ ◌⊕◌ tabulate
eight nothing e = omega arith
eight (found row) e = omega arith

-- circulant searches
four_worked : due (request_text 5 283 4 [] (1 ∷ 2 ∷ 3 ∷ [])) ≡ answer 0 ((0 ∷ 14 ∷ 38 ∷ 152 ∷ []) ∷ (1 ∷ 1 ∷ 2 ∷ 3 ∷ []) ∷ [])
unfolding fits all_six further_numbers answer_after first_number is_wrong_circulant_order is_wrong_circulant_count some_too_large is_too_large some_bad some_repeated member sum_of row_lines row_count element_count addition_count total weight tabulate xor_count ones_in_columns ones ones_in product rem reduce degree over_digits digits_within ◌⊗◌ ◌⊕◌
four_worked =
    due_request 5 283 4 (1 ∷ 2 ∷ 3 ∷ []) refl ∙ passed_due Circulant 283 4 (1 ∷ 2 ∷ 3 ∷ []) (found (1 ∷ 1 ∷ 2 ∷ 3 ∷ [])) two_eighty_three around_rows.2

circulants_hold : AllReferenceSay circulant_lines
unfolding ReferenceSays circulant_lines circulant fits all_six further_numbers due_to kinds kind_among search check survey gates walk answer_after is_wrong_circulant_order is_wrong_circulant_count is_outside is_irreducible some_below search_faults polynomial_faults first_number some_too_large is_too_large some_bad some_repeated member sum_of row_lines row_count element_count addition_count total weight tabulate xor_count ones_in_columns ones ones_in product rem reduce degree over_digits digits_within ◌⊗◌ ◌⊕◌ check_faults is_wrong_order check_lines check_of entries_of matrix_count branch_number least_activity activity words before up_to elements apply sum is_mds is_involution gives_back same_words
circulants_hold =
    let (two, three, four, none) = around_rows in
    refl
    and (due_request 5 7 2 _ refl ∙ search_due Circulant 7 2 _ _ two)
    and due_request 2 7 2 _ refl
    and (due_request 5 19 3 _ refl ∙ search_due Circulant 19 3 _ _ three)
    and four_worked
    and (due_request 5 7 2 _ refl ∙ search_due Circulant 7 2 _ _ none)
    and due_request 5 3 2 _ refl
    and due_request 5 5 2 _ refl
    and due_request 5 7 1 _ refl
    and due_request 5 7 9 _ refl
    and due_request 5 7 2 _ refl
    and due_request 5 19 2 _ refl
    and due_request 5 19 8 _ refl
    and not_six Circulant 19 8 (from_one 8) refl eight
    and due_request 5 7 2 _ refl
    and due_request 5 7 2 _ refl
    and due_request 5 7 2 _ refl
    and all_none

circulant_texts_hold : AllReferenceSay circulant_texts
unfolding ReferenceSays circulant_texts request_text answer_text line_text columns column column_byte value_text line_end bytes_of tabulate
circulant_texts_hold = and_texts _ four_worked refl all_none

-- line one by the kind
line_one_texts_hold : AllReferenceSay line_one_texts
unfolding ReferenceSays line_one_texts in_form rewritten same_bytes kind_of polynomial_of order_of count_of further_of further_numbers line_one_length values_of values_from numbers_from value_at number_at request_text line_text columns column column_byte value_text line_end bytes_of tabulate
line_one_texts_hold =
    and_texts (answer 1 []) (sym (text_refused _ refl)) refl
    (and_texts (answer 1 []) (sym (text_refused _ refl)) refl
    (and_texts (answer 1 []) (sym (text_refused _ refl)) refl
    (form_not_one _ refl and all_none)))

-- walks
walks_hold : AllReferenceSay budget_lines
unfolding ReferenceSays budget_lines fits all_six further_numbers answer_after is_outside is_irreducible some_below walk_faults polynomial_faults first_number is_wrong_search_order is_wrong_search_count some_too_large is_too_large some_bad some_repeated member walk_lines lower_bound sorted inserted sum_of_all ascending among up_to row_count element_count addition_count total weight tabulate xor_count ones_in_columns ones ones_in product rem reduce degree over_digits digits_within ◌⊗◌ ◌⊕◌
walks_hold =
    let (zero, one, all, most, none, few, first, eighth, ninth) = walked_rows in
    walk_due 19 4 _ 1 _ refl one
    and walk_due 19 4 _ 24 _ refl all
    and walk_due 19 4 _ 0 _ refl zero
    and walk_due 19 4 _ 23 _ refl most
    and walk_due 19 4 _ 24 _ refl none
    and walk_due 19 4 _ 0 _ refl few
    and walk_due 19 4 _ 999999 _ refl fifteen_walked.0
    and walk_due 19 4 _ 0 _ refl first
    and walk_due 31 4 _ 8 _ refl eighth
    and walk_due 31 4 _ 9 _ refl ninth
    and walk_due 31 4 _ 32760 _ refl fifteen_walked.1
    and walk_refused 3 4 _ 1 _ refl (λ w. refl)
    and walk_refused 5 4 _ 1 _ refl (λ w. refl)
    and walk_refused 7 2 _ 1 _ refl (λ w. refl)
    and walk_refused 7 4 _ 1 _ refl (λ w. refl)
    and walk_refused 37 8 _ 1 _ refl (λ w. refl)
    and walk_refused 7 4 _ 1 _ refl (λ w. refl)
    and walk_refused 7 4 _ 1 _ refl (λ w. refl)
    and walk_refused 7 4 _ 1 _ refl (λ w. refl)
    and all_none

walk_texts_hold : AllReferenceSay budget_texts
unfolding ReferenceSays budget_texts fits all_six further_numbers answer_after is_outside is_irreducible some_below walk_faults polynomial_faults first_number is_wrong_search_order is_wrong_search_count some_too_large is_too_large some_bad some_repeated member walk_lines lower_bound sorted inserted sum_of_all ascending among up_to row_count element_count addition_count total weight tabulate xor_count ones_in_columns ones ones_in product rem reduce degree over_digits digits_within ◌⊗◌ ◌⊕◌ request_text answer_text line_text columns column column_byte value_text line_end bytes_of
walk_texts_hold = and_texts _ (walk_due 19 4 (1 ∷ 4 ∷ 9 ∷ 13 ∷ []) 1 _ refl walked_rows.1) refl all_none

-- the limits
limits_hold : AllReferenceSay limits
unfolding ReferenceSays limits fits all_six further_numbers due_to kinds kind_among search check answer_after first_number check_faults search_faults polynomial_faults is_outside is_irreducible some_below is_wrong_search_order is_wrong_search_count some_too_large is_too_large some_bad some_repeated member degree over_digits digits_within ◌⊗◌ ◌⊕◌ tabulate
limits_hold =
    due_request 2 3 1 _ refl
    and (due_request 2 21 1 (0 ∷ []) refl ∙ with_factors 21 1 (0 ∷ []) refl 7 7 (lit≤ tt) (lit≤ tt) refl)
    and (due_request 2 511 1 (0 ∷ []) refl ∙ with_factors 511 1 (0 ∷ []) refl 7 73 (lit≤ tt) (lit≤ tt) refl)
    and due_request 2 512 1 _ refl
    and not_six Hadamard 37 8 (from_one 16) refl sixteen
    and due_request 1 37 8 _ refl
    and due_request 1 37 4 _ refl
    and all_none

-- every line of the table
pub lines_hold : AllReferenceSay reference_lines
unfolding reference_lines
lines_hold =
    all_append
    (all_append
    (all_append
    (all_append
    (all_append
    (all_append
    (all_append
    (all_append
    (all_append (all_append (all_append (all_append (all_append (all_append (all_append (all_append elements_hold product_steps_hold) searches_hold) depths_hold) checks_hold) surveys_hold) survey_texts_hold) gate_lists_hold) gate_texts_hold)
    circulants_hold)
    circulant_texts_hold)
    line_one_texts_hold)
    walks_hold)
    walk_texts_hold)
    refusals_hold)
    limits_hold)
    example_holds
